-- Effects, each as the list of its leaves in text order.
use Rattle.std.specs.Prelude.{ℕ, Bool, true, false, List, [], ◌∷◌, drop, codes, bytes_eq, if◌then◌else◌}
use Rattle.sexpr.specs.declared.tree.Tree.{Tree}
use Rattle.pddl_form.specs.Gather.{joined}
use Rattle.pddl_form.specs.declared.calls.Call.{Call}
use Rattle.pddl_form.specs.declared.names.Sort.TheVariants.{Term}
use Rattle.pddl_condition.specs.declared.expression.ExprAst.{ExprAst}
use Rattle.pddl_form.specs.Judged.{Judged, good, misshapen, mapped, each}
use Rattle.pddl_form.specs.Names.{is_symbol}
use Rattle.pddl_form.specs.Words.{word_of, spot_of}
use Rattle.pddl_form.specs.Calls.{arguments, call_form}
use Rattle.pddl_form.specs.Typed.{only}
use Rattle.pddl_form.specs.Parts.{two_parts}
use Rattle.pddl_condition.specs.Expression.{expression_form}
use Rattle.pddl_form.specs.Names.{is_one_of}
use Rattle.pddl_condition.specs.Condition.{not_read, negated_atom, negation}
use Rattle.pddl_form.specs.Recursion.{tree_rec}
use Rattle.pddl_domain.specs.declared.effect.EffAst.{EffAst}
use Rattle.pddl_domain.specs.declared.effect.EffAst.TheVariants as eff
use Rattle.pddl_domain.specs.declared.effect_heads.EffectHead.{EffectHead}
use Rattle.pddl_domain.specs.declared.effect_heads.EffectHead.TheVariants.{And, Not, Change, Unread, Predicate, Other}

-- the operators that change a function
abbrev pub changes : List (List ℕ)
changes = codes "assign" ∷ codes "decrease" ∷ codes "increase" ∷ codes "scale-down" ∷ codes "scale-up" ∷ []

-- the heads of effects that aren't read
abbrev pub unread_effects : List (List ℕ)
unread_effects = codes "forall" ∷ codes "when" ∷ []

-- any head but `and` and `not`
abbrev pub other_effect_head : List ℕ → EffectHead
other_effect_head text =
    if is_one_of changes text then Change
    else (if is_one_of unread_effects text then Unread
    else (if is_symbol text then Predicate else Other))

-- what a head makes of a list
unfoldable pub effect_head_of : List ℕ → EffectHead
effect_head_of text =
    if bytes_eq text (codes "and") then And
    else (if bytes_eq text (codes "not") then Not else other_effect_head text)

-- an atom that becomes true or false
abbrev pub put_leaf : Bool → Call → List EffAst
put_leaf pos call = only (eff.Put pos call.name call.args)

-- a function with its arguments that changes by an expression
abbrev pub change_leaf : Tree → Call × ExprAst → List EffAst
change_leaf head parts = only (eff.Change (spot_of head) parts.0.name parts.0.args parts.1)

-- `(OP (NAME TERM ..) EXPR)`
unfoldable pub change : ℕ → ℕ → Tree → List Tree → Judged (List EffAst)
change start end head parts = mapped (change_leaf head) (two_parts (call_form Term) expression_form start end parts)

-- a list with this head, these trees behind it and what an effect makes of each of them
abbrev pub effect_by : EffectHead → ℕ → ℕ → Tree → List Tree → List (Judged (List EffAst)) → Judged (List EffAst)
effect_by And start end head parts leaves = mapped joined (each leaves)
effect_by Not start end head parts leaves = mapped (put_leaf false) (negation (negated_atom Term head) start end parts)
effect_by Change start end head parts leaves = change start end head parts
effect_by Unread start end head parts leaves = not_read head
effect_by Predicate start end head parts leaves = mapped (put_leaf true) (arguments Term head parts)
effect_by Other start end head parts leaves = misshapen start

-- the same by the head's text
unfoldable pub headed_effect : ℕ → ℕ → Tree → List Tree → List (Judged (List EffAst)) → Judged (List EffAst)
headed_effect start end head parts leaves = effect_by (effect_head_of (word_of head)) start end head parts leaves

-- a list, where an empty one has no leaves
abbrev pub effect_list : ℕ → ℕ → List Tree → List (Judged (List EffAst)) → Judged (List EffAst)
effect_list start end [] made = good []
effect_list start end (head ∷ parts) made = headed_effect start end head parts (drop 1 made)

-- no effect is a word
abbrev pub effect_word : ℕ → ℕ → List ℕ → Judged (List EffAst)
effect_word start end text = misshapen start

-- an effect
unfoldable pub effect_form : Tree → Judged (List EffAst)
effect_form = tree_rec effect_word effect_list
