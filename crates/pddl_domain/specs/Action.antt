-- Actions: `(:action NAME KEY VALUE ..)`, where each key stands at most once, in any order.
use Rattle.std.specs.Prelude.{ℕ, Bool, true, false, List, [], ◌∷◌, ◌++◌, codes, bytes_eq, if◌then◌else◌}
use Rattle.sexpr.specs.declared.tree.Tree.{Tree, out-Tree}
use Rattle.sexpr.specs.declared.tree.Tree.TheOpen.{Tree-F}
use Rattle.sexpr.specs.Opened.{start_of}
use Rattle.pddl_form.specs.declared.names.Sort.TheVariants.{Name, Variable}
use Rattle.pddl_form.specs.declared.spot.Spot.{Spot}
use Rattle.pddl_form.specs.declared.typed.Typed.{Typed}
use Rattle.pddl_form.specs.Faults.{shape}
use Rattle.pddl_form.specs.Judged.{Judged, good, misshapen, lacking, closing, mapped, both, besides}
use Rattle.pddl_form.specs.Put.{put_all}
use Rattle.pddl_form.specs.Words.{word_of, word_form}
use Rattle.pddl_form.specs.Typed.{typed_list}
use Rattle.pddl_condition.specs.Condition.{condition_form}
use Rattle.pddl_domain.specs.declared.action.ActionAst.{ActionAst}
use Rattle.pddl_domain.specs.declared.action.Key.{Key}
use Rattle.pddl_domain.specs.declared.action.Key.TheVariants as key
use Rattle.pddl_domain.specs.declared.action.Part.{Part}
use Rattle.pddl_domain.specs.declared.action.Part.TheVariants as part
use Rattle.pddl_domain.specs.declared.action.SeenKeys.{SeenKeys}
use Rattle.pddl_domain.specs.Effect.{effect_form}

-- which key a word is
unfoldable pub key_of : List ℕ → Key
key_of text =
    if bytes_eq text (codes ":parameters") then key.Parameters
    else (if bytes_eq text (codes ":precondition") then key.Precondition
    else (if bytes_eq text (codes ":effect") then key.Effect else key.Unknown))

-- which keys stood in front: none
abbrev pub no_keys : SeenKeys
no_keys = record { parameters = false; precondition = false; effect = false }

-- and one more
abbrev pub see_key : Key → SeenKeys → SeenKeys
see_key key.Parameters seen = record seen { parameters = true }
see_key key.Precondition seen = record seen { precondition = true }
see_key key.Effect seen = record seen { effect = true }
see_key key.Unknown seen = seen

-- a key isn't known, or stands twice
abbrev pub is_wrong_key : Key → SeenKeys → Bool
is_wrong_key key.Parameters seen = seen.parameters
is_wrong_key key.Precondition seen = seen.precondition
is_wrong_key key.Effect seen = seen.effect
is_wrong_key key.Unknown seen = true

-- a list of variables, by the tree that stands there
abbrev pub parameters_at : Tree-F Tree → Judged (List Typed)
parameters_at (Tree-F.Word start end text) = misshapen start
parameters_at (Tree-F.List start end items) = typed_list Variable end items

-- the value of `:parameters`: a typed list of variables in parentheses
unfoldable pub parameters_form : Tree → Judged (List Typed)
parameters_form tree = parameters_at (out-Tree tree)

-- a value by its key
abbrev pub part_by : Key → Tree → Tree → Judged Part
part_by key.Parameters word value = mapped part.Parameters (parameters_form value)
part_by key.Precondition word value = mapped part.Precondition (condition_form value)
part_by key.Effect word value = mapped part.Effect (effect_form value)
part_by key.Unknown word value = misshapen (start_of word)

-- a key with its value, behind the keys that were seen
unfoldable pub part_form : SeenKeys → Tree → Tree → Judged Part
part_form seen word value = if is_wrong_key (key_of (word_of word)) seen then misshapen (start_of word) else part_by (key_of (word_of word)) word value

-- a key that lacks its value
unfoldable pub lone_key : SeenKeys → Tree → ℕ → Judged (List Part)
lone_key seen word end = if is_wrong_key (key_of (word_of word)) seen then besides (shape (closing end)) (misshapen (start_of word)) else lacking end

-- keys and values one behind another, behind the keys that were seen
unfoldable pub parts_behind : ℕ → SeenKeys → List Tree → Judged (List Part)
parts_behind end seen [] = good []
parts_behind end seen (word ∷ []) = lone_key seen word end
parts_behind end seen (word ∷ value ∷ more) = both ◌∷◌ (part_form seen word value) (parts_behind end (see_key (key_of (word_of word)) seen) more)

-- a part that is put into an action
abbrev pub with_part : ActionAst → Part → ActionAst
with_part action (part.Parameters params) = record action { params = action.params ++ params }
with_part action (part.Precondition conds) = record action { conds = action.conds ++ conds }
with_part action (part.Effect effs) = record action { effs = action.effs ++ effs }

-- an action before its parts: what is missing is empty
abbrev pub bare_action : Spot → ActionAst
bare_action name = record { name = name; params = []; conds = []; effs = [] }

-- what stands behind the word `:action`
unfoldable pub action_form : ℕ → List Tree → Judged ActionAst
action_form end [] = lacking end
action_form end (name ∷ parts) = both (put_all with_part) (mapped bare_action (word_form Name name)) (parts_behind end no_keys parts)
