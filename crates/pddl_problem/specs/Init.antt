-- Items of the initial state: `(NAME name ..)`, `(not (NAME name ..))` or `(= (NAME name ..) NUMBER)`.
use Rattle.std.specs.Prelude.{ℕ, Bool, true, false, not, ◌&&◌, List, [], ◌∷◌, codes, bytes_eq, if◌then◌else◌}
use Rattle.rational.specs.Fraction.{Fraction}
use Rattle.sexpr.specs.declared.tree.Tree.{Tree, out-Tree}
use Rattle.sexpr.specs.declared.tree.Tree.TheOpen.{Tree-F}
use Rattle.sexpr.specs.Spelling.{is_list}
use Rattle.pddl_form.specs.declared.calls.Call.{Call}
use Rattle.pddl_form.specs.declared.names.Sort.TheVariants.{Name}
use Rattle.pddl_form.specs.Judged.{Judged, misshapen, lacking, mapped}
use Rattle.pddl_form.specs.Names.{is_symbol}
use Rattle.pddl_form.specs.Words.{word_of}
use Rattle.pddl_form.specs.Calls.{arguments, call_form}
use Rattle.pddl_form.specs.Parts.{two_parts}
use Rattle.pddl_condition.specs.Expression.{number_form}
use Rattle.pddl_condition.specs.Condition.{negated_atom, negation, not_read}
use Rattle.pddl_problem.specs.declared.ast.InitAst.{InitAst}
use Rattle.pddl_problem.specs.declared.ast.InitAst.TheVariants as item
use Rattle.pddl_problem.specs.declared.init.Head.{Head}
use Rattle.pddl_problem.specs.declared.init.Head.TheVariants.{Equal, At, Not, Predicate, Other}

-- an atom that is true at the start or not, with the place of its item
abbrev pub put_item : Bool → ℕ → Call → InitAst
put_item pos place call = item.Put pos call.name call.args place

-- the value of a function, with the place of its item
abbrev pub value_item : ℕ → Call × Fraction → InitAst
value_item place first = item.Value first.0.name first.0.args first.1 place

-- by cases on the tree
abbrev pub value_at : Tree-F Tree → Judged Fraction
value_at (Tree-F.Word start end text) = number_form start text
value_at (Tree-F.List start end items) = misshapen start

-- a value: a word that spells a number
unfoldable pub value_form : Tree → Judged Fraction
value_form tree = value_at (out-Tree tree)

-- `(NAME name ..)`, which is true at the start
unfoldable pub true_atom : ℕ → Tree → List Tree → Judged InitAst
true_atom start head parts = mapped (put_item true start) (arguments Name head parts)

-- `(not (NAME name ..))`, by the word `not` and the trees behind it
unfoldable pub false_atom : ℕ → ℕ → Tree → List Tree → Judged InitAst
false_atom start end head parts = mapped (put_item false start) (negation (negated_atom Name head) start end parts)

-- `(= (NAME name ..) NUMBER)`, by the trees behind the `=`
unfoldable pub first_value : ℕ → ℕ → List Tree → Judged InitAst
first_value start end parts = mapped (value_item start) (two_parts (call_form Name) value_form start end parts)

-- what stands behind the word `at` in a timed literal, which isn't read: a word and a list
abbrev pub is_timed : List Tree → Bool
is_timed [] = false
is_timed (time ∷ []) = false
is_timed (time ∷ literal ∷ []) = not (is_list time) && is_list literal
is_timed (time ∷ literal ∷ t ∷ more) = false

-- `(at NAME ..)`, or a timed literal
abbrev pub at_item : ℕ → Tree → List Tree → Judged InitAst
at_item start head parts = if is_timed parts then not_read head else true_atom start head parts

-- a head that isn't in the table: that of an atom, or of no item
abbrev pub other_head : List ℕ → Head
other_head text = if is_symbol text then Predicate else Other

-- what a head makes of its list
unfoldable pub head_of : List ℕ → Head
head_of text =
    if bytes_eq text (codes "=") then Equal
    else (if bytes_eq text (codes "at") then At
    else (if bytes_eq text (codes "not") then Not else other_head text))

-- by cases on that
abbrev pub init_by : Head → ℕ → ℕ → Tree → List Tree → Judged InitAst
init_by Equal start end head parts = first_value start end parts
init_by At start end head parts = at_item start head parts
init_by Not start end head parts = false_atom start end head parts
init_by Predicate start end head parts = true_atom start head parts
init_by Other start end head parts = misshapen start

-- a list with this head and these trees behind it
unfoldable pub headed_init : ℕ → ℕ → Tree → List Tree → Judged InitAst
headed_init start end head parts = init_by (head_of (word_of head)) start end head parts

-- a list, which isn't empty
abbrev pub init_list : ℕ → ℕ → List Tree → Judged InitAst
init_list start end [] = lacking end
init_list start end (head ∷ parts) = headed_init start end head parts

-- by cases on the tree
abbrev pub init_at : Tree-F Tree → Judged InitAst
init_at (Tree-F.Word start end text) = misshapen start
init_at (Tree-F.List start end items) = init_list start end items

-- an item
unfoldable pub init_form : Tree → Judged InitAst
init_form tree = init_at (out-Tree tree)
