-- Conditions, each as the list of its leaves in text order.
use Rattle.std.specs.Prelude.{ℕ, Bool, true, false, ◌&&◌, ◌||◌, ◌==◌, List, [], ◌∷◌, drop, length, Option, Some, None, codes, bytes_eq, if◌then◌else◌}
use Rattle.std.specs.Option.{is_none}
use Rattle.sexpr.specs.declared.tree.Tree.{Tree, out-Tree}
use Rattle.sexpr.specs.declared.tree.Tree.TheOpen.{Tree-F}
use Rattle.sexpr.specs.Opened.{start_of}
use Rattle.pddl_form.specs.Gather.{joined}
use Rattle.pddl_form.specs.declared.calls.Call.{Call}
use Rattle.pddl_form.specs.declared.names.Sort.{Sort}
use Rattle.pddl_form.specs.declared.names.Sort.TheVariants.{Term}
use Rattle.pddl_condition.specs.declared.expression.ExprAst.{ExprAst}
use Rattle.pddl_condition.specs.declared.condition.CondAst.{CondAst}
use Rattle.pddl_condition.specs.declared.condition.CondAst.TheVariants as cond
use Rattle.pddl_condition.specs.declared.heads.Head.{Head}
use Rattle.pddl_condition.specs.declared.heads.Head.TheVariants.{And, Not, Equal, Order, Unread, Predicate, Other}
use Rattle.pddl_form.specs.Faults.{shape}
use Rattle.pddl_form.specs.Judged.{Judged, good, misshapen, lacking, unread_feature, mapped, each, provided}
use Rattle.pddl_form.specs.Names.{is_one_of, is_symbol, takes}
use Rattle.pddl_form.specs.Words.{word_of, spot_of}
use Rattle.pddl_form.specs.Calls.{arguments}
use Rattle.pddl_form.specs.Typed.{only}
use Rattle.pddl_form.specs.Parts.{two_parts}
use Rattle.pddl_condition.specs.Expression.{expression_form}
use Rattle.pddl_form.specs.Recursion.{tree_rec}

-- the relations besides `=`, and the heads of conditions that aren't read
abbrev pub orders : List (List ℕ)
orders = codes "<" ∷ codes "<=" ∷ codes ">" ∷ codes ">=" ∷ []

abbrev pub unread : List (List ℕ)
unread = codes "exists" ∷ codes "forall" ∷ codes "imply" ∷ codes "or" ∷ codes "preference" ∷ []

-- any head but `and`, `not` and `=`
abbrev pub other_head : List ℕ → Head
other_head text =
    if is_one_of orders text then Order
    else (if is_one_of unread text then Unread
    else (if is_symbol text then Predicate else Other))

unfoldable pub head_of : List ℕ → Head
head_of text =
    if bytes_eq text (codes "and") then And
    else (if bytes_eq text (codes "not") then Not
    else (if bytes_eq text (codes "=") then Equal else other_head text))

-- the two sides of an equality of objects: two trees, each a name or a variable
abbrev pub equal_sides : List Tree → Option (Tree × Tree)
equal_sides [] = None
equal_sides (left ∷ []) = None
equal_sides (left ∷ right ∷ []) = if takes Term (word_of left) && takes Term (word_of right) then Some (left, right) else None
equal_sides (left ∷ right ∷ t ∷ more) = None

abbrev pub same_leaf : Bool → Tree × Tree → List CondAst
same_leaf pos sides = only (cond.Same pos (spot_of sides.0) (spot_of sides.1))

abbrev pub literal_leaf : Bool → Call → List CondAst
literal_leaf pos call = only (cond.Lit pos call.name call.args)

abbrev pub compare_leaf : Tree → ExprAst × ExprAst → List CondAst
compare_leaf head sides = only (cond.Compare (spot_of head) sides.0 sides.1)

-- `(REL EXPR EXPR)`
unfoldable pub comparison : ℕ → ℕ → Tree → List Tree → Judged (List CondAst)
comparison start end head parts = mapped (compare_leaf head) (two_parts expression_form expression_form start end parts)

-- `(= TERM TERM)`, or else a comparison
abbrev pub equality : ℕ → ℕ → Tree → List Tree → Option (Tree × Tree) → Judged (List CondAst)
equality start end head parts (Some sides) = good (same_leaf true sides)
equality start end head parts None = comparison start end head parts

-- a head that isn't read where it stands: `when`, `forall`, `at`, or `not` before a list that is neither an atom nor an
-- equality of objects
abbrev pub not_read : {A : Type 0} → Tree → Judged A
not_read word = unread_feature (start_of word) (word_of word)

abbrev pub negated_equality : Tree → Option (Tree × Tree) → Judged (List CondAst)
negated_equality word (Some sides) = good (same_leaf false sides)
negated_equality word None = not_read word

abbrev pub negated_by : Head → Tree → Tree → List Tree → Judged (List CondAst)
negated_by Predicate word head parts = mapped (literal_leaf false) (arguments Term head parts)
negated_by Equal word head parts = negated_equality word (equal_sides parts)
negated_by And word head parts = not_read word
negated_by Not word head parts = not_read word
negated_by Order word head parts = not_read word
negated_by Unread word head parts = not_read word
negated_by Other word head parts = not_read word

abbrev pub negated_list : Tree → ℕ → List Tree → Judged (List CondAst)
negated_list word end [] = lacking end
negated_list word end (head ∷ parts) = negated_by (head_of (word_of head)) word head parts

abbrev pub negated_at : Tree → Tree-F Tree → Judged (List CondAst)
negated_at word (Tree-F.Word start end text) = misshapen start
negated_at word (Tree-F.List start end items) = negated_list word end items

-- what stands behind the word `not`: an atom or an equality of objects
unfoldable pub negated : Tree → Tree → Judged (List CondAst)
negated word tree = negated_at word (out-Tree tree)

-- `not` isn't read before a list that has a head and is neither an atom nor an equality of objects
abbrev pub unread_negation_by : Head → List Tree → Bool
unread_negation_by Predicate parts = false
unread_negation_by Equal parts = is_none (equal_sides parts)
unread_negation_by And parts = true
unread_negation_by Not parts = true
unread_negation_by Order parts = true
unread_negation_by Unread parts = true
unread_negation_by Other parts = true

abbrev pub unread_negation_list : List Tree → Bool
unread_negation_list [] = false
unread_negation_list (head ∷ parts) = unread_negation_by (head_of (word_of head)) parts

abbrev pub unread_negation_at : Tree-F Tree → Bool
unread_negation_at (Tree-F.Word start end text) = false
unread_negation_at (Tree-F.List start end items) = unread_negation_list items

unfoldable pub is_unread_negation : Tree → Bool
is_unread_negation tree = unread_negation_at (out-Tree tree)

-- what may stand behind the tree that `not` stands before: nothing, or anything where `not` isn't read
abbrev pub may_follow : Tree → List Tree → Bool
may_follow tree more = is_unread_negation tree || length more == 0

-- `(not TREE)`, where this form judges the tree: a further tree is a fault of the list
unfoldable pub negation : {A : Type 0} → (Tree → Judged A) → ℕ → ℕ → List Tree → Judged A
negation form start end [] = lacking end
negation form start end (t ∷ more) = provided (may_follow t more) (shape start) (form t)

-- a list with this head, these trees behind it and what a condition makes of each of them
abbrev pub condition_by : Head → ℕ → ℕ → Tree → List Tree → List (Judged (List CondAst)) → Judged (List CondAst)
condition_by And start end head parts leaves = mapped joined (each leaves)
condition_by Not start end head parts leaves = negation (negated head) start end parts
condition_by Equal start end head parts leaves = equality start end head parts (equal_sides parts)
condition_by Order start end head parts leaves = comparison start end head parts
condition_by Unread start end head parts leaves = unread_feature (start_of head) (word_of head)
condition_by Predicate start end head parts leaves = mapped (literal_leaf true) (arguments Term head parts)
condition_by Other start end head parts leaves = misshapen start

unfoldable pub headed_condition : ℕ → ℕ → Tree → List Tree → List (Judged (List CondAst)) → Judged (List CondAst)
headed_condition start end head parts leaves = condition_by (head_of (word_of head)) start end head parts leaves

abbrev pub condition_list : ℕ → ℕ → List Tree → List (Judged (List CondAst)) → Judged (List CondAst)
condition_list start end [] made = good []
condition_list start end (head ∷ parts) made = headed_condition start end head parts (drop 1 made)

abbrev pub condition_word : ℕ → ℕ → List ℕ → Judged (List CondAst)
condition_word start end text = misshapen start

unfoldable pub condition_form : Tree → Judged (List CondAst)
condition_form = tree_rec condition_word condition_list

-- what stands behind the word `not` where an equality isn't of the form, as in an effect and in `:init`: an atom
abbrev pub negated_atom_equality : {A : Type 0} → Tree → ℕ → Option (Tree × Tree) → Judged A
negated_atom_equality word start (Some sides) = misshapen start
negated_atom_equality word start None = not_read word

abbrev pub negated_atom_by : Head → Sort → Tree → ℕ → Tree → List Tree → Judged Call
negated_atom_by Predicate sort word start head parts = arguments sort head parts
negated_atom_by Equal sort word start head parts = negated_atom_equality word start (equal_sides parts)
negated_atom_by And sort word start head parts = not_read word
negated_atom_by Not sort word start head parts = not_read word
negated_atom_by Order sort word start head parts = not_read word
negated_atom_by Unread sort word start head parts = not_read word
negated_atom_by Other sort word start head parts = not_read word

abbrev pub negated_atom_list : Sort → Tree → ℕ → ℕ → List Tree → Judged Call
negated_atom_list sort word start end [] = lacking end
negated_atom_list sort word start end (head ∷ parts) = negated_atom_by (head_of (word_of head)) sort word start head parts

abbrev pub negated_atom_at : Sort → Tree → Tree-F Tree → Judged Call
negated_atom_at sort word (Tree-F.Word start end text) = misshapen start
negated_atom_at sort word (Tree-F.List start end items) = negated_atom_list sort word start end items

unfoldable pub negated_atom : Sort → Tree → Tree → Judged Call
negated_atom sort word tree = negated_atom_at sort word (out-Tree tree)
