-- A `not` that isn't read is the one fault of its list.
use Rattle.std.proofs.Common.{◌≡◌, ℕ, ◌||◌, ◌==◌, Bool, true, List, [], ◌∷◌, length, Option, Some, None, refl, ◌∙◌, ap}
use Rattle.std.specs.Option.{is_none}
use Rattle.sexpr.specs.declared.tree.Tree.{Tree, out-Tree}
use Rattle.sexpr.specs.declared.tree.Tree.TheOpen.{Tree-F}
use Rattle.pddl_form.specs.declared.calls.Call.{Call}
use Rattle.pddl_condition.specs.declared.heads.Head.{Head}
use Rattle.pddl_condition.specs.declared.heads.Head.TheVariants.{And, Not, Equal, Order, Unread, Predicate, Other}
use Rattle.pddl_form.specs.declared.names.Sort.{Sort}
use Rattle.pddl_form.specs.Faults.{shape}
use Rattle.pddl_form.specs.Judged.{Judged, provided}
use Rattle.pddl_form.specs.Words.{word_of}
use Rattle.pddl_condition.specs.Condition.{head_of, equal_sides, not_read, negated_equality, negated_by, negated_at, negated, negated_atom_equality, negated_atom_by, negated_atom_at, negated_atom, unread_negation_by, unread_negation_at, is_unread_negation, negation}

negated_sides : (word : Tree) (sides : Option (Tree × Tree)) → is_none sides ≡ true → negated_equality word sides ≡ not_read word
negated_sides word (Some s) is = absurd (cc is)
negated_sides word None is = refl

negated_atom_sides : (word : Tree) (start : ℕ) (sides : Option (Tree × Tree)) → is_none sides ≡ true → negated_atom_equality {A = Call} word start sides ≡ not_read word
negated_atom_sides word start (Some s) is = absurd (cc is)
negated_atom_sides word start None is = refl

negated_head : (h : Head) (word head : Tree) (parts : List Tree) → unread_negation_by h parts ≡ true → negated_by h word head parts ≡ not_read word
negated_head Predicate word head parts is = absurd (cc is)
negated_head Equal word head parts is = negated_sides word (equal_sides parts) is
negated_head And word head parts is = refl
negated_head Not word head parts is = refl
negated_head Order word head parts is = refl
negated_head Unread word head parts is = refl
negated_head Other word head parts is = refl

negated_atom_head : (h : Head) (sort : Sort) (word : Tree) (start : ℕ) (head : Tree) (parts : List Tree) → unread_negation_by h parts ≡ true → negated_atom_by h sort word start head parts ≡ not_read word
negated_atom_head Predicate sort word start head parts is = absurd (cc is)
negated_atom_head Equal sort word start head parts is = negated_atom_sides word start (equal_sides parts) is
negated_atom_head And sort word start head parts is = refl
negated_atom_head Not sort word start head parts is = refl
negated_atom_head Order sort word start head parts is = refl
negated_atom_head Unread sort word start head parts is = refl
negated_atom_head Other sort word start head parts is = refl

negated_cases : (word : Tree) (t : Tree-F Tree) → unread_negation_at t ≡ true → negated_at word t ≡ not_read word
negated_cases word (Tree-F.Word start end text) is = absurd (cc is)
negated_cases word (Tree-F.List start end []) is = absurd (cc is)
negated_cases word (Tree-F.List start end (head ∷ parts)) is = negated_head (head_of (word_of head)) word head parts is

negated_atom_cases : (sort : Sort) (word : Tree) (t : Tree-F Tree) → unread_negation_at t ≡ true → negated_atom_at sort word t ≡ not_read word
negated_atom_cases sort word (Tree-F.Word start end text) is = absurd (cc is)
negated_atom_cases sort word (Tree-F.List start end []) is = absurd (cc is)
negated_atom_cases sort word (Tree-F.List start end (head ∷ parts)) is = negated_atom_head (head_of (word_of head)) sort word start head parts is

-- the tree alone counts
alone : {A : Type 0} (form : Tree → Judged A) (start end : ℕ) (tree : Tree) (more : List Tree) → is_unread_negation tree ≡ true → negation form start end (tree ∷ more) ≡ form tree
unfolding negation
alone form start end tree more is = ap (λ (b : Bool). provided (b || length more == 0) (shape start) (form tree)) is

pub negated_alone : (start end : ℕ) (word tree : Tree) (more : List Tree) → is_unread_negation tree ≡ true → negation (negated word) start end (tree ∷ more) ≡ not_read word
unfolding negated is_unread_negation
negated_alone start end word tree more is = alone (negated word) start end tree more is ∙ negated_cases word (out-Tree tree) is

pub negated_atom_alone : (sort : Sort) (start end : ℕ) (word tree : Tree) (more : List Tree) → is_unread_negation tree ≡ true → negation (negated_atom sort word) start end (tree ∷ more) ≡ not_read word
unfolding negated_atom is_unread_negation
negated_atom_alone sort start end word tree more is = alone (negated_atom sort word) start end tree more is ∙ negated_atom_cases sort word (out-Tree tree) is
