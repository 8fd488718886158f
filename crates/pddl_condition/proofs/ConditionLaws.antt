-- Equalities of objects, once their two sides are found, and lists that begin with the word `not`.
use Rattle.std.proofs.Common.{◌≡◌, ℕ, ◌-◌, Bool, List, [], ◌∷◌, Option, Some, None, true, false, refl, sym, ap, subst}
use Rattle.std.specs.Prelude.{if◌then◌else◌}
use Rattle.sexpr.specs.declared.tree.Tree.{Tree}
use Rattle.pddl_form.specs.declared.fault.Fault.{Fault}
use Rattle.pddl_condition.specs.declared.condition.CondAst.{CondAst}
use Rattle.pddl_form.specs.Faults.{first_with, shape}
use Rattle.pddl_form.specs.Judged.{Judged, good}
use Rattle.pddl_form.specs.Reading.{IsRead}
use Rattle.pddl_condition.specs.Condition.{equality, negated_equality, negated_atom_equality, same_leaf, may_follow, negation}
use Rattle.pddl_form.proofs.Loops.{read_good, read_bad, read_as, provided_as}

pub equality_read : (start end : ℕ) (head : Tree) (parts : List Tree) (sides : Tree × Tree) (found : Option (Tree × Tree)) (first : Option Fault) (leaves : List CondAst)
    → Some sides ≡ found → leaves ≡ same_leaf true sides → IsRead (equality start end head parts found) first first (Some leaves)
equality_read start end head parts sides found first leaves is same = subst (λ (o : Option (Tree × Tree)). IsRead (equality start end head parts o) first first (Some leaves)) is (read_as (good (same_leaf true sides)) first first (Some (same_leaf true sides)) (Some leaves) (read_good first (same_leaf true sides)) (ap Some same))

pub negated_equality_read : (word : Tree) (sides : Tree × Tree) (found : Option (Tree × Tree)) (first : Option Fault) (leaves : List CondAst)
    → Some sides ≡ found → leaves ≡ same_leaf false sides → IsRead (negated_equality word found) first first (Some leaves)
negated_equality_read word sides found first leaves is same = subst (λ (o : Option (Tree × Tree)). IsRead (negated_equality word o) first first (Some leaves)) is (read_as (good (same_leaf false sides)) first first (Some (same_leaf false sides)) (Some leaves) (read_good first (same_leaf false sides)) (ap Some same))

pub negated_atom_equality_read : {A : Type 0} (word : Tree) (start : ℕ) (sides : Tree × Tree) (found : Option (Tree × Tree)) (first new : Option Fault)
    → Some sides ≡ found → new ≡ Some (first_with first (shape start)) → IsRead {A = A} (negated_atom_equality word start found) first new None
negated_atom_equality_read {A = A} word start sides found first new is is_new = subst (λ (o : Option (Tree × Tree)). IsRead {A = A} (negated_atom_equality word start o) first new None) is (read_bad first new (shape start) is_new)

-- nothing stands behind the word `not`
pub negation_missing : {A : Type 0} (form : Tree → Judged A) (start end : ℕ) (parts : List Tree) (old new : Option Fault)
    → parts ≡ [] → new ≡ Some (first_with old (shape (end - 1))) → IsRead (negation form start end parts) old new None
unfolding negation
negation_missing form start end parts old new is is_new = subst (λ (ts : List Tree). IsRead (negation form start end ts) old new None) (sym is) (read_bad old new (shape (end - 1)) is_new)

-- a tree stands behind it, and perhaps more
pub negation_read : {A : Type 0} (form : Tree → Judged A) (start end : ℕ) (parts : List Tree) (t : Tree) (more : List Tree) (old mid new : Option Fault) (x y : Option A) (fits : Bool)
    → parts ≡ t ∷ more → IsRead (form t) old mid x → fits ≡ may_follow t more → y ≡ (if fits then x else None) → new ≡ (if fits then mid else Some (first_with mid (shape start)))
    → IsRead (negation form start end parts) old new y
unfolding negation
negation_read form start end parts t more old mid new x y fits is h is_fits is_y is_new =
    subst (λ (ts : List Tree). IsRead (negation form start end ts) old new y) (sym is)
    (provided_as fits (may_follow t more) start start (form t) old mid new x y is_fits refl h is_y is_new)
