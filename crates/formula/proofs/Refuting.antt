-- Readings that Farkas' lemma refutes hold together at no point. The expressions of readings have the constant 0.
use Rattle.std.proofs.Common.{◌≡◌, ℕ, Bool, true, false, not, cond, List, [], ◌∷◌, map, Option, Some, None, refl, ap, subst, ◌∙◌}
use Rattle.std.specs.Prelude.{All}
use Rattle.std.specs.List.{AllByRecursion}
use Rattle.std.proofs.lemmas.List.Elements.{All-from_recursion, recursion_from_All}
use lib.IntN.{pos, negsuc}
use Rattle.algebra.proofs.Solve.{v, k, ◌⊕◌, inv, solve, solve_from, eq, done}
use Rattle.rational.specs.Fraction.{Fraction, whole, ◌+ℚ◌, neg_ℚ}
use Rattle.rational.specs.Linear.{value_at}
use Rattle.rational.specs.Farkas.{Row, InOrder, IsTrueAt}
use Rattle.rational.proofs.FieldLaws.{fraction-ring}
use Rattle.rational.proofs.FarkasLaws.{farkas}
use Rattle.lin.specs.Linear.{Linear}
use Rattle.lin.specs.Negative.{negative}
use Rattle.lin.proofs.Negatives.{constant-negative}
use Rattle.formula.specs.declared.atom.Atom.{Atom}
use Rattle.formula.specs.declared.atom.Constraint.{Constraint}
use Rattle.formula.specs.declared.atom.Lit.{Lit}
use Rattle.formula.specs.Atoms.{is_one_count}
use Rattle.formula.specs.Contents.{Contents, IsFormula}
use Rattle.formula.specs.Reading.{Holds, reading, reading_where, reading_of, denied, opposite, atom_of}
use Rattle.formula.specs.Farkas.{Taken, taken, row_of, IsFarkas}
use Rattle.formula.proofs.Readings.{atom_is}

minus_zero : (x : Fraction) → x ≡ whole (pos 0) → neg_ℚ x ≡ whole (pos 0)
minus_zero x e = solve_from fraction-ring (inv (v 0)) (k (pos 0)) (x ∷ []) (eq (k (negsuc 0)) (v 0) (k (pos 0)) e done) refl

negative_zero : (l : Linear) → l.constant ≡ whole (pos 0) → (negative l).constant ≡ whole (pos 0)
negative_zero l e = constant-negative l ∙ minus_zero l.constant e

denied_zero : (counts : List Bool) (a : Atom) → a.lin.constant ≡ whole (pos 0) → (denied counts a).lin.constant ≡ whole (pos 0)
denied_zero counts a e = by_kind (is_one_count counts a.lin.terms)
  where
    by_kind : (b : Bool) → (let d : Constraint = cond b (record { lin = negative a.lin; strict = false; bound = neg_ℚ (a.bound +ℚ whole (pos 1)) }) (record { lin = negative a.lin; strict = not a.strict; bound = neg_ℚ a.bound }) in d.lin.constant ≡ whole (pos 0))
    by_kind true = negative_zero a.lin e
    by_kind false = negative_zero a.lin e

reading_zero : (counts : List Bool) (a : Atom) (p : Bool) → a.lin.constant ≡ whole (pos 0) → (reading counts a p).lin.constant ≡ whole (pos 0)
reading_zero counts a true e = e
reading_zero counts a false e = denied_zero counts a e

constant_zero : (f : Contents) (l : Lit) → IsFormula f → (reading_of f l).lin.constant ≡ whole (pos 0)
constant_zero f l h = by_atom (atom_of f l.boolean) refl
  where
    by_atom : (o : Option Atom) → atom_of f l.boolean ≡ o → (reading_where f.counts o l.pos).lin.constant ≡ whole (pos 0)
    by_atom None e = refl
    by_atom (Some a) e = reading_zero f.counts a l.pos (atom_is f l.boolean a h e).constant

-- a constraint without a constant holds where its row is true
row_true : (point : ℕ → Fraction) (t : Taken) → t.0.lin.constant ≡ whole (pos 0) → Holds point t.0 → IsTrueAt point (row_of t)
row_true point t e h =
    let P : Fraction → Type 0 = λ x. InOrder t.0.strict x t.0.bound in
    subst P (ap (λ x. value_at point t.0.lin.terms +ℚ x) e ∙ solve fraction-ring (v 0 ⊕ k (pos 0)) (v 0) (value_at point t.0.lin.terms ∷ []) refl) h

rows_true : (f : Contents) (point : ℕ → Fraction) (ls : List Lit) (cs : List Fraction) → IsFormula f → AllByRecursion (λ t. Holds point t.0) (taken f ls cs)
    → AllByRecursion (λ r. IsTrueAt point r) (map row_of (taken f ls cs))
rows_true f point [] cs h a = tt
rows_true f point (l ∷ ls) [] h a = tt
rows_true f point (l ∷ ls) (c ∷ cs) h a = (row_true point (reading_of f (opposite l), c) (constant_zero f (opposite l) h) a.0, rows_true f point ls cs h a.1)

pub refuted_nowhere : (f : Contents) (ls : List Lit) (cs : List Fraction) (point : ℕ → Fraction) → IsFormula f → IsFarkas (taken f ls cs) → ¬ (All (λ t. Holds point t.0) (taken f ls cs))
refuted_nowhere f ls cs point h r a =
    farkas (map row_of (taken f ls cs)) point r
    (All-from_recursion (λ (x : Row). IsTrueAt point x) (map row_of (taken f ls cs))
    (rows_true f point ls cs h (recursion_from_All (λ (t : Taken). Holds point t.0) (taken f ls cs) a)))
