-- Where nothing is violated, some point meets every bound.
use Rattle.std.proofs.Common.{◌≡◌, ℕ, ◌<◌, Bool, true, false, cond, IsTrue, [], ◌∷◌, refl, sym, ap, subst, ◌∙◌}
use lib.IntN.{pos}
use Rattle.algebra.proofs.Solve.{v, k, ◌⊕◌, ◌⊗◌, inv, solve, solve_from, eq, done}
use Rattle.rational.specs.Fraction.{Fraction, ◌+ℚ◌, ◌*ℚ◌}
use Rattle.rational.proofs.FieldLaws.{fraction-ring}
use Rattle.tableau.specs.FiniteSums.{sum_below}
use Rattle.tableau.specs.Table.{Table, width, cell, is_basic, Solves, IsTidy}
use Rattle.tableau.proofs.SumLaws.{sum_same, sum_add, sum_multiple}
use Rattle.simplex_law.specs.Pairs.{at_small, HoldsSmall}
use Rattle.simplex_law.specs.Bounds.{MeetsLower, MeetsUpper}
use Rattle.simplex_law.specs.Config.{Limits, lower_of, upper_of, row_pair, value_of, IsOn, IsPlaced, IsSettled, MeetsAll}
use Rattle.simplex_law.specs.declared.pair.Pair.{Pair}
use Rattle.simplex_law.proofs.Small.{both, all_below, some_small, lower_small, upper_small}

module _ (t : Table) (tidy : IsTidy t) (place : ℕ → Pair) where
  -- the value of a variable that is basic, and of one that isn't
  pub value-basic : (i : ℕ) → IsTrue (is_basic t i) → value_of t place i ≡ row_pair t place i
  value-basic i b = ap (λ (w : Bool). cond w (row_pair t place i) (place i)) b

  pub value-other : (i : ℕ) → is_basic t i ≡ false → value_of t place i ≡ place i
  value-other i b = ap (λ (w : Bool). cond w (row_pair t place i) (place i)) b

  -- the values solve the equations, whatever the small part counts
  pub values_solve : (d : Fraction) → Solves t (λ i. at_small (value_of t place i) d)
  values_solve d r lr b =
      let n = width t in
      let f = λ (j : ℕ). cell t r j *ℚ (place j).main in
      let g = λ (j : ℕ). cell t r j *ℚ (place j).small in
      ap (λ (x : Pair). at_small x d) (value-basic r b)
      ∙ solve fraction-ring (v 0 ⊕ v 1 ⊗ v 2) (v 0 ⊕ v 2 ⊗ v 1) (sum_below n f ∷ sum_below n g ∷ d ∷ []) refl
      ∙ ap (λ (w : Fraction). sum_below n f +ℚ w) (sym (sum_multiple n d g))
      ∙ sym (sum_add n f (λ j. d *ℚ g j))
      ∙ sum_same n (λ j. f j +ℚ d *ℚ g j) (λ j. cell t r j *ℚ at_small (value_of t place j) d) (λ j l. by_basic j l (is_basic t j) refl)
    where
      by_basic : (j : ℕ) → j < width t → (w : Bool) → is_basic t j ≡ w → cell t r j *ℚ (place j).main +ℚ d *ℚ (cell t r j *ℚ (place j).small) ≡ cell t r j *ℚ at_small (value_of t place j) d
      by_basic j l true e =
          solve_from fraction-ring (v 0 ⊗ v 1 ⊕ v 3 ⊗ (v 0 ⊗ v 2)) (v 0 ⊗ v 4) (cell t r j ∷ (place j).main ∷ (place j).small ∷ d ∷ at_small (value_of t place j) d ∷ [])
          (eq (v 1 ⊕ v 3 ⊗ v 2 ⊕ inv (v 4)) (v 0) (k (pos 0)) (tidy.basic_column r j lr l e) done) refl
      by_basic j l false e =
          solve fraction-ring (v 0 ⊗ v 1 ⊕ v 3 ⊗ (v 0 ⊗ v 2)) (v 0 ⊗ (v 1 ⊕ v 2 ⊗ v 3)) (cell t r j ∷ (place j).main ∷ (place j).small ∷ d ∷ []) refl
          ∙ ap (λ (x : Pair). cell t r j *ℚ at_small x d) (sym (value-other j e))

  pub all_on : (l : Limits) → IsPlaced l t place → IsSettled l t place → (i : ℕ) → i < width t → IsOn l i (value_of t place i)
  all_on l p s i li = by_basic (is_basic t i) refl
    where
      by_basic : (w : Bool) → is_basic t i ≡ w → IsOn l i (value_of t place i)
      by_basic true e = subst (λ (x : Pair). IsOn l i x) (sym (value-basic i e)) (s i li e)
      by_basic false e = subst (λ (x : Pair). IsOn l i x) (sym (value-other i e)) (p i li e)

  -- nothing violated: each small d makes a point that meets every bound
  pub settled_small : (l : Limits) → IsPlaced l t place → IsSettled l t place → HoldsSmall (λ d. MeetsAll l (width t) (λ i. at_small (value_of t place i) d))
  settled_small l p s =
      all_below (λ i d. MeetsLower (lower_of l i) (at_small (value_of t place i) d) × MeetsUpper (upper_of l i) (at_small (value_of t place i) d)) (width t)
      (λ i li. both (λ d. MeetsLower (lower_of l i) (at_small (value_of t place i) d)) (λ d. MeetsUpper (upper_of l i) (at_small (value_of t place i) d))
      (lower_small (lower_of l i) (value_of t place i) (all_on l p s i li).0) (upper_small (upper_of l i) (value_of t place i) (all_on l p s i li).1))

  pub fits : (l : Limits) → IsPlaced l t place → IsSettled l t place → (point : ℕ → Fraction) × Solves t point × MeetsAll l (width t) point
  fits l p s =
      let x = some_small (λ d. MeetsAll l (width t) (λ i. at_small (value_of t place i) d)) (settled_small l p s) in
      ((λ i. at_small (value_of t place i) x.0), values_solve x.0, x.2)
