-- The factors with which variables add up to 0 on all solutions are fixed, up to that of one basic variable.
use Rattle.std.proofs.Common.{◌≡◌, ◌≢◌, ◌⊎◌, inl, inr, ◌↔◌, ℕ, ◌<◌, Bool, true, false, IsTrue, cond, [], ◌∷◌, refl, sym, ap, subst, ◌∙◌}
use Rattle.std.proofs.lemmas.Bool.{cases_eq}
use lib.IntN.{pos}
use Rattle.algebra.proofs.Solve.{v, k, ◌⊕◌, ◌⊗◌, inv, solve_from, eq, done}
use Rattle.rational.specs.Fraction.{Fraction, whole, ◌+ℚ◌, ◌*ℚ◌, neg_ℚ}
use Rattle.rational.proofs.FieldLaws.{fraction-ring}
use Rattle.tableau.specs.FiniteSums.{sum_below, only}
use Rattle.tableau.specs.Table.{Table, width, cell, is_basic, row_value, Solves, IsTidy}
use Rattle.tableau.proofs.SumLaws.{sum_same, sum_add, sum_only, only-same, only-other}

module _ (t : Table) (tidy : IsTidy t) where
  -- the solution with these values of the non-basic variables
  abbrev pub solution : (ℕ → Fraction) → ℕ → Fraction
  solution f i = cond (is_basic t i) (row_value t i f) (f i)

  solution-basic : (f : ℕ → Fraction) (i : ℕ) → IsTrue (is_basic t i) → solution f i ≡ row_value t i f
  solution-basic f i b = ap (λ (w : Bool). cond w (row_value t i f) (f i)) b

  solution-other : (f : ℕ → Fraction) (i : ℕ) → is_basic t i ≡ false → solution f i ≡ f i
  solution-other f i b = ap (λ (w : Bool). cond w (row_value t i f) (f i)) b

  pub solution_solves : (f : ℕ → Fraction) → Solves t (solution f)
  solution_solves f r lr b = solution-basic f r b ∙ sum_same (width t) (λ j. cell t r j *ℚ f j) (λ j. cell t r j *ℚ solution f j) (λ j l. by_basic j l (is_basic t j) refl)
    where
      by_basic : (j : ℕ) → j < width t → (w : Bool) → is_basic t j ≡ w → cell t r j *ℚ f j ≡ cell t r j *ℚ solution f j
      by_basic j l true e = solve_from fraction-ring (v 0 ⊗ v 1) (v 0 ⊗ v 2) (cell t r j ∷ f j ∷ solution f j ∷ []) (eq (v 1 ⊕ inv (v 2)) (v 0) (k (pos 0)) (tidy.basic_column r j lr l e) done) refl
      by_basic j l false e = ap (λ (w : Fraction). cell t r j *ℚ w) (sym (solution-other f j e))

  pub fixed_by_one : (g : ℕ → Fraction) → ((point : ℕ → Fraction) → Solves t point → sum_below (width t) (λ i. g i *ℚ point i) ≡ whole (pos 0))
      → (r : ℕ) → r < width t → IsTrue (is_basic t r) → ((i : ℕ) → IsTrue (is_basic t i) → i ≢ r → g i ≡ whole (pos 0)) → (j : ℕ) → j < width t → is_basic t j ≡ false → g j ≡ neg_ℚ (g r *ℚ cell t r j)
  fixed_by_one g zero_sum r lr b others j lj o =
      solve_from fraction-ring (v 0) (inv (v 1 ⊗ v 2)) (g j ∷ g r ∷ cell t r j ∷ [])
      (eq (k (pos 1)) (v 1 ⊗ v 2 ⊕ v 0) (k (pos 0)) (sym total ∙ zero_sum p (solution_solves f)) done) refl
    where
      f : ℕ → Fraction
      f = only j (whole (pos 1))

      p : ℕ → Fraction
      p = solution (only j (whole (pos 1)))

      d : r ≢ j
      d e = let a : is_basic t r ≡ false = ap (is_basic t) e ∙ o in let u : IsTrue (is_basic t r) = b in cc

      at_r : solution (only j (whole (pos 1))) r ≡ cell t r j
      at_r =
          solution-basic (only j (whole (pos 1))) r b ∙ sum_same (width t) (λ i. cell t r i *ℚ only j (whole (pos 1)) i) (only j (cell t r j)) (λ i l. by_place i (cases_eq i j)) ∙ sum_only (width t) j (cell t r j) lj
        where
          by_place : (i : ℕ) → (i ≡ j) ⊎ (i ≡ j → ⊥) → cell t r i *ℚ only j (whole (pos 1)) i ≡ only j (cell t r j) i
          by_place i (inl e) =
              subst (λ (n : ℕ). cell t r n *ℚ only j (whole (pos 1)) n ≡ only j (cell t r j) n) (sym e)
              (solve_from fraction-ring (v 0 ⊗ v 1) (v 2) (cell t r j ∷ only j (whole (pos 1)) j ∷ only j (cell t r j) j ∷ []) (eq (v 0) (v 1) (k (pos 1)) (only-same j (whole (pos 1))) (eq (inv (k (pos 1))) (v 2) (v 0) (only-same j (cell t r j)) done)) refl)
          by_place i (inr n) =
              solve_from fraction-ring (v 0 ⊗ v 1) (v 2) (cell t r i ∷ only j (whole (pos 1)) i ∷ only j (cell t r j) i ∷ [])
              (eq (v 0) (v 1) (k (pos 0)) (only-other j (whole (pos 1)) i n) (eq (inv (k (pos 1))) (v 2) (k (pos 0)) (only-other j (cell t r j) i n) done)) refl

      at_j : solution (only j (whole (pos 1))) j ≡ whole (pos 1)
      at_j = solution-other (only j (whole (pos 1))) j o ∙ only-same j (whole (pos 1))

      total : sum_below (width t) (λ i. g i *ℚ solution (only j (whole (pos 1))) i) ≡ g r *ℚ cell t r j +ℚ g j
      total =
          sum_same (width t) (λ i. g i *ℚ solution (only j (whole (pos 1))) i) (λ i. only r (g r *ℚ cell t r j) i +ℚ only j (g j) i) (λ i l. by_place i (cases_eq i r) (cases_eq i j) (is_basic t i) refl)
          ∙ sum_add (width t) (only r (g r *ℚ cell t r j)) (only j (g j))
          ∙ ap (λ w. w +ℚ sum_below (width t) (only j (g j))) (sum_only (width t) r (g r *ℚ cell t r j) lr) ∙ ap (λ w. g r *ℚ cell t r j +ℚ w) (sum_only (width t) j (g j) lj)
        where
          whole_form : (i : ℕ) (x y z : Fraction) → only r (g r *ℚ cell t r j) i ≡ y → only j (g j) i ≡ z → g i *ℚ solution (only j (whole (pos 1))) i ≡ x → x ≡ y +ℚ z → g i *ℚ solution (only j (whole (pos 1))) i ≡ only r (g r *ℚ cell t r j) i +ℚ only j (g j) i
          whole_form i x y z a c e h = e ∙ h ∙ sym (ap (λ w. w +ℚ only j (g j) i) a ∙ ap (λ w. y +ℚ w) c)

          by_place : (i : ℕ) → (i ≡ r) ⊎ (i ≡ r → ⊥) → (i ≡ j) ⊎ (i ≡ j → ⊥) → (w : Bool) → is_basic t i ≡ w → g i *ℚ solution (only j (whole (pos 1))) i ≡ only r (g r *ℚ cell t r j) i +ℚ only j (g j) i
          by_place i (inl e) y w q =
              subst (λ (n : ℕ). g n *ℚ solution (only j (whole (pos 1))) n ≡ only r (g r *ℚ cell t r j) n +ℚ only j (g j) n) (sym e)
              (whole_form r (g r *ℚ cell t r j) (g r *ℚ cell t r j) (whole (pos 0)) (only-same r (g r *ℚ cell t r j)) (only-other j (g j) r d) (ap (λ (u : Fraction). g r *ℚ u) at_r) (solve_from fraction-ring (v 0) (v 0 ⊕ k (pos 0)) ((g r *ℚ cell t r j) ∷ []) done refl))
          by_place i (inr n) (inl e) w q =
              subst (λ (n : ℕ). g n *ℚ solution (only j (whole (pos 1))) n ≡ only r (g r *ℚ cell t r j) n +ℚ only j (g j) n) (sym e)
              (whole_form j (g j) (whole (pos 0)) (g j) (only-other r (g r *ℚ cell t r j) j (λ u. d (sym u))) (only-same j (g j))
              (solve_from fraction-ring (v 0 ⊗ v 1) (v 0) (g j ∷ solution (only j (whole (pos 1))) j ∷ []) (eq (v 0) (v 1) (k (pos 1)) at_j done) refl) (solve_from fraction-ring (v 0) (k (pos 0) ⊕ v 0) (g j ∷ []) done refl))
          by_place i (inr n) (inr m) true q =
              whole_form i (whole (pos 0)) (whole (pos 0)) (whole (pos 0)) (only-other r (g r *ℚ cell t r j) i n) (only-other j (g j) i m)
              (solve_from fraction-ring (v 0 ⊗ v 1) (k (pos 0)) (g i ∷ solution (only j (whole (pos 1))) i ∷ []) (eq (v 1) (v 0) (k (pos 0)) (others i q n) done) refl) (solve_from fraction-ring (k (pos 0)) (k (pos 0) ⊕ k (pos 0)) [] done refl)
          by_place i (inr n) (inr m) false q =
              whole_form i (whole (pos 0)) (whole (pos 0)) (whole (pos 0)) (only-other r (g r *ℚ cell t r j) i n) (only-other j (g j) i m)
              (solve_from fraction-ring (v 0 ⊗ v 1) (k (pos 0)) (g i ∷ solution (only j (whole (pos 1))) i ∷ []) (eq (v 0) (v 1) (k (pos 0)) (solution-other (only j (whole (pos 1))) i q ∙ only-other j (whole (pos 1)) i m) done) refl)
              (solve_from fraction-ring (k (pos 0)) (k (pos 0) ⊕ k (pos 0)) [] done refl)

-- ---- a basis determines the basic values
pub values_free : (t : Table) (value : ℕ → Fraction) → IsTidy t → (point : ℕ → Fraction) × Solves t point × ((j : ℕ) → j < width t → is_basic t j ≡ false → point j ≡ value j)
values_free t value tidy = (solution t tidy value, solution_solves t tidy value, (λ j l o. solution-other t tidy value j o))

pub values_determined : (t : Table) (p q : ℕ → Fraction) → IsTidy t → Solves t p → Solves t q → ((j : ℕ) → j < width t → is_basic t j ≡ false → p j ≡ q j) → (i : ℕ) → i < width t → p i ≡ q i
values_determined t p q tidy sp sq same i l = by_basic (is_basic t i) refl
  where
    part : (j : ℕ) → j < width t → (w : Bool) → is_basic t j ≡ w → cell t i j *ℚ p j ≡ cell t i j *ℚ q j
    part j m true e = solve_from fraction-ring (v 0 ⊗ v 1) (v 0 ⊗ v 2) (cell t i j ∷ p j ∷ q j ∷ []) (eq (v 1 ⊕ inv (v 2)) (v 0) (k (pos 0)) (tidy.basic_column i j l m e) done) refl
    part j m false e = ap (λ (w : Fraction). cell t i j *ℚ w) (same j m e)

    by_basic : (w : Bool) → is_basic t i ≡ w → p i ≡ q i
    by_basic true e = sp i l e ∙ sum_same (width t) (λ j. cell t i j *ℚ p j) (λ j. cell t i j *ℚ q j) (λ j m. part j m (is_basic t j) refl) ∙ sym (sq i l e)
    by_basic false e = same i l e

-- at a solution with 1 at j and 0 at the other non-basic variables, a basic one has its cell at j
unit_value : (t : Table) → IsTidy t → (p : ℕ → Fraction) → Solves t p → (j : ℕ) → j < width t → p j ≡ whole (pos 1) → ((i : ℕ) → i < width t → is_basic t i ≡ false → i ≢ j → p i ≡ whole (pos 0))
    → (r : ℕ) → r < width t → IsTrue (is_basic t r) → p r ≡ cell t r j
unit_value t tidy p s j lj one others r lr b =
    s r lr b ∙ sum_same (width t) (λ i. cell t r i *ℚ p i) (only j (cell t r j)) (λ i l. by_place i l (cases_eq i j) (is_basic t i) refl) ∙ sum_only (width t) j (cell t r j) lj
  where
    by_place : (i : ℕ) → i < width t → (i ≡ j) ⊎ (i ≡ j → ⊥) → (w : Bool) → is_basic t i ≡ w → cell t r i *ℚ p i ≡ only j (cell t r j) i
    by_place i l (inl e) w q =
        subst (λ (n : ℕ). cell t r n *ℚ p n ≡ only j (cell t r j) n) (sym e)
        (solve_from fraction-ring (v 0 ⊗ v 1) (v 2) (cell t r j ∷ p j ∷ only j (cell t r j) j ∷ []) (eq (v 0) (v 1) (k (pos 1)) one (eq (inv (k (pos 1))) (v 2) (v 0) (only-same j (cell t r j)) done)) refl)
    by_place i l (inr n) true q =
        solve_from fraction-ring (v 0 ⊗ v 1) (v 2) (cell t r i ∷ p i ∷ only j (cell t r j) i ∷ []) (eq (v 1) (v 0) (k (pos 0)) (tidy.basic_column r i lr l q) (eq (inv (k (pos 1))) (v 2) (k (pos 0)) (only-other j (cell t r j) i n) done)) refl
    by_place i l (inr n) false q =
        solve_from fraction-ring (v 0 ⊗ v 1) (v 2) (cell t r i ∷ p i ∷ only j (cell t r j) i ∷ []) (eq (v 0) (v 1) (k (pos 0)) (others i l q n) (eq (inv (k (pos 1))) (v 2) (k (pos 0)) (only-other j (cell t r j) i n) done)) refl

pub cells_determined : (t u : Table) → IsTidy t → IsTidy u → width u ≡ width t → ((i : ℕ) → is_basic u i ≡ is_basic t i) → ((point : ℕ → Fraction) → Solves t point ↔ Solves u point)
    → (r j : ℕ) → r < width t → IsTrue (is_basic t r) → j < width t → is_basic t j ≡ false → cell u r j ≡ cell t r j
cells_determined t u tt' tu w same sols r j lr b lj o =
    let f : ℕ → Fraction = only j (whole (pos 1)) in
    let p : ℕ → Fraction = solution t tt' f in
    let s : Solves t p = solution_solves t tt' f in
    let one : p j ≡ whole (pos 1) = solution-other t tt' f j o ∙ only-same j (whole (pos 1)) in
    sym (unit_value u tu p ((sols p).0 s) j (subst (λ (n : ℕ). j < n) (sym w) lj) one (λ i l q n. solution-other t tt' f i (sym (same i) ∙ q) ∙ only-other j (whole (pos 1)) i n) r (subst (λ (n : ℕ). r < n) (sym w) lr) (same r ∙ b))
    ∙ unit_value t tt' p s j lj one (λ i l q n. solution-other t tt' f i q ∙ only-other j (whole (pos 1)) i n) r lr b
