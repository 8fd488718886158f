-- How the basic values move with a pivot: the variable that leaves goes to its bound, and the other non-basic ones stay.
use Rattle.std.proofs.Common.{◌≡◌, ◌≢◌, ◌⊎◌, inl, inr, ℕ, [], ◌∷◌, ◌<◌, Bool, true, false, IsTrue, refl, sym, ap, subst, ◌∙◌}
use Rattle.std.proofs.lemmas.Bool.{cases_eq}
use lib.IntN.{pos}
use Rattle.algebra.proofs.Solve.{v, k, ◌⊕◌, ◌⊖◌, ◌⊗◌, inv, solve_from, eq, done}
use Rattle.rational.specs.Fraction.{Fraction, ◌+ℚ◌, ◌*ℚ◌, ◌-ℚ◌}
use Rattle.rational.proofs.FieldLaws.{fraction-ring}
use Rattle.tableau.specs.FiniteSums.{sum_below, only}
use Rattle.tableau.specs.Table.{Table, width, cell, is_basic, IsTidy}
use Rattle.tableau.proofs.SumLaws.{sum_same, sum_add, sum_only, only-same, only-other}
use Rattle.simplex_law.specs.Pairs.{plus_multiple, minus}
use Rattle.simplex_law.specs.Config.{Limits, row_pair, value_of, IsNext}
use Rattle.simplex_law.specs.declared.pair.Pair.{Pair}
use Rattle.simplex_law.proofs.Fitting.{value-other}
use Rattle.simplex_law.proofs.Keeping.{part_solves, next_tidy, next_same}

module _ (l : Limits) (t : Table) (q : ℕ → Pair) (r e : ℕ) (after : Table) (q' : ℕ → Pair) (tidy : IsTidy t) (x : IsNext l t q r e after q') where
  tidy' : IsTidy after
  tidy' = next_tidy l t q r e after q' tidy x

  -- a non-basic variable but r stays
  stays : (j : ℕ) → is_basic after j ≡ false → j ≢ r → (j ≡ e) ⊎ (j ≡ e → ⊥) → value_of after q' j ≡ value_of t q j
  stays j o d (inl s) = let a : is_basic after j ≡ true = ap (is_basic after) s ∙ x.pivoted.enters in let no_way : ⊥ = cc in absurd no_way
  stays j o d (inr n) = value-other after tidy' q' j o ∙ x.kept j d ∙ sym (value-other t tidy q j (sym (x.pivoted.stays j d n) ∙ o))

  module _ (f : Pair → Fraction) (lin : (u : Table) (p : ℕ → Pair) (i : ℕ) → f (row_pair u p i) ≡ sum_below (width u) (λ j. cell u i j *ℚ f (p j))) (i : ℕ) (li : i < width t) (b : IsTrue (is_basic after i)) where
    li' : i < width after
    li' = subst (λ (n : ℕ). i < n) (sym x.pivoted.same_width) li

    part : (j : ℕ) → j < width after → (j ≡ r) ⊎ (j ≡ r → ⊥) → (w : Bool) → is_basic after j ≡ w → cell after i j *ℚ f (value_of after q' j) ≡ cell after i j *ℚ f (value_of t q j) +ℚ only r (cell after i r *ℚ (f (value_of after q' r) -ℚ f (value_of t q r))) j
    part j lj (inl s) w o =
        let P : ℕ → Type 0 = λ m. cell after i m *ℚ f (value_of after q' m) ≡ cell after i m *ℚ f (value_of t q m) +ℚ only r (cell after i r *ℚ (f (value_of after q' r) -ℚ f (value_of t q r))) m in
        subst P (sym s)
        (solve_from fraction-ring (v 0 ⊗ v 1) (v 0 ⊗ v 2 ⊕ v 3) (cell after i r ∷ f (value_of after q' r) ∷ f (value_of t q r) ∷ only r (cell after i r *ℚ (f (value_of after q' r) -ℚ f (value_of t q r))) r ∷ [])
        (eq (inv (k (pos 1))) (v 3) (v 0 ⊗ (v 1 ⊖ v 2)) (only-same r _) done) refl)
    part j lj (inr d) true o =
        solve_from fraction-ring (v 0 ⊗ v 1) (v 0 ⊗ v 2 ⊕ v 3) (cell after i j ∷ f (value_of after q' j) ∷ f (value_of t q j) ∷ only r (cell after i r *ℚ (f (value_of after q' r) -ℚ f (value_of t q r))) j ∷ [])
        (eq (v 1 ⊖ v 2) (v 0) (k (pos 0)) (tidy'.basic_column i j li' lj o) (eq (inv (k (pos 1))) (v 3) (k (pos 0)) (only-other r _ j d) done)) refl
    part j lj (inr d) false o =
        solve_from fraction-ring (v 0 ⊗ v 1) (v 0 ⊗ v 2 ⊕ v 3) (cell after i j ∷ f (value_of after q' j) ∷ f (value_of t q j) ∷ only r (cell after i r *ℚ (f (value_of after q' r) -ℚ f (value_of t q r))) j ∷ [])
        (eq (v 0) (v 1) (v 2) (ap f (stays j o d (cases_eq j e))) (eq (inv (k (pos 1))) (v 3) (k (pos 0)) (only-other r _ j d) done)) refl

    pub part_moves : f (value_of after q' i) ≡ f (value_of t q i) +ℚ cell after i r *ℚ (f (value_of after q' r) -ℚ f (value_of t q r))
    part_moves =
        let n = width after in
        let lr : r < width after = subst (λ (m : ℕ). r < m) (sym x.pivoted.same_width) x.leaves.within in
        let g : ℕ → Fraction = λ j. cell after i j *ℚ f (value_of t q j) in
        let h : ℕ → Fraction = only r (cell after i r *ℚ (f (value_of after q' r) -ℚ f (value_of t q r))) in
        part_solves after tidy' q' f (lin after q') i li' b
        ∙ sum_same n (λ j. cell after i j *ℚ f (value_of after q' j)) (λ j. g j +ℚ h j) (λ j lj. part j lj (cases_eq j r) (is_basic after j) refl)
        ∙ sum_add n g h ∙ ap (λ w. sum_below n g +ℚ w) (sum_only n r (cell after i r *ℚ (f (value_of after q' r) -ℚ f (value_of t q r))) lr)
        ∙ ap (λ w. w +ℚ cell after i r *ℚ (f (value_of after q' r) -ℚ f (value_of t q r)))
        (sym ((next_same l t q r e after q' tidy x (λ j. f (value_of t q j))).0 (part_solves t tidy q f (lin t q)) i li' b))

  pub values_move : (i : ℕ) → i < width t → IsTrue (is_basic after i) → value_of after q' i ≡ plus_multiple (value_of t q i) (cell after i r) (minus (q' r) (value_of t q r))
  values_move i li b =
      let f : Pair → Fraction = λ p. p.main in
      let g : Pair → Fraction = λ p. p.small in
      let at_r : value_of after q' r ≡ q' r = value-other after tidy' q' r x.pivoted.leaves in
      let m : (value_of after q' i).main ≡ (value_of t q i).main +ℚ cell after i r *ℚ ((q' r).main -ℚ (value_of t q r).main) =
      part_moves f (λ u p n. refl) i li b ∙ ap (λ (w : Pair). (value_of t q i).main +ℚ cell after i r *ℚ (w.main -ℚ (value_of t q r).main)) at_r in
      let s : (value_of after q' i).small ≡ (value_of t q i).small +ℚ cell after i r *ℚ ((q' r).small -ℚ (value_of t q r).small) =
      part_moves g (λ u p n. refl) i li b ∙ ap (λ (w : Pair). (value_of t q i).small +ℚ cell after i r *ℚ (w.small -ℚ (value_of t q r).small)) at_r in
      let pair : Fraction → Fraction → Pair = λ a b. record { main = a; small = b } in
      ap (λ (a : Fraction). pair a (value_of after q' i).small) m ∙ ap (λ (c : Fraction). pair ((value_of t q i).main +ℚ cell after i r *ℚ ((q' r).main -ℚ (value_of t q r).main)) c) s
