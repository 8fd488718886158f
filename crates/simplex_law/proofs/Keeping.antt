-- What a step by Bland's rule keeps, at configurations as functions.
use Rattle.std.proofs.Common.{◌≡◌, ◌≢◌, ◌⊎◌, inl, inr, ◌↔◌, ℕ, zero, [], ◌∷◌, suc, ◌<◌, ◌≤◌, Bool, true, false, refl, sym, ap, subst, ◌∙◌, arith}
use Rattle.std.proofs.lemmas.Bool.{cases_eq}
use lib.IntN.{pos}
use Rattle.algebra.proofs.Solve.{v, k, ◌⊕◌, ◌⊗◌, inv, solve_from, eq, done}
use Rattle.rational.specs.Fraction.{Fraction, whole, ◌*ℚ◌}
use Rattle.rational.proofs.FieldLaws.{fraction-ring}
use Rattle.tableau.specs.FiniteSums.{sum_below}
use Rattle.tableau.specs.Table.{Table, width, cell, is_basic, Solves, IsTidy}
use Rattle.tableau.proofs.PivotLaws.{same_solutions, still_tidy}
use Rattle.tableau.proofs.SumLaws.{sum_same}
use Rattle.simplex_law.specs.Config.{Limits, lower_of, upper_of, row_pair, value_of, IsOn, IsPlaced, IsConsistent, IsNext}
use Rattle.simplex_law.specs.Runs.{IsRun}
use Rattle.simplex_law.specs.declared.pair.Pair.{Pair}
use Rattle.simplex_law.proofs.PairLaws.{fails}
use Rattle.simplex_law.proofs.Placing.{nonzero, placed_at}
use Rattle.simplex_law.proofs.Fitting.{value-basic, value-other}

-- a part of the values solves the equations
pub part_solves : (t : Table) → IsTidy t → (place : ℕ → Pair) (f : Pair → Fraction) → ((r : ℕ) → f (row_pair t place r) ≡ sum_below (width t) (λ j. cell t r j *ℚ f (place j))) → Solves t (λ i. f (value_of t place i))
part_solves t tidy place f h r lr b =
    ap f (value-basic t tidy place r b) ∙ h r ∙ sum_same (width t) (λ j. cell t r j *ℚ f (place j)) (λ j. cell t r j *ℚ f (value_of t place j)) (λ j l. by_basic j l (is_basic t j) refl)
  where
    by_basic : (j : ℕ) → j < width t → (w : Bool) → is_basic t j ≡ w → cell t r j *ℚ f (place j) ≡ cell t r j *ℚ f (value_of t place j)
    by_basic j l true e =
        solve_from fraction-ring (v 0 ⊗ v 1) (v 0 ⊗ v 2) (cell t r j ∷ f (place j) ∷ f (value_of t place j) ∷ []) (eq (v 1 ⊕ inv (v 2)) (v 0) (k (pos 0)) (tidy.basic_column r j lr l e) done) refl
    by_basic j l false e = ap (λ (x : Pair). cell t r j *ℚ f x) (sym (value-other t tidy place j e))

module _ (l : Limits) (t : Table) (q : ℕ → Pair) (r e : ℕ) (after : Table) (q' : ℕ → Pair) (tidy : IsTidy t) (x : IsNext l t q r e after q') where
  nz : cell t r e ≢ whole (pos 0)
  nz = nonzero x.side (cell t r e) (lower_of l e) (upper_of l e) (q e) x.enters.helps

  pub next_tidy : IsTidy after
  next_tidy = still_tidy t r e after x.pivoted tidy x.leaves.within x.enters.within x.leaves.basic x.enters.other nz

  pub next_same : (point : ℕ → Fraction) → Solves t point ↔ Solves after point
  next_same = same_solutions t r e after x.pivoted tidy x.leaves.within x.enters.within x.leaves.basic x.enters.other nz

  pub next_placed : IsConsistent l (width t) → IsPlaced l t q → IsPlaced l after q'
  next_placed c p j lj b = by_place (subst (λ (n : ℕ). j < n) x.pivoted.same_width lj) (cases_eq j r) (cases_eq j e)
    where
      by_place : j < width t → (j ≡ r) ⊎ (j ≡ r → ⊥) → (j ≡ e) ⊎ (j ≡ e → ⊥) → IsOn l j (q' j)
      by_place lt (inl s) d =
          subst (λ (i : ℕ). IsOn l i (q' i)) (sym s) (subst (λ (y : Pair). IsOn l r y) (sym x.moved) (placed_at l t q r x.side x.leaves.violates (c r x.leaves.within)))
      by_place lt (inr d) (inl s) = absurd (fails (is_basic after j) b (λ (u : Unit {0}). ap (is_basic after) s ∙ x.pivoted.enters) tt)
      by_place lt (inr d) (inr d') = subst (λ (y : Pair). IsOn l j y) (sym (x.kept j d)) (p j lt (sym (x.pivoted.stays j d d') ∙ b))

module _ (l : Limits) (m : ℕ) (table : ℕ → Table) (place : ℕ → ℕ → Pair) (leave enter : ℕ → ℕ) (run : IsRun l m table place leave enter) where
  -- at each configuration of a run
  pub record IsKept (i : ℕ) : Type 0 where
    pub tidy : IsTidy (table i)
    pub placed : IsPlaced l (table i) (place i)
    pub wide : width (table i) ≡ width (table 0)
    pub same : (point : ℕ → Fraction) → Solves (table 0) point ↔ Solves (table i) point

  pub kept : (i : ℕ) → i ≤ m → IsKept i
  kept zero h = record { tidy = run.tidy; placed = run.placed; wide = refl; same = λ point. ((λ s. s), (λ s. s)) }
  kept (suc i) h =
      let b : IsKept i = kept i (omega arith) in
      let x : IsNext l (table i) (place i) (leave i) (enter i) (table (suc i)) (place (suc i)) = run.next i (omega arith) in
      record {
        tidy = next_tidy l (table i) (place i) (leave i) (enter i) (table (suc i)) (place (suc i)) b.tidy x;
        placed = next_placed l (table i) (place i) (leave i) (enter i) (table (suc i)) (place (suc i)) b.tidy x (subst (λ (n : ℕ). IsConsistent l n) (sym b.wide) run.consistent) b.placed;
        wide = x.pivoted.same_width ∙ b.wide;
        same = λ point. let s = next_same l (table i) (place i) (leave i) (enter i) (table (suc i)) (place (suc i)) b.tidy x point in
            ((λ y. s.0 ((b.same point).0 y)), (λ y. (b.same point).1 (s.1 y)));
      }
