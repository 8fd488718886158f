-- The heart of Bland's rule: a variable can't leave the basis in one configuration and enter it in a later one at the bound
-- for which it left, where no greater variable moves between.
use Rattle.std.proofs.Common.{◌≡◌, ◌⊎◌, inl, inr, ℕ, ◌<◌, Bool, true, false, Option, Some, None, [], ◌∷◌, refl, sym, ap, subst, ◌∙◌, arith}
use Rattle.std.proofs.lemmas.Bool.{cases_order}
use lib.IntN.{pos}
use Rattle.algebra.proofs.Solve.{v, k, ◌⊕◌, ◌⊗◌, inv, solve_from, eq, done}
use Rattle.rational.specs.Fraction.{Fraction, whole, ◌*ℚ◌, ◌<ℚ◌}
use Rattle.rational.proofs.FieldLaws.{fraction-ring}
use Rattle.rational.proofs.OrderLaws.{below_same_or_above, ≤ℚ-same, <ℚ-not-≥, <ℚ-weaken}
use Rattle.tableau.specs.Table.{Table, width, cell, is_basic, Solves, IsTidy}
use Rattle.simplex_law.specs.Pairs.{◌≤ₚ◌, ◌<ₚ◌}
use Rattle.simplex_law.specs.Bounds.{lower_pair, upper_pair, OnLower, OnUpper, BelowLower, AboveUpper, CanRise, CanFall}
use Rattle.simplex_law.specs.Config.{Limits, lower_of, upper_of, row_pair, value_of, IsOn, IsPlaced, HelpsBy, Violates, violated_pair, IsLeastViolated, IsLeastHelp}
use Rattle.simplex_law.specs.declared.pair.Pair.{Pair}
use Rattle.simplex_law.specs.declared.bound.Bound.{Bound}
use Rattle.simplex_law.specs.declared.bound.Side.{Side}
use Rattle.simplex_law.specs.declared.bound.Side.TheVariants.{Under, Over}
use Rattle.simplex_law.proofs.PairLaws.{at_least}
use Rattle.simplex_law.proofs.PairSums.{times, pair_sum, ≤ₚ_same, ≤ₚ_trans, <ₚ-weaken, <ₚ-not-≥, times_le, times_le_negative, sum_le}
use Rattle.simplex_law.proofs.Fitting.{value-basic, value-other}
use Rattle.simplex_law.proofs.Keeping.{part_solves}

-- ---- a variable that can't help stands beyond each value on its bounds
rise_le : (o : Option Bound) (x y : Pair) → ¬ (CanRise o y) → OnUpper o x → x ≤ₚ y
rise_le None x y n on = absurd (n tt)
rise_le (Some b) x y n on = ≤ₚ_trans x (upper_pair b) y on (at_least y (upper_pair b) n)

fall_le : (o : Option Bound) (x y : Pair) → ¬ (CanFall o y) → OnLower o x → y ≤ₚ x
fall_le None x y n on = absurd (n tt)
fall_le (Some b) x y n on = ≤ₚ_trans y (lower_pair b) x (at_least (lower_pair b) y n) on

-- ---- and one that helps, at the bound that x violates, is on the other side of it
irreflexive : (x : Pair) → ¬ (x <ₚ x)
irreflexive x h = <ₚ-not-≥ x x h (≤ₚ_same x x refl)

abbrev Beyond : Side → Option Bound → Option Bound → Pair → Type 0
Beyond Under lo up x = BelowLower lo x
Beyond Over lo up x = AboveUpper up x

rise_q : (side : Side) (lo up : Option Bound) (x y : Pair) → Beyond side lo up x → y ≡ violated_pair side lo up → CanRise up y → x ≤ₚ y
rise_q Under None up x y h e c = absurd h
rise_q Under (Some b) up x y h e c = subst (λ (w : Pair). x ≤ₚ w) (sym e) (<ₚ-weaken x (lower_pair b) h)
rise_q Over lo None x y h e c = absurd h
rise_q Over lo (Some b) x y h e c = absurd (irreflexive (upper_pair b) (subst (λ (w : Pair). w <ₚ upper_pair b) e c))

fall_q : (side : Side) (lo up : Option Bound) (x y : Pair) → Beyond side lo up x → y ≡ violated_pair side lo up → CanFall lo y → y ≤ₚ x
fall_q Under None up x y h e c = absurd h
fall_q Under (Some b) up x y h e c = absurd (irreflexive (lower_pair b) (subst (λ (w : Pair). lower_pair b <ₚ w) e c))
fall_q Over lo None x y h e c = absurd h
fall_q Over lo (Some b) x y h e c = subst (λ (w : Pair). w ≤ₚ x) (sym e) (<ₚ-weaken (upper_pair b) x h)

zero_times : (c : Fraction) (x y : Pair) → c ≡ whole (pos 0) → times c x ≤ₚ times c y
zero_times c x y z =
    inr (
      solve_from fraction-ring (v 0 ⊗ v 1) (v 0 ⊗ v 2) (c ∷ x.main ∷ y.main ∷ []) (eq (v 1 ⊕ inv (v 2)) (v 0) (k (pos 0)) z done) refl,
      ≤ℚ-same (c *ℚ x.small) (c *ℚ y.small) (solve_from fraction-ring (v 0 ⊗ v 1) (v 0 ⊗ v 2) (c ∷ x.small ∷ y.small ∷ []) (eq (v 1 ⊕ inv (v 2)) (v 0) (k (pos 0)) z done) refl),
    )

-- ---- two configurations with the same solutions: q leaves in the first one, and enters for r in the second
module _ (l : Limits) (a : Table) (p : ℕ → Pair) (b : Table) (p' : ℕ → Pair) (tidy-a : IsTidy a) (tidy-b : IsTidy b) (placed : IsPlaced l a p)
    (wide : width b ≡ width a) (same : (point : ℕ → Fraction) → Solves a point → Solves b point)
    (q r : ℕ) (side-a side : Side) (va : IsLeastViolated l a p q side-a) (vb : IsLeastViolated l b p' r side) (hb : IsLeastHelp l b p' r side q)
    (stands : p' q ≡ violated_pair side-a (lower_of l q) (upper_of l q)) (still : (j : ℕ) → q < j → j < width a → is_basic b j ≡ false → value_of a p j ≡ p' j) (below : r < q) where
  α : ℕ → Pair
  α = value_of a p

  on_below : (j : ℕ) → j < q → IsOn l j (α j)
  unfolding α
  on_below j h = by_basic (is_basic a j) refl
    where
      by_basic : (w : Bool) → is_basic a j ≡ w → IsOn l j (value_of a p j)
      by_basic true e = subst (λ (x : Pair). IsOn l j x) (sym (value-basic a tidy-a p j e)) (va.least j h e)
      by_basic false e = subst (λ (x : Pair). IsOn l j x) (sym (value-other a tidy-a p j e)) (placed j (omega (arith, va.within)) e)

  beyond : Beyond side-a (lower_of l q) (upper_of l q) (α q)
  unfolding α
  beyond = subst (Beyond side-a (lower_of l q) (upper_of l q)) (sym (value-basic a tidy-a p q va.basic)) (by_side side-a va.violates)
    where
      by_side : (s : Side) → Violates l a p q s → Beyond s (lower_of l q) (upper_of l q) (row_pair a p q)
      by_side Under h = h
      by_side Over h = h

  -- the values in the first configuration solve the row of r of the second
  row_main : (α r).main ≡ (pair_sum (width b) (cell b r) α).main
  unfolding α
  row_main = let f : Pair → Fraction = λ x. x.main in same (λ i. (value_of a p i).main) (part_solves a tidy-a p f (λ i. refl)) r vb.within vb.basic

  row_small : (α r).small ≡ (pair_sum (width b) (cell b r) α).small
  unfolding α
  row_small = let f : Pair → Fraction = λ x. x.small in same (λ i. (value_of a p i).small) (part_solves a tidy-a p f (λ i. refl)) r vb.within vb.basic

  row_same : α r ≡ pair_sum (width b) (cell b r) α
  row_same =
      let f : Fraction → Pair = λ m. record { main = m; small = (α r).small } in
      let g : Fraction → Pair = λ m. record { main = (pair_sum (width b) (cell b r) α).main; small = m } in
      ap f row_main ∙ ap g row_small

  -- what lifts the row of r is lower in the first, what lowers it is higher
  rises : (j : ℕ) → j < width b → is_basic b j ≡ false → (j < q → ¬ (CanRise (upper_of l j) (p' j))) → (j ≡ q → CanRise (upper_of l j) (p' j)) → α j ≤ₚ p' j
  unfolding α
  rises j lj o low at_q = by_place (cases_order j q)
    where
      by_order : (j < q) ⊎ (q < j) → value_of a p j ≤ₚ p' j
      by_order (inl h) = rise_le (upper_of l j) (value_of a p j) (p' j) (low h) (on_below j h).1
      by_order (inr h) = ≤ₚ_same (value_of a p j) (p' j) (still j h (omega (arith, wide)) o)

      by_place : (j ≡ q) ⊎ ((j < q) ⊎ (q < j)) → value_of a p j ≤ₚ p' j
      by_place (inl e) =
          let c : CanRise (upper_of l q) (p' q) = subst (λ (i : ℕ). CanRise (upper_of l i) (p' i)) e (at_q e) in
          subst (λ (i : ℕ). value_of a p i ≤ₚ p' i) (sym e) (rise_q side-a (lower_of l q) (upper_of l q) (value_of a p q) (p' q) beyond stands c)
      by_place (inr d) = by_order d

  falls : (j : ℕ) → j < width b → is_basic b j ≡ false → (j < q → ¬ (CanFall (lower_of l j) (p' j))) → (j ≡ q → CanFall (lower_of l j) (p' j)) → p' j ≤ₚ α j
  unfolding α
  falls j lj o low at_q = by_place (cases_order j q)
    where
      by_order : (j < q) ⊎ (q < j) → p' j ≤ₚ value_of a p j
      by_order (inl h) = fall_le (lower_of l j) (value_of a p j) (p' j) (low h) (on_below j h).0
      by_order (inr h) = ≤ₚ_same (p' j) (value_of a p j) (sym (still j h (omega (arith, wide)) o))

      by_place : (j ≡ q) ⊎ ((j < q) ⊎ (q < j)) → p' j ≤ₚ value_of a p j
      by_place (inl e) =
          let c : CanFall (lower_of l q) (p' q) = subst (λ (i : ℕ). CanFall (lower_of l i) (p' i)) e (at_q e) in
          subst (λ (i : ℕ). p' i ≤ₚ value_of a p i) (sym e) (fall_q side-a (lower_of l q) (upper_of l q) (value_of a p q) (p' q) beyond stands c)
      by_place (inr d) = by_order d

  -- each part of the row, by the sign of its cell
  parts_under : IsLeastHelp l b p' r Under q → (j : ℕ) → j < width b → times (cell b r j) (α j) ≤ₚ times (cell b r j) (p' j)
  parts_under hb j lj = by_basic (is_basic b j) refl (below_same_or_above (cell b r j) (whole (pos 0)))
    where
      helps_q : j ≡ q → HelpsBy Under (cell b r j) (lower_of l j) (upper_of l j) (p' j)
      helps_q e = subst (λ (i : ℕ). HelpsBy Under (cell b r i) (lower_of l i) (upper_of l i) (p' i)) (sym e) hb.helps

      rise_of : whole (pos 0) <ℚ cell b r j → HelpsBy Under (cell b r j) (lower_of l j) (upper_of l j) (p' j) → CanRise (upper_of l j) (p' j)
      rise_of h (inl g) = g.1
      rise_of h (inr g) = absurd (<ℚ-not-≥ (cell b r j) (whole (pos 0)) g.0 (<ℚ-weaken (whole (pos 0)) (cell b r j) h))

      fall_of : cell b r j <ℚ whole (pos 0) → HelpsBy Under (cell b r j) (lower_of l j) (upper_of l j) (p' j) → CanFall (lower_of l j) (p' j)
      fall_of h (inl g) = absurd (<ℚ-not-≥ (cell b r j) (whole (pos 0)) h (<ℚ-weaken (whole (pos 0)) (cell b r j) g.0))
      fall_of h (inr g) = g.1

      by_basic : (w : Bool) → is_basic b j ≡ w → (cell b r j <ℚ whole (pos 0)) ⊎ ((cell b r j ≡ whole (pos 0)) ⊎ (whole (pos 0) <ℚ cell b r j)) → times (cell b r j) (α j) ≤ₚ times (cell b r j) (p' j)
      by_basic true e o = zero_times (cell b r j) (α j) (p' j) (tidy-b.basic_column r j vb.within lj e)
      by_basic false e (inl h) =
          times_le_negative (cell b r j) (p' j) (α j) h (falls j lj e (λ m n. hb.least j m e (inr (h, n))) (λ m. fall_of h (helps_q m)))
      by_basic false e (inr (inl h)) = zero_times (cell b r j) (α j) (p' j) h
      by_basic false e (inr (inr h)) =
          times_le (cell b r j) (α j) (p' j) h (rises j lj e (λ m n. hb.least j m e (inl (h, n))) (λ m. rise_of h (helps_q m)))

  parts_over : IsLeastHelp l b p' r Over q → (j : ℕ) → j < width b → times (cell b r j) (p' j) ≤ₚ times (cell b r j) (α j)
  parts_over hb j lj = by_basic (is_basic b j) refl (below_same_or_above (cell b r j) (whole (pos 0)))
    where
      helps_q : j ≡ q → HelpsBy Over (cell b r j) (lower_of l j) (upper_of l j) (p' j)
      helps_q e = subst (λ (i : ℕ). HelpsBy Over (cell b r i) (lower_of l i) (upper_of l i) (p' i)) (sym e) hb.helps

      rise_of : cell b r j <ℚ whole (pos 0) → HelpsBy Over (cell b r j) (lower_of l j) (upper_of l j) (p' j) → CanRise (upper_of l j) (p' j)
      rise_of h (inl g) = g.1
      rise_of h (inr g) = absurd (<ℚ-not-≥ (cell b r j) (whole (pos 0)) h (<ℚ-weaken (whole (pos 0)) (cell b r j) g.0))

      fall_of : whole (pos 0) <ℚ cell b r j → HelpsBy Over (cell b r j) (lower_of l j) (upper_of l j) (p' j) → CanFall (lower_of l j) (p' j)
      fall_of h (inl g) = absurd (<ℚ-not-≥ (cell b r j) (whole (pos 0)) g.0 (<ℚ-weaken (whole (pos 0)) (cell b r j) h))
      fall_of h (inr g) = g.1

      by_basic : (w : Bool) → is_basic b j ≡ w → (cell b r j <ℚ whole (pos 0)) ⊎ ((cell b r j ≡ whole (pos 0)) ⊎ (whole (pos 0) <ℚ cell b r j)) → times (cell b r j) (p' j) ≤ₚ times (cell b r j) (α j)
      by_basic true e o = zero_times (cell b r j) (p' j) (α j) (tidy-b.basic_column r j vb.within lj e)
      by_basic false e (inl h) =
          times_le_negative (cell b r j) (α j) (p' j) h (rises j lj e (λ m n. hb.least j m e (inl (h, n))) (λ m. rise_of h (helps_q m)))
      by_basic false e (inr (inl h)) = zero_times (cell b r j) (p' j) (α j) h
      by_basic false e (inr (inr h)) =
          times_le (cell b r j) (p' j) (α j) h (falls j lj e (λ m n. hb.least j m e (inr (h, n))) (λ m. fall_of h (helps_q m)))

  -- so r is beyond its bound in the first configuration as well, which can't be, as q is the least there
  pub impossible : ⊥
  impossible = by_side side vb.violates hb (on_below r below)
    where
      under : (o : Option Bound) → BelowLower o (row_pair b p' r) → OnLower o (α r) → α r ≤ₚ row_pair b p' r → ⊥
      under None h on m = h
      under (Some d) h on m = <ₚ-not-≥ (row_pair b p' r) (lower_pair d) h (≤ₚ_trans (lower_pair d) (α r) (row_pair b p' r) on m)

      over : (o : Option Bound) → AboveUpper o (row_pair b p' r) → OnUpper o (α r) → row_pair b p' r ≤ₚ α r → ⊥
      over None h on m = h
      over (Some d) h on m = <ₚ-not-≥ (upper_pair d) (row_pair b p' r) h (≤ₚ_trans (row_pair b p' r) (α r) (upper_pair d) m on)

      by_side : (s : Side) → Violates l b p' r s → IsLeastHelp l b p' r s q → IsOn l r (α r) → ⊥
      by_side Under h hb on = under (lower_of l r) h on.0 (subst (λ (x : Pair). x ≤ₚ row_pair b p' r) (sym row_same) (sum_le (width b) (cell b r) α p' (parts_under hb)))
      by_side Over h hb on = over (upper_of l r) h on.1 (subst (λ (x : Pair). row_pair b p' r ≤ₚ x) (sym row_same) (sum_le (width b) (cell b r) p' α (parts_over hb)))
