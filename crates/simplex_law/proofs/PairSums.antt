-- Sums of pairs are in order where their parts are.
use Rattle.std.proofs.Common.{◌≡◌, inl, inr, ℕ, zero, suc, ◌<◌, [], ◌∷◌, refl, sym, ap, subst, ◌∙◌, arith}
use lib.IntN.{pos}
use Rattle.algebra.proofs.Solve.{v, k, ◌⊕◌, inv, strict_from, bound_from, eq, lt, done}
use Rattle.rational.specs.Fraction.{Fraction, whole, ◌+ℚ◌, ◌*ℚ◌, ◌<ℚ◌, neg_ℚ, IsPositive}
use Rattle.rational.proofs.Signs.{fraction-order, weaken_positive}
use Rattle.rational.proofs.OrderLaws.{≤ℚ_refl, ≤ℚ-add, ≤ℚ_trans, <ℚ_trans, ≤ℚ-mul, <ℚ-mul, ≤ℚ-mul_negative, <ℚ-mul_negative, <ℚ-not-≥, <ℚ-apart, <ℚ_irrefl, positive-iff}
use Rattle.tableau.specs.FiniteSums.{sum_below}
use Rattle.simplex_law.specs.Pairs.{◌≤ₚ◌, ◌<ₚ◌}
use Rattle.simplex_law.specs.declared.pair.Pair.{Pair}

abbrev pub plus : Pair → Pair → Pair
plus x y = record { main = x.main +ℚ y.main; small = x.small +ℚ y.small }

abbrev pub times : Fraction → Pair → Pair
times c x = record { main = c *ℚ x.main; small = c *ℚ x.small }

abbrev pub pair_sum : ℕ → (ℕ → Fraction) → (ℕ → Pair) → Pair
pair_sum n c x = record { main = sum_below n (λ j. c j *ℚ (x j).main); small = sum_below n (λ j. c j *ℚ (x j).small) }

pub ≤ₚ_same : (x y : Pair) → x ≡ y → x ≤ₚ y
≤ₚ_same x y e = subst (λ (w : Pair). x ≤ₚ w) e (inr (refl, ≤ℚ_refl x.small))

pub ≤ₚ_trans : (x y z : Pair) → x ≤ₚ y → y ≤ₚ z → x ≤ₚ z
≤ₚ_trans x y z (inl h) (inl g) = inl (<ℚ_trans x.main y.main z.main h g)
≤ₚ_trans x y z (inl h) (inr g) = inl (subst (λ (w : Fraction). x.main <ℚ w) g.0 h)
≤ₚ_trans x y z (inr h) (inl g) = inl (subst (λ (w : Fraction). w <ℚ z.main) (sym h.0) g)
≤ₚ_trans x y z (inr h) (inr g) = inr (h.0 ∙ g.0, ≤ℚ_trans x.small y.small z.small h.1 g.1)

pub <ₚ-weaken : (x y : Pair) → x <ₚ y → x ≤ₚ y
<ₚ-weaken x y (inl h) = inl h
<ₚ-weaken x y (inr h) = inr (h.0, bound_from fraction-order (v 0) (v 1) (x.small ∷ y.small ∷ []) (lt (k (pos 1)) (v 0) (v 1) tt h.1 done) refl)

-- not both below and at least
pub <ₚ-not-≥ : (x y : Pair) → x <ₚ y → ¬ (y ≤ₚ x)
<ₚ-not-≥ x y (inl h) (inl g) = <ℚ_irrefl x.main (<ℚ_trans x.main y.main x.main h g)
<ₚ-not-≥ x y (inl h) (inr g) = <ℚ-apart x.main y.main h (sym g.0)
<ₚ-not-≥ x y (inr h) (inl g) = <ℚ-apart y.main x.main g (sym h.0)
<ₚ-not-≥ x y (inr h) (inr g) = <ℚ-not-≥ x.small y.small h.1 g.1

plus_le : (a b c d : Pair) → a ≤ₚ b → c ≤ₚ d → plus a c ≤ₚ plus b d
plus_le a b c d (inl h) (inl g) =
    inl (strict_from fraction-order (v 0 ⊕ v 2) (v 1 ⊕ v 3) (a.main ∷ b.main ∷ c.main ∷ d.main ∷ []) (lt (k (pos 1)) (v 0) (v 1) tt h (lt (k (pos 1)) (v 2) (v 3) tt g done)) tt refl)
plus_le a b c d (inl h) (inr g) =
    inl (strict_from fraction-order (v 0 ⊕ v 2) (v 1 ⊕ v 3) (a.main ∷ b.main ∷ c.main ∷ d.main ∷ []) (lt (k (pos 1)) (v 0) (v 1) tt h (eq (k (pos 1)) (v 2) (v 3) g.0 done)) tt refl)
plus_le a b c d (inr h) (inl g) =
    inl (strict_from fraction-order (v 0 ⊕ v 2) (v 1 ⊕ v 3) (a.main ∷ b.main ∷ c.main ∷ d.main ∷ []) (eq (k (pos 1)) (v 0) (v 1) h.0 (lt (k (pos 1)) (v 2) (v 3) tt g done)) tt refl)
plus_le a b c d (inr h) (inr g) =
    inr (ap (λ (w : Fraction). w +ℚ c.main) h.0 ∙ ap (λ (w : Fraction). b.main +ℚ w) g.0, ≤ℚ-add a.small b.small c.small d.small h.1 g.1)

pub times_le : (c : Fraction) (x y : Pair) → whole (pos 0) <ℚ c → x ≤ₚ y → times c x ≤ₚ times c y
times_le c x y p (inl h) = inl (<ℚ-mul c x.main y.main ((positive-iff c).1 p) h)
times_le c x y p (inr h) = inr (ap (λ (w : Fraction). c *ℚ w) h.0, ≤ℚ-mul c x.small y.small (weaken_positive c ((positive-iff c).1 p)) h.1)

minus_positive : (c : Fraction) → c <ℚ whole (pos 0) → IsPositive (neg_ℚ c)
minus_positive c p = (positive-iff (neg_ℚ c)).1 (strict_from fraction-order (k (pos 0)) (inv (v 0)) (c ∷ []) (lt (k (pos 1)) (v 0) (k (pos 0)) tt p done) tt refl)

pub times_le_negative : (c : Fraction) (x y : Pair) → c <ℚ whole (pos 0) → x ≤ₚ y → times c y ≤ₚ times c x
times_le_negative c x y p (inl h) = inl (<ℚ-mul_negative c x.main y.main (minus_positive c p) h)
times_le_negative c x y p (inr h) = inr (ap (λ (w : Fraction). c *ℚ w) (sym h.0), ≤ℚ-mul_negative c x.small y.small (weaken_positive (neg_ℚ c) (minus_positive c p)) h.1)

pub sum_le : (n : ℕ) (c : ℕ → Fraction) (x y : ℕ → Pair) → ((j : ℕ) → j < n → times (c j) (x j) ≤ₚ times (c j) (y j)) → pair_sum n c x ≤ₚ pair_sum n c y
sum_le zero c x y h = inr (refl, ≤ℚ_refl (whole (pos 0)))
sum_le (suc n) c x y h = plus_le (pair_sum n c x) (pair_sum n c y) (times (c n) (x n)) (times (c n) (y n)) (sum_le n c x y (λ j l. h j (omega arith))) (h n (omega arith))
