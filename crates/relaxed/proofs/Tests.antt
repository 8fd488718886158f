-- Tests of fractions as facts.
use Rattle.std.proofs.Common.{◌≡◌, zero, suc, Bool, true, false, refl, sym, subst}
use lib.Dec.{T}
use lib.IntN.{ℤ, pos, negsuc}
use Rattle.rational.specs.Fraction.{Fraction, whole, IsPositive, ◌≤ℚ◌, ◌<ℚ◌}
use Rattle.rational.proofs.OrderLaws.{<ℚ-weaken, <ℚ-not-≥, positive-iff, >-from_not, ≥-from_not}
use Rattle.rational.proofs.FieldLaws.{zero_num}
use Rattle.lin.specs.Normal.{is_zero, is_zero_ℤ}
use Rattle.relaxed.specs.Interval.{is_at_most, is_below}
use Rattle.relaxed.specs.Range.{is_positive}

pub true_T : {b : Bool} → b ≡ true → T b
true_T e = subst T (sym e) tt

pub T_true : (b : Bool) → T b → b ≡ true
T_true true h = refl
T_true false h = absurd h

pub at_most-true : (x y : Fraction) → is_at_most x y ≡ true → x ≤ℚ y
at_most-true x y e = record { le = true_T e }

pub true-at_most : (x y : Fraction) → x ≤ℚ y → is_at_most x y ≡ true
true-at_most x y h = T_true (is_at_most x y) h.le

pub below-true : (x y : Fraction) → is_below x y ≡ true → x <ℚ y
below-true x y e = record { lt = true_T e }

pub true-below : (x y : Fraction) → x <ℚ y → is_below x y ≡ true
true-below x y h = T_true (is_below x y) h.lt

pub at_most-false : (x y : Fraction) → is_at_most x y ≡ false → y ≤ℚ x
at_most-false x y e = <ℚ-weaken y x (>-from_not x y (λ h. let g = true-at_most x y h in absurd (cc)))

pub at_most-above : (x y : Fraction) → is_at_most x y ≡ false → y <ℚ x
at_most-above x y e = >-from_not x y (λ h. let g = true-at_most x y h in absurd (cc))

-- a coefficient that isn't positive is at most 0
pub positive-true : (c : Fraction) → is_positive c ≡ true → IsPositive c
positive-true c e = true_T e

pub positive-false : (c : Fraction) → is_positive c ≡ false → c ≤ℚ whole (pos 0)
positive-false c e = ≥-from_not (whole (pos 0)) c (λ h. let g : is_positive c ≡ true = T_true (is_positive c) ((positive-iff c).1 h) in absurd (cc))

zero_whole : (z : ℤ) → is_zero_ℤ z ≡ true → z ≡ pos 0
zero_whole (pos zero) h = refl
zero_whole (pos (suc n)) h = absurd (cc)
zero_whole (negsuc n) h = absurd (cc)

pub is_zero-true : (x : Fraction) → is_zero x ≡ true → x ≡ whole (pos 0)
is_zero-true x h = zero_num x (zero_whole x.num h)

pub above-not : (x y : Fraction) → y <ℚ x → is_at_most x y ≡ false
above-not x y h = by_test (is_at_most x y) refl
  where
    by_test : (b : Bool) → is_at_most x y ≡ b → b ≡ false
    by_test true e = absurd (<ℚ-not-≥ y x h (at_most-true x y e))
    by_test false e = refl

pub not_below : (x y : Fraction) → y ≤ℚ x → is_below x y ≡ false
not_below x y h = by_test (is_below x y) refl
  where
    by_test : (b : Bool) → is_below x y ≡ b → b ≡ false
    by_test true e = absurd (<ℚ-not-≥ x y (below-true x y e) h)
    by_test false e = refl
