-- The tests of a fraction's sign.
use Rattle.std.proofs.Common.{◌≡◌, zero, suc, Bool, true, false, ap, refl, ◌∙◌, arith, [], ◌∷◌}
use lib.Dec.{T, ltb→lt, lt→ltb}
use lib.IntN.{ℤ, pos, negsuc}
use lib.Signed.{lt_z, non_neg}
use native.Mathlib.Nat.{zero-lt-suc}
use Rattle.algebra.proofs.Solve.{v, k, inv, strict_from, lt, done}
use Rattle.rational.specs.Fraction.{Fraction, whole, neg_ℚ, ◌<ℚ◌, ◌≤ℚ◌, IsPositive}
use Rattle.rational.proofs.Signs.{fraction-order}
use Rattle.rational.proofs.OrderLaws.{positive-iff, not_negative-iff, <ℚ-iff_not, <ℚ-weaken}
use Rattle.formula.specs.Farkas.{is_positive, is_negative, is_positive_ℤ, is_negative_ℤ}

is_not_negative : (z : ℤ) → is_negative_ℤ z ≡ false → T (non_neg z)
is_not_negative (pos n) e = tt
is_not_negative (negsuc n) e = absurd (cc)

below_negative : (x : Fraction) → (b : Bool) → is_negative x ≡ b → x <ℚ whole (pos 0) → b ≡ true
below_negative x true e h = refl
below_negative x false e h = absurd ((<ℚ-iff_not x (whole (pos 0))).0 h ((not_negative-iff x).0 (is_not_negative x.num e)))

positive_true : (z : ℤ) → is_positive_ℤ z ≡ true → T (lt_z (pos 0) z)
positive_true (pos zero) e = absurd (cc)
positive_true (pos (suc n)) e = lt→ltb 0 (suc n) (zero-lt-suc n)
positive_true (negsuc n) e = absurd (cc)

true_positive : (z : ℤ) → T (lt_z (pos 0) z) → is_positive_ℤ z ≡ true
true_positive (pos zero) h = absurd (omega (arith, ltb→lt 0 0 h))
true_positive (pos (suc n)) h = refl
true_positive (negsuc n) h = absurd h

pub positive_test : (x : Fraction) → IsPositive x → is_positive x ≡ true
positive_test x h = true_positive x.num h

pub not_positive : (x : Fraction) → (IsPositive x → ⊥) → is_positive x ≡ false
not_positive x n = by_test (is_positive x) refl
  where
    by_test : (b : Bool) → is_positive x ≡ b → b ≡ false
    by_test true e = absurd (n (positive_true x.num e))
    by_test false e = refl

below_zero : (x : Fraction) → IsPositive (neg_ℚ x) → x <ℚ whole (pos 0)
below_zero x h = strict_from fraction-order (v 0) (k (pos 0)) (x ∷ []) (lt (k (pos 1)) (k (pos 0)) (inv (v 0)) tt ((positive-iff (neg_ℚ x)).0 h) done) tt refl

pub negative_test : (x : Fraction) → IsPositive (neg_ℚ x) → is_negative x ≡ true
negative_test x h = below_negative x (is_negative x) refl (below_zero x h) ∙ refl

pub negative_not_positive : (x : Fraction) → IsPositive (neg_ℚ x) → is_positive x ≡ false
negative_not_positive x h = not_positive x (λ p. (<ℚ-iff_not x (whole (pos 0))).0 (below_zero x h) (weak x ((positive-iff x).0 p)))
  where
    weak : (x : Fraction) → whole (pos 0) <ℚ x → whole (pos 0) ≤ℚ x
    weak x h = <ℚ-weaken (whole (pos 0)) x h

pub zero_tests : (x : Fraction) → x ≡ whole (pos 0) → (is_positive x ≡ false) × (is_negative x ≡ false)
zero_tests x e = (ap is_positive e, ap is_negative e)
