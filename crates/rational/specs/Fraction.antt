-- Unlimited fractions, their arithmetic and their order. The rules are those of arithmetic. A fraction is kept in lowest
-- terms, so that two are equal (`≡`) exactly where they are the same number, which is where their cross products are equal.
use Rattle.std.specs.Prelude.{◌≡◌, ℕ, zero, suc, ◌*◌, ◌/◌, ◌<◌}
use lib.IntN.{ℤ, pos, negsuc, neg_ℤ, nat_abs, ◌+ℤ◌, ◌*ℤ◌}
use lib.Signed.{quot_z, non_neg, lt_z}
use lib.Dec.{T}
use Rattle.algebra.specs.Gcd.{gcd}
use Rattle.algebra.proofs.Reduce.{shrink_pos, shrink_coprime, gcd-one}
use native.Mathlib.Nat.{zero-lt-suc}

-- num / den in lowest terms
pub record Fraction : Type 0 where
  pub num : ℤ
  pub den : ℕ
  pub positive : 0 < den
  pub coprime : gcd (nat_abs num) den ≡ 1

-- a whole number as a fraction
abbrev pub whole : ℤ → Fraction
whole z = record { num = z; den = 1; positive = zero-lt-suc 0; coprime = gcd-one (nat_abs z) }

-- z / d, put in lowest terms; z / 0 is taken as 0
unfoldable pub quotient : ℤ → ℕ → Fraction
quotient z zero = whole (pos 0)
quotient z (suc d) = record {
  num = quot_z z (pos (gcd (nat_abs z) (suc d)));
  den = suc d / gcd (nat_abs z) (suc d);
  positive = shrink_pos (nat_abs z) d;
  coprime = shrink_coprime z d;
}

-- x is a / b, whatever the terms: their cross products are equal
pub record IsQuotient (x : Fraction) (a : ℤ) (b : ℕ) : Type 0 where
  pub below : 0 < b
  pub cross : x.num *ℤ pos b ≡ a *ℤ pos x.den

-- ---- arithmetic
infixl 6 ◌+ℚ◌ ◌-ℚ◌
infixl 7 ◌*ℚ◌ ◌/ℚ◌
-- a / b + c / d is (a * d + c * b) / (b * d)
unfoldable pub ◌+ℚ◌ : Fraction → Fraction → Fraction
x +ℚ y = quotient (x.num *ℤ pos y.den +ℤ y.num *ℤ pos x.den) (x.den * y.den)

-- a / b times c / d is (a * c) / (b * d)
unfoldable pub ◌*ℚ◌ : Fraction → Fraction → Fraction
x *ℚ y = quotient (x.num *ℤ y.num) (x.den * y.den)

-- -x
unfoldable pub neg_ℚ : Fraction → Fraction
neg_ℚ x = quotient (neg_ℤ x.num) x.den

-- x - y
abbrev pub ◌-ℚ◌ : Fraction → Fraction → Fraction
x -ℚ y = x +ℚ neg_ℚ y

-- the inverse of z / d is d / z; that of 0 is taken as 0
abbrev pub inverse_of : ℤ → ℕ → Fraction
inverse_of (pos n) d = quotient (pos d) n
inverse_of (negsuc n) d = quotient (neg_ℤ (pos d)) (suc n)

-- 1 / x
unfoldable pub inv_ℚ : Fraction → Fraction
inv_ℚ x = inverse_of x.num x.den

-- x / y; x / 0 is taken as 0, so a definition in which a division by 0 has no value tests the divisor first
abbrev pub ◌/ℚ◌ : Fraction → Fraction → Fraction
x /ℚ y = x *ℚ inv_ℚ y

-- ---- order
-- 0 ≤ x: the numerator passes the test
abbrev pub IsNotNegative : Fraction → Type 0
IsNotNegative x = T (non_neg x.num)

-- 0 < x, likewise
abbrev pub IsPositive : Fraction → Type 0
IsPositive x = T (lt_z (pos 0) x.num)

infix 50 ◌≤ℚ◌ ◌<ℚ◌
-- x ≤ y where y - x isn't negative
pub record ◌≤ℚ◌ (x y : Fraction) : Type 0 where
  pub le : IsNotNegative (y -ℚ x)

-- x < y where y - x is positive
pub record ◌<ℚ◌ (x y : Fraction) : Type 0 where
  pub lt : IsPositive (y -ℚ x)
