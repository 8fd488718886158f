-- A fraction z / d is put in lowest terms by dividing both numbers by their greatest common divisor: the quotients have no
-- factor in common, the new denominator is above 0, and times the divisor they are the old numbers again.
use Rattle.std.proofs.Common.{◌≡◌, ℕ, zero, suc, ◌*◌, ◌/◌, ◌<◌, refl, ap, ◌∙◌, arith}
use lib.IntN.{ℤ, pos, negsuc, neg_ℤ, nat_abs, ◌*ℤ◌}
use lib.Signed.{quot_z}
use Prim.Native.Nat.{◌∣◌}
use native.Mathlib.Nat.{mul-div_cancel', zero-lt-suc, one-dvd}
use borrow.Author.Differences.{same_in, neg_is, product_is}
use Rattle.algebra.specs.Gcd.{gcd}
use Rattle.algebra.proofs.GcdLaws.{gcd_divides_left, gcd_divides_right, Divides-IsGcd, gcd_is, reduced}

-- -n has the absolute value n
pub nat_abs-neg : (n : ℕ) → nat_abs (neg_ℤ (pos n)) ≡ n
nat_abs-neg zero = refl
nat_abs-neg (suc n) = refl

-- the absolute value of a quotient is the quotient of the absolute value
pub nat_abs-quot : (z : ℤ) (g : ℕ) → nat_abs (quot_z z (pos g)) ≡ nat_abs z / g
nat_abs-quot (pos n) g = refl
nat_abs-quot (negsuc n) g = nat_abs-neg (suc n / g)

-- no factor is common to a number and 1
pub gcd-one : (n : ℕ) → gcd n 1 ≡ 1
gcd-one n = gcd_is n 1 1 (Divides-IsGcd n 1 1 (record { left = one-dvd n; right = one-dvd 1; multiples = λ m k p q. q }))

-- ---- by any divisor g
-- the quotient of a number above 0 is above 0
pub quot_pos : (d g : ℕ) → 0 < d → g ∣ d → 0 < d / g
quot_pos d g h q = by_quot d g (d / g) h (mul-div_cancel' g q)
  where
    by_quot : (d g m : ℕ) → 0 < d → g * m ≡ d → 0 < m
    by_quot d g zero h e = absurd (omega arith)
    by_quot d g (suc m) h e = zero-lt-suc m

by_sign : (z : ℤ) (g : ℕ) → g * (nat_abs z / g) ≡ nat_abs z → quot_z z (pos g) *ℤ pos g ≡ z
by_sign (pos n) g e = ap pos (omega arith)
by_sign (negsuc n) g e =
    let q = neg_ℤ (pos (suc n / g)) in let m = neg_is (pos (suc n / g)) in
    same_in _ _ (omega (arith, product_is q (pos g), m, ap (λ (i : ℕ). i * g) m.0, ap (λ (i : ℕ). i * g) m.1))

-- the quotient of z times g is z
pub quot-times : (z : ℤ) (g : ℕ) → g ∣ nat_abs z → quot_z z (pos g) *ℤ pos g ≡ z
quot-times z g h = by_sign z g (mul-div_cancel' g h)

-- ---- z / (d + 1), both divided by g = gcd |z| (d + 1)
-- the quotients have no factor in common
pub shrink_coprime : (z : ℤ) (d : ℕ) → gcd (nat_abs (quot_z z (pos (gcd (nat_abs z) (suc d))))) (suc d / gcd (nat_abs z) (suc d)) ≡ 1
shrink_coprime z d = ap (λ (n : ℕ). gcd n (suc d / gcd (nat_abs z) (suc d))) (nat_abs-quot z (gcd (nat_abs z) (suc d))) ∙ reduced (nat_abs z) (suc d) (zero-lt-suc d)

-- g times the new denominator is the old one
pub shrink_den : (n d : ℕ) → gcd n (suc d) * (suc d / gcd n (suc d)) ≡ suc d
shrink_den n d = mul-div_cancel' (gcd n (suc d)) (gcd_divides_right n (suc d))

-- the new denominator is above 0
pub shrink_pos : (n d : ℕ) → 0 < suc d / gcd n (suc d)
shrink_pos n d = quot_pos (suc d) (gcd n (suc d)) (zero-lt-suc d) (gcd_divides_right n (suc d))

-- the new numerator times g is the old one
pub shrink_num : (z : ℤ) (d : ℕ) → quot_z z (pos (gcd (nat_abs z) (suc d))) *ℤ pos (gcd (nat_abs z) (suc d)) ≡ z
shrink_num z d = quot-times z (gcd (nat_abs z) (suc d)) (gcd_divides_left (nat_abs z) (suc d))
