-- Rounding a fraction to a whole number, and whole fractions. The rules are those of arithmetic.
use Rattle.std.specs.Prelude.{◌≡◌}
use Rattle.std.specs.Int.{int_div_euclid}
use lib.IntN.{ℤ, pos, neg_ℤ}
use Rattle.rational.specs.Fraction.{Fraction, neg_ℚ}

-- the greatest whole number that isn't above x: the quotient that leaves a remainder from 0 to below the denominator
unfoldable pub floor_of : Fraction → ℤ
floor_of x = int_div_euclid x.num (pos x.den)

-- the least whole number that isn't below x
unfoldable pub ceil_of : Fraction → ℤ
ceil_of x = neg_ℤ (floor_of (neg_ℚ x))

-- in lowest terms, a whole number has the denominator 1
abbrev pub IsWhole : Fraction → Type 0
IsWhole x = x.den ≡ 1
