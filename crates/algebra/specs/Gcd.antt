-- The greatest common divisor of two naturals, by Euclid's algorithm.
use Rattle.std.specs.Prelude.{ℕ, ◌%◌, suc, zero}

-- in at most n steps; b steps are enough, since each makes the second number smaller
unfoldable pub gcd_in : ℕ → ℕ → ℕ → ℕ
gcd_in zero a b = a
gcd_in (suc n) a zero = a
gcd_in (suc n) a (suc b) = gcd_in n (suc b) (a % suc b)

-- the greatest number that divides both a and b; gcd 0 0 is 0
unfoldable pub gcd : ℕ → ℕ → ℕ
gcd a b = gcd_in b a b
