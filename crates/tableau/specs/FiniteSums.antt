-- Sums of a function below a number, added from the left in rising order. The rules are those of arithmetic.
use Rattle.std.specs.Prelude.{ℕ, zero, suc, nat_eq, if◌then◌else◌}
use lib.IntN.{pos}
use Rattle.rational.specs.Fraction.{Fraction, whole, ◌+ℚ◌}

-- f 0 + f 1 + .. up to below n
abbrev pub sum_below : ℕ → (ℕ → Fraction) → Fraction
sum_below zero f = whole (pos 0)
sum_below (suc n) f = sum_below n f +ℚ f n

-- f with 0 at k
abbrev pub without : ℕ → (ℕ → Fraction) → ℕ → Fraction
without k f j = if nat_eq j k then whole (pos 0) else f j

-- x at k, and 0 elsewhere
abbrev pub only : ℕ → Fraction → ℕ → Fraction
only k x j = if nat_eq j k then x else whole (pos 0)
