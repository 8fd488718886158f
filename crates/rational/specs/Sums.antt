-- Sums of fractions, plain and weighted. The rules are those of arithmetic.
use Rattle.std.specs.Prelude.{List, [], ◌∷◌}
use lib.IntN.{pos}
use Rattle.rational.specs.Fraction.{Fraction, whole, ◌+ℚ◌, ◌*ℚ◌}

-- the sum of a list; that of none is 0
abbrev pub sum_of : List Fraction → Fraction
sum_of [] = whole (pos 0)
sum_of (x ∷ xs) = x +ℚ sum_of xs

-- the weighted sum: each pair is a coefficient and a value
abbrev pub combination : List (Fraction × Fraction) → Fraction
combination [] = whole (pos 0)
combination (t ∷ ts) = t.0 *ℚ t.1 +ℚ combination ts
