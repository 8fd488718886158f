-- Linear expressions. A variable may stand in one more than once; its coefficient is then the sum. The rules are those of
-- linear algebra.
use Rattle.std.specs.Prelude.{ℕ, List, [], ◌∷◌, nat_eq, if◌then◌else◌}
use lib.IntN.{pos}
use Rattle.rational.specs.Fraction.{Fraction, whole, ◌+ℚ◌, ◌*ℚ◌}

-- the terms of a linear expression, each a variable's number and its coefficient
abbrev pub Terms : Type 0
Terms = List (ℕ × Fraction)

-- the value at a point, which gives each variable a fraction
abbrev pub value_at : (ℕ → Fraction) → Terms → Fraction
value_at point [] = whole (pos 0)
value_at point (t ∷ ts) = t.1 *ℚ point t.0 +ℚ value_at point ts

-- the coefficient of variable n
abbrev pub coefficient_of : ℕ → Terms → Fraction
coefficient_of n [] = whole (pos 0)
coefficient_of n (t ∷ ts) = (if nat_eq t.0 n then t.1 else whole (pos 0)) +ℚ coefficient_of n ts
