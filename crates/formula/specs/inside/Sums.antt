-- What the sum of the multiples leaves.
use Rattle.std.specs.Prelude.{Bool, true, false, ◌&&◌, ◌||◌, [], ◌∷◌}
use Rattle.rational.specs.Fraction.{Fraction}
use Rattle.rational.specs.Linear.{Terms}
use Rattle.lin.specs.Normal.{is_zero}
use Rattle.formula.specs.Farkas.{is_negative}

abbrev pub is_empty : Terms → Bool
is_empty [] = true
is_empty (t ∷ ts) = false

-- no variable, and a bound below 0, or 0 and strict
abbrev pub refutes : Terms → Fraction → Bool → Bool
refutes ts bound strict = is_empty ts && (is_negative bound || (is_zero bound && strict))
