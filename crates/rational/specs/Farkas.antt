-- Farkas' lemma, the half that refutes: inequalities whose multiples add up to `0 ≤ b` with b below 0, or to `0 < 0`, hold
-- together at no point.
use Rattle.std.specs.Prelude.{◌≡◌, ◌⊎◌, ℕ, List, map, Bool, true, false, IsTrue, All, Any}
use lib.IntN.{pos}
use Rattle.rational.specs.Fraction.{Fraction, whole, ◌≤ℚ◌, ◌<ℚ◌, IsNotNegative, IsPositive}
use Rattle.rational.specs.Sums.{combination}
use Rattle.rational.specs.Linear.{Terms, value_at, coefficient_of}

-- `left ≤ right`, or `left < right` where it is strict
abbrev pub InOrder : Bool → Fraction → Fraction → Type 0
InOrder true left right = left <ℚ right
InOrder false left right = left ≤ℚ right

-- an inequality between a linear expression and its bound, and the factor that it is taken with
pub record Row : Type 0 where
  pub terms : Terms
  pub bound : Fraction
  pub strict : Bool
  pub factor : Fraction

-- the inequality is true at the point
abbrev pub IsTrueAt : (ℕ → Fraction) → Row → Type 0
IsTrueAt point r = InOrder r.strict (value_at point r.terms) r.bound

-- the coefficient of variable n in the sum of the multiples
abbrev pub total_coefficient : ℕ → List Row → Fraction
total_coefficient n rows = combination (map (λ r. (r.factor, coefficient_of n r.terms)) rows)

-- the bound of the sum of the multiples
abbrev pub total_bound : List Row → Fraction
total_bound rows = combination (map (λ r. (r.factor, r.bound)) rows)

-- a bound on `0` that fails: it is below 0, or it is 0 and a strict row has a part in it
abbrev pub BoundFails : List Row → Type 0
BoundFails rows = (total_bound rows <ℚ whole (pos 0)) ⊎ ((total_bound rows ≡ whole (pos 0)) × Any (λ r. IsTrue r.strict × IsPositive r.factor) rows)

-- no factor is negative, the multiples cancel each variable, and the bound that is left fails
pub record IsRefutation (rows : List Row) : Type 0 where
  pub not_negative : All (λ r. IsNotNegative r.factor) rows
  pub cancels : (n : ℕ) → total_coefficient n rows ≡ whole (pos 0)
  pub bound_fails : BoundFails rows
