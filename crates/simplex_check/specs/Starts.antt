-- The start of a check: bounds that cross.
use Rattle.std.specs.Prelude.{ℕ, ◌<◌, Option, Some, None}
use Rattle.simplex_law.specs.Bounds.{lower_pair, AboveUpper}
use Rattle.simplex_law.specs.Config.{Limits, lower_of, upper_of, IsConsistent, IsConsistentAt}
use Rattle.simplex_law.specs.declared.bound.Bound.{Bound}

-- the lower bound exceeds the upper one
abbrev pub Crosses : Option Bound → Option Bound → Type 0
Crosses None upper = ⊥
Crosses (Some b) upper = AboveUpper upper (lower_pair b)

-- the least variable whose bounds cross, if there is one
abbrev pub CrossingAnswers : Limits → ℕ → Option ℕ → Type 0
CrossingAnswers l n None = IsConsistent l n
CrossingAnswers l n (Some i) = (i < n) × Crosses (lower_of l i) (upper_of l i) × ((k : ℕ) → k < i → IsConsistentAt (lower_of l k) (upper_of l k))
