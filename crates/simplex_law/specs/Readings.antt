-- The readings of bounds over the numeric variables, and when a tableau stands for the linear expressions of variables.
use Rattle.std.specs.Prelude.{◌≡◌, ◌⊎◌, ℕ, List, Some, map}
use lib.IntN.{negsuc}
use Rattle.rational.specs.Fraction.{Fraction, whole, ◌*ℚ◌, neg_ℚ}
use Rattle.rational.specs.Linear.{Terms, value_at}
use Rattle.std.specs.List.{AllByRecursion}
use Rattle.rational.specs.Farkas.{Row, IsRefutation}
use Rattle.tableau.specs.Table.{Table, Solves}
use Rattle.simplex_law.specs.Config.{Limits, lower_of, upper_of}
use Rattle.simplex_law.specs.declared.bound.Bound.{Bound}

-- the linear expression of each variable over the numeric ones; each point of these, so extended, solves the tableau
abbrev pub Extends : (ℕ → Terms) → Table → Type 0
Extends terms t = (point : ℕ → Fraction) → Solves t (λ i. value_at point (terms i))

abbrev pub negative_of : Terms → Terms
negative_of ts = map (λ t. (t.0, whole (negsuc 0) *ℚ t.1)) ts

-- an upper bound reads `terms ≤ value`, a lower one `-terms ≤ -value`
abbrev pub upper_row : Bound → Terms → Fraction → Row
upper_row b ts factor = record { terms = ts; bound = b.value; strict = b.strict; factor = factor }

abbrev pub lower_row : Bound → Terms → Fraction → Row
lower_row b ts factor = record { terms = negative_of ts; bound = neg_ℚ b.value; strict = b.strict; factor = factor }

-- it is the reading of an asserted bound, with some factor
abbrev pub IsReading : Limits → (ℕ → Terms) → Row → Type 0
IsReading l terms x = (j : ℕ) × (b : Bound) × (((upper_of l j ≡ Some b) × (x ≡ upper_row b (terms j) x.factor)) ⊎ ((lower_of l j ≡ Some b) × (x ≡ lower_row b (terms j) x.factor)))

-- readings of asserted bounds with a refutation: no point meets all of them
pub record IsClash (l : Limits) (terms : ℕ → Terms) (rows : List Row) : Type 0 where
  pub readings : AllByRecursion (IsReading l terms) rows
  pub refutes : IsRefutation rows
