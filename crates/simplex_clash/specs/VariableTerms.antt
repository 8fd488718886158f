-- The linear expression of each variable over the numeric ones: a numeric variable is itself, and a row variable is its row.
use Rattle.std.specs.Prelude.{ℕ, ◌-◌, List, [], ◌∷◌, nat_lt, if◌then◌else◌}
use lib.IntN.{pos}
use Rattle.rational.specs.Fraction.{whole}
use Rattle.rational.specs.Linear.{Terms}
use Rattle.lin.specs.Linear.{Linear}
use Rattle.tableau.specs.Table.{terms_at}

abbrev pub variable_terms : ℕ → List Linear → ℕ → Terms
variable_terms vars rows v = if nat_lt v vars then ((v, whole (pos 1)) ∷ []) else terms_at rows (v - vars)
