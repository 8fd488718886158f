-- What is asserted of a theory's atoms.
use Rattle.std.specs.Prelude.{ℕ, List, Option}
use Rattle.formula.specs.declared.atom.Lit.{Lit}

-- literals in the order in which they were asserted, None for a mark, and how many Booleans there are
pub record Events : Type 0 where
  pub events : List (Option Lit)
  pub booleans : ℕ
