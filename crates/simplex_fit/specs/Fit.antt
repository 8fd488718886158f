-- A tableau and a table of bounds that fit a formula, and the limits that literals of its atoms give.
use Rattle.std.specs.Prelude.{◌≡◌, ℕ, Bool, true, false, List, length, Option}
use Rattle.formula.specs.declared.atom.Lit.{Lit}
use Rattle.formula.specs.Contents.{Contents, IsFormula}
use Rattle.tableau.specs.Table.{Table, IsTableauOf}
use Rattle.simplex_law.specs.Config.{Limits}
use Rattle.simplex_law.specs.declared.bound.Bound.{Bound}
use Rattle.simplex_atoms.specs.LeftSides.{rows_of}
use Rattle.simplex_atoms.specs.Sides.{sides_of}
use Rattle.simplex_atoms.specs.Tightest.{AreTightest}
use Rattle.simplex_atoms.specs.declared.sides.Sides.{Sides}

-- the variable and the bounds of each Boolean's atom, and a tableau of the rows of those left sides that aren't one variable
pub record IsFit (f : Contents) (sides : List (Option Sides)) (t : Table) : Type 0 where
  pub formula : IsFormula f
  pub sides_are : sides ≡ sides_of f.counts (rows_of f.atoms) f.atoms
  pub tableau : IsTableauOf (length f.counts) (rows_of f.atoms) t

-- the tightest bounds of this sign that the literals give the first n variables
abbrev pub AreBounds : Contents → List Lit → Bool → ℕ → List (Option Bound) → Type 0
AreBounds f lits pos n bounds = (by : List ℕ) × AreTightest (sides_of f.counts (rows_of f.atoms) f.atoms) lits pos n bounds by

-- false literals bound from below, and true ones from above
pub record AreLimits (f : Contents) (lits : List Lit) (n : ℕ) (l : Limits) : Type 0 where
  pub lower : AreBounds f lits false n l.lower
  pub upper : AreBounds f lits true n l.upper
