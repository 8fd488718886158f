-- What is known in the middle of a check.
use Rattle.std.specs.Prelude.{◌≡◌, ℕ, List, length, Option}
use Rattle.formula.specs.declared.atom.Lit.{Lit}
use Rattle.formula.specs.Contents.{Contents}
use Rattle.farkas_law.specs.Lemma.{bare}
use Rattle.tableau.specs.Table.{Table, basis, IsTableauOf}
use Rattle.simplex_atoms.specs.LeftSides.{rows_of}
use Rattle.simplex_atoms.specs.declared.sides.Sides.{Sides}
use Rattle.simplex_clash.specs.Setting.{IsSetting, limits_of}
use Rattle.simplex_fit.specs.Fit.{IsFit}
use Rattle.simplex_fit.specs.Assigned.{AreOfAtoms, AreSigns, literals_of}
use Rattle.simplex_judge.specs.Stuck.{IsFirst}
use Rattle.simplex_judge.specs.declared.beginning.Begun.{Begun}
use Rattle.simplex_judge.specs.declared.running.Ran.{Ran}
use Rattle.simplex_judge.specs.inside.Ran.{IsRan}

-- the asserted literals and a basis
pub record IsChecking (f : Contents) (events : List (Option Lit)) (b : Begun) : Type 0 where
  pub bare_is : f ≡ bare f.counts f.atoms
  pub of_atoms : AreOfAtoms f.atoms events
  pub signs_are : AreSigns events (length f.atoms) b.signs.items
  pub lits_are : b.lits.items ≡ literals_of b.signs.items
  pub of_basis : (table : Table) × IsTableauOf (length f.counts) (rows_of f.atoms) table × (basis table ≡ b.basis.items)

-- and where the pivots led
pub record IsAt (f : Contents) (sides : List (Option Sides)) (events : List (Option Lit)) (pivots : ℕ) (t : Table) (b : Begun) (r : Ran) : Type 0 where
  pub checking : IsChecking f events b
  pub fit : IsFit f sides t
  pub setting : IsSetting f b.lits.items t b.both.lower b.both.upper
  pub first : Table
  pub ran : IsRan (limits_of b.both.lower b.both.upper) first pivots t r
  pub begins : IsFirst f b.basis.items b.lits.items (limits_of b.both.lower b.both.upper) first ran.first_place
