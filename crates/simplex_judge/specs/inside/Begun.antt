-- The beginning of a check.
use Rattle.std.specs.Prelude.{◌≡◌, ℕ, true, false, List, length, Option}
use Rattle.formula.specs.declared.atom.Lit.{Lit}
use Rattle.formula.specs.Contents.{Contents}
use Rattle.tableau.specs.Table.{Table, basis}
use Rattle.simplex_atoms.specs.Tightest.{AreTightest}
use Rattle.simplex_atoms.specs.declared.sides.Sides.{Sides}
use Rattle.simplex_clash.specs.Setting.{IsSetting}
use Rattle.simplex_fit.specs.Assigned.{AreSigns, literals_of}
use Rattle.simplex_judge.specs.declared.beginning.Begun.{Begun}
use Rattle.simplex_judge.specs.declared.beginning.Both.{Both}

pub record AreBoth (sides : List (Option Sides)) (lits : List Lit) (n : ℕ) (b : Both) : Type 0 where
  pub lower_is : AreTightest sides lits false n b.lower.bounds.items b.lower.by.items
  pub upper_is : AreTightest sides lits true n b.upper.bounds.items b.upper.by.items

pub record IsBegun (f : Contents) (t : Table) (events : List (Option Lit)) (b : Begun) : Type 0 where
  pub signs_are : AreSigns events (length f.atoms) b.signs.items
  pub lits_are : b.lits.items ≡ literals_of b.signs.items
  pub basis_is : basis t ≡ b.basis.items
  pub setting : IsSetting f b.lits.items t b.both.lower b.both.upper
