-- A tableau of a formula's rows, and the bounds that its asserted literals give.
use Rattle.std.specs.Prelude.{◌≡◌, Bool, true, false, List, length}
use Rattle.std.specs.List.{Contains}
use Rattle.formula.specs.declared.atom.Lit.{Lit}
use Rattle.formula.specs.Contents.{Contents, IsFormula}
use Rattle.tableau.specs.Table.{Table, IsTableauOf, width}
use Rattle.simplex_law.specs.Config.{Limits}
use Rattle.simplex_atoms.specs.LeftSides.{rows_of}
use Rattle.simplex_atoms.specs.Sides.{sides_of}
use Rattle.simplex_atoms.specs.Tightest.{AreTightest}
use Rattle.simplex_atoms.specs.declared.tightening.Held.{Held}

-- the bounds, as the configurations see them
abbrev pub limits_of : Held → Held → Limits
limits_of lower upper = record { lower = lower.bounds.items; upper = upper.bounds.items }

-- the bounds of this sign that the literals give
abbrev pub AreBy : Contents → List Lit → Bool → Table → Held → Type 0
AreBy f lits pos t h = AreTightest (sides_of f.counts (rows_of f.atoms) f.atoms) lits pos (width t) h.bounds.items h.by.items

pub record IsSetting (f : Contents) (lits : List Lit) (t : Table) (lower upper : Held) : Type 0 where
  pub formula : IsFormula f
  pub tableau : IsTableauOf (length f.counts) (rows_of f.atoms) t
  pub lower_is : AreBy f lits false t lower
  pub upper_is : AreBy f lits true t upper
  pub once : (l m : Lit) → Contains lits l → Contains lits m → l.boolean ≡ m.boolean → l ≡ m
