-- Readings of literals at values (linear arithmetic over fractions), and points of a formula's size.
use Rattle.std.specs.Prelude.{◌≡◌, Bool, List, length, Option, Some, None, slice_get}
use Rattle.rational.specs.Fraction.{Fraction}
use Rattle.lin.specs.Linear.{point_of}
use Rattle.formula.specs.declared.atom.Lit.{Lit}
use Rattle.formula.specs.declared.atom.Atom.{Atom}
use Rattle.formula.specs.declared.point.Point.{Point}
use Rattle.formula.specs.Contents.{Contents}
use Rattle.formula.specs.Reading.{Holds, reading}

-- the Boolean has an atom, whose reading with this sign holds at the values
abbrev pub BooleanReads : List Bool → List Fraction → Option (Option Atom) → Bool → Type 0
BooleanReads counts values (Some (Some a)) sign = Holds (point_of values) (reading counts a sign)
BooleanReads counts values (Some None) sign = ⊥
BooleanReads counts values None sign = ⊥

-- the literal is of an atom, and its reading holds at these values
abbrev pub Reads : List Bool → List (Option Atom) → List Fraction → Lit → Type 0
Reads counts atoms values l = BooleanReads counts values (slice_get atoms l.boolean) l.pos

-- a value for each variable and a truth for each Boolean, and no more
pub record IsExact (f : Contents) (p : Point) : Type 0 where
  pub values : length p.values ≡ length f.counts
  pub truths : length p.truth ≡ length f.atoms
