-- What an atom says of its variable: a bound from above where it is true, and one from below where it is false.
use Rattle.std.specs.Prelude.{Bool, true, false, List, Option, Some, None, map, length, if◌then◌else◌}
use Rattle.rational.specs.Fraction.{neg_ℚ}
use Rattle.lin.specs.Linear.{Linear}
use Rattle.formula.specs.declared.atom.Atom.{Atom}
use Rattle.formula.specs.declared.atom.Constraint.{Constraint}
use Rattle.formula.specs.Reading.{reading}
use Rattle.simplex_law.specs.declared.bound.Bound.{Bound}
use Rattle.simplex_atoms.specs.LeftSides.{variable_of}
use Rattle.simplex_atoms.specs.declared.sides.Sides.{Sides}

-- a reading `lin <= b` bounds from above
abbrev pub above : Constraint → Bound
above c = record { value = c.bound; strict = c.strict }

-- the reading `-lin <= -b` of a false atom bounds from below by b
abbrev pub below : Constraint → Bound
below c = record { value = neg_ℚ c.bound; strict = c.strict }

abbrev pub sides_of_atom : List Bool → List Linear → Atom → Sides
sides_of_atom counts rows a = record { variable = variable_of (length counts) rows a.lin.terms; upper = above (reading counts a true); lower = below (reading counts a false) }

-- a truth variable has none
abbrev pub sides_where : List Bool → List Linear → Option Atom → Option Sides
sides_where counts rows None = None
sides_where counts rows (Some a) = Some (sides_of_atom counts rows a)

-- those of each Boolean
abbrev pub sides_of : List Bool → List Linear → List (Option Atom) → List (Option Sides)
sides_of counts rows atoms = map (sides_where counts rows) atoms

-- the bound by an atom that is true, or false
abbrev pub bound_by : Bool → Sides → Bound
bound_by pos s = if pos then s.upper else s.lower
