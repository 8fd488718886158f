-- Lemmas of linear arithmetic (Farkas): a clause of atoms whose negated readings exclude each other, shown by a coefficient for
-- each of them. Only the counts and the atoms of a formula matter.
use Rattle.std.specs.Prelude.{◌≡◌, Bool, List, [], length, Option, All}
use Rattle.formula.specs.declared.atom.Atom.{Atom}
use Rattle.formula.specs.declared.atom.Lit.{Lit}
use Rattle.formula.specs.Contents.{Contents, IsBoolean}
use Rattle.formula.specs.Reading.{IsOfAtom}
use Rattle.formula.specs.Farkas.{taken, IsFarkas}
use Rattle.theory_law.specs.declared.trace.Coefs.{Coefs}

-- a formula with these counts and atoms, and no clause
abbrev pub bare : List Bool → List (Option Atom) → Contents
bare counts atoms = record { counts = counts; atoms = atoms; clauses = [] }

-- as many coefficients as literals, and their multiples of the readings of the negated literals can't hold together
pub record IsShown (counts : List Bool) (atoms : List (Option Atom)) (clause : List Lit) (why : Coefs) : Type 0 where
  pub over : All (IsBoolean counts) atoms
  pub of_atoms : All (IsOfAtom (bare counts atoms)) clause
  pub many : length why.list ≡ length clause
  pub shows : IsFarkas (taken (bare counts atoms) clause why.list)
