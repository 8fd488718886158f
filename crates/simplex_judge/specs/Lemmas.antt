-- The lemmas of the simplex: those that Farkas shows, whose sums can be made in 128 bits.
use Rattle.std.specs.Prelude.{Bool, List, Option}
use Rattle.formula.specs.declared.atom.Atom.{Atom}
use Rattle.formula.specs.declared.atom.Lit.{Lit}
use Rattle.formula.specs.Farkas.{taken, farkas_ops}
use Rattle.lin.specs.Operations.{AllFit}
use Rattle.farkas_law.specs.Lemma.{bare, IsShown}
use Rattle.theory_law.specs.declared.trace.Coefs.{Coefs}

pub record IsSummed (counts : List Bool) (atoms : List (Option Atom)) (clause : List Lit) (why : Coefs) : Type 0 where
  pub shown : IsShown counts atoms clause why
  pub fits : AllFit (farkas_ops (taken (bare counts atoms) clause why.list))
