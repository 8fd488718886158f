-- What making a lemma's sum answers.
use Rattle.std.specs.Prelude.{List, Result, Ok, Err}
use Rattle.rational.specs.Fraction.{Fraction}
use Rattle.lin.specs.declared.failure.LinFail.{LinFail}
use Rattle.lin.specs.Operations.{AllFit, IsRefusal}
use Rattle.formula.specs.declared.atom.Lit.{Lit}
use Rattle.formula.specs.Contents.{Contents}
use Rattle.formula.specs.Farkas.{taken, farkas_ops}

abbrev pub SumAnswers : Contents → List Lit → List Fraction → Result (Unit {0}) LinFail → Type 0
SumAnswers f lits coefs (Ok _) = AllFit (farkas_ops (taken f lits coefs))
SumAnswers f lits coefs (Err e) = IsRefusal (farkas_ops (taken f lits coefs)) e
