-- Licensed logs in 128 bits: a clause is new, a split is due, and no operation of a lemma's sum or of testing a split's point passes.
use Rattle.std.specs.Prelude.{List, [], ◌∷◌}
use Rattle.formula.specs.declared.atom.Lit.{Lit}
use Rattle.formula.specs.Contents.{Contents}
use Rattle.theory_law.specs.declared.log.LogStep.{LogStep}
use Rattle.theory_law.specs.declared.log.LogStep.TheVariants.{Lemma, Learn, Split}
use Rattle.theory_law.specs.declared.trace.Coefs.{Coefs}
use Rattle.theory_law.specs.Licence.{IsLicensed}
use Rattle.theory_law.specs.Log.{after}
use Rattle.cert_check.specs.Judged.{Fits}

pub record IsLicensedWithin (f : Contents) (s : LogStep Coefs) : Type 0 where
  pub licensed : IsLicensed f s
  pub fits : Fits f s

-- each step over the formula and the steps before it
abbrev pub IsLicensedLogWithin : Contents → List (LogStep Coefs) → Type 0
IsLicensedLogWithin f [] = Unit {0}
IsLicensedLogWithin f (s ∷ log) = IsLicensedWithin f s × IsLicensedLogWithin (after f s) log

-- the lemmas and learned clauses in order
abbrev pub added : List (LogStep Coefs) → List (List Lit)
added [] = []
added (Lemma c why ∷ log) = c ∷ added log
added (Learn c hints ∷ log) = c ∷ added log
added (Split b var k point ∷ log) = added log
