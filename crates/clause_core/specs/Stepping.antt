-- What the theory's answers say of a core, and the step that may be logged next.
use Rattle.std.specs.Prelude.{◌≡◌, ℕ, Bool, true, List, Option}
use Rattle.formula.specs.declared.atom.Lit.{Lit}
use Rattle.formula.specs.declared.atom.Atom.{Atom}
use Rattle.formula.specs.Contents.{Contents}
use Rattle.theory_law.specs.declared.trace.Trace.{Trace}
use Rattle.theory_law.specs.declared.log.LogStep.{LogStep}
use Rattle.theory_law.specs.declared.log.LogStep.TheVariants.{Lemma, Learn, Split}
use Rattle.theory_law.specs.Verdicts.{IsTraceOf}
use Rattle.theory_law.specs.Log.{IsSound}
use Rattle.theory_law.specs.Licence.{IsLicensed}
use Rattle.clause_trail.specs.Propagation.{FalsifiesNone}

-- a stuck trace whose literals make no clause false
pub record IsStuck (Stuck : List Bool → List (Option Atom) → ℕ → Trace → Type 0) (f : Contents) (pivots : ℕ) (t : Trace) : Type 0 where
  pub trace : IsTraceOf Stuck f.counts f.atoms pivots t
  pub none_false : FalsifiesNone f.clauses t.lits

abbrev pub SplitsOnlyIf : {W : Type 0} → Bool → LogStep W → Type 0
SplitsOnlyIf cuts (Lemma clause why) = Unit {0}
SplitsOnlyIf cuts (Learn clause hints) = Unit {0}
SplitsOnlyIf cuts (Split boolean var k point) = cuts ≡ true

-- a step that may follow: it is sound and licensed, and no split of a theory that never cuts
pub record StepHolds {W : Type 0} (Shown : List Bool → List (Option Atom) → List Lit → W → Type 0) (cuts : Bool) (f : Contents) (s : LogStep W) : Type 0 where
  pub sound : IsSound Shown f s
  pub licensed : IsLicensed f s
  pub splits : SplitsOnlyIf cuts s
