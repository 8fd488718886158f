-- What the whole search answers.
use Rattle.std.specs.Prelude.{◌≡◌, ℕ, ◌<◌, ◌≤◌, Bool, List, ◌++◌, Option, Ok, Err, Result, length}
use Rattle.std.specs.List.{AllByRecursion}
use Rattle.formula.specs.declared.atom.Lit.{Lit}
use Rattle.formula.specs.declared.atom.Atom.{Atom}
use Rattle.formula.specs.Contents.{Contents}
use Rattle.theory_law.specs.declared.trace.Trace.{Trace}
use Rattle.theory_law.specs.declared.trace.Site.TheVariants.{Pivots as PivotsSite}
use Rattle.theory_law.specs.declared.log.LogStep.{LogStep}
use Rattle.formula.specs.Meets.{IsSolution}
use Rattle.theory_law.specs.Readings.{IsExact}
use Rattle.theory_law.specs.Log.{IsSoundLog, HasEmpty, after_log}
use Rattle.theory_law.specs.Licence.{IsLicensedLog}
use Rattle.theory_law.specs.Sinks.{Rose}
use Rattle.clause_core.specs.declared.solving.Outcome.{Outcome}
use Rattle.clause_core.specs.declared.solving.Outcome.TheVariants.{Found, Empty}
use Rattle.clause_core.specs.declared.solving.CoreFail.{CoreFail}
use Rattle.clause_core.specs.declared.solving.CoreFail.TheVariants.{Steps, Wide, Pivots, Sink, Memory}
use Rattle.clause_core.specs.Stepping.{StepHolds, IsStuck, SplitsOnlyIf}

-- a log over the formula: each step is sound and licensed against what stands before it, and there are splits only where the
-- theory cuts
pub record IsLog {W : Type 0} (Shown : List Bool → List (Option Atom) → List Lit → W → Type 0) (cuts : Bool) (f : Contents) (log : List (LogStep W)) : Type 0 where
  pub sound : IsSoundLog Shown f log
  pub licensed : IsLicensedLog f log
  pub splits : AllByRecursion (SplitsOnlyIf cuts) log

-- what an answer says of the formula with the log, after so many steps of those that are allowed
abbrev pub ResultHolds : (List Bool → List (Option Atom) → ℕ → Trace → Type 0) → ℕ → Contents → ℕ → ℕ → Result Outcome CoreFail → Type 0
ResultHolds Stuck pivots f count steps (Ok (Found p)) = IsSolution f p × IsExact f p
ResultHolds Stuck pivots f count steps (Ok Empty) = HasEmpty f
ResultHolds Stuck pivots f count steps (Err Steps) = (count ≡ steps) × (HasEmpty f → ⊥)
ResultHolds Stuck pivots f count steps (Err (Wide t)) = IsStuck Stuck f pivots t × (t.site ≡ PivotsSite → ⊥)
ResultHolds Stuck pivots f count steps (Err (Pivots t)) = IsStuck Stuck f pivots t × (t.site ≡ PivotsSite)
ResultHolds Stuck pivots f count steps (Err Sink) = count < steps
ResultHolds Stuck pivots f count steps (Err Memory) = Unit {0}

-- what an answer says of the sink: it holds the log behind what it held, or it was stopped in a further step
abbrev pub SinkHolds : Type 0 → Type 0 → Result Outcome CoreFail → Type 0
SinkHolds Handed Stopped (Ok outcome) = Handed
SinkHolds Handed Stopped (Err Steps) = Handed
SinkHolds Handed Stopped (Err (Wide t)) = Handed
SinkHolds Handed Stopped (Err (Pivots t)) = Handed
SinkHolds Handed Stopped (Err Sink) = Stopped
SinkHolds Handed Stopped (Err Memory) = Handed

-- each list that it held is now held with the log behind it
abbrev pub IsHandedOver : {W : Type 0} → (List (LogStep W) → Type 0) → (List (LogStep W) → Type 0) → List (LogStep W) → Type 0
IsHandedOver {W = W} Before Now log = (l : List (LogStep W)) → Before l → Now (l ++ log)

-- a further step that may follow the log, in which the sink was stopped
pub record IsStopped {W : Type 0} (Shown : List Bool → List (Option Atom) → List Lit → W → Type 0) (cuts : Bool) (f : Contents) (Before : List (LogStep W) → Type 0) (Stopped : List (LogStep W) → LogStep W → Type 0) (was is : ℕ) (log : List (LogStep W)) : Type 0 where
  pub step : LogStep W
  pub holds : StepHolds Shown cuts (after_log f log) step
  pub stopped : (l : List (LogStep W)) → Before l → Stopped (l ++ log) step
  pub rose : Rose was is

-- the log that was handed over, and what the answer says behind it
pub record IsSolved {W : Type 0} (Shown : List Bool → List (Option Atom) → List Lit → W → Type 0) (Stuck : List Bool → List (Option Atom) → ℕ → Trace → Type 0) (cuts : Bool) (pivots : ℕ) (f : Contents) (Before Now : List (LogStep W) → Type 0) (Stopped : List (LogStep W) → LogStep W → Type 0) (was is steps : ℕ) (result : Result Outcome CoreFail) : Type 0 where
  pub log : List (LogStep W)
  pub is_log : IsLog Shown cuts f log
  pub short : length log ≤ steps
  pub sink : SinkHolds (IsHandedOver Before Now log) (IsStopped Shown cuts f Before Stopped was is log) result
  pub answer : ResultHolds Stuck pivots (after_log f log) (length log) steps result
