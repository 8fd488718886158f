-- What a sink holds after a step.
use Rattle.std.specs.Prelude.{ℕ, ◌+◌, ◌-◌, ◌^◌, ◌≤◌, min, List, [], ◌∷◌, ◌++◌, Ok, Err, Result}
use Rattle.theory_law.specs.declared.log.LogStep.{LogStep}
use Rattle.theory_law.specs.declared.sink.LogFail.{LogFail}
use Rattle.theory_law.specs.declared.sink.LogFail.TheVariants.{Failed, Memory}

-- a sink that held the list now holds the step too, or it stopped in it, or it holds the list as before
abbrev pub SinkAfter : {W : Type 0} → (List (LogStep W) → Type 0) → (List (LogStep W) → LogStep W → Type 0) → List (LogStep W) → LogStep W → Result (Unit {0}) LogFail → Type 0
SinkAfter Stands Stopped log s (Ok done) = Stands (log ++ s ∷ [])
SinkAfter Stands Stopped log s (Err Failed) = Stopped log s
SinkAfter Stands Stopped log s (Err Memory) = Stands log

-- a count of faults is greater than before, or stands at its last value
abbrev pub Rose : ℕ → ℕ → Type 0
Rose before now = min (before + 1) (2 ^ 64 - 1) ≤ now
