-- A log that is being handed to a sink, and one turn of a search, which hands at most one step.
use Rattle.std.specs.Prelude.{◌≡◌, ℕ, Bool, List, [], ◌∷◌, ◌++◌, Option, Ok, Err, Result, length}
use Rattle.rational.specs.Fraction.{Fraction}
use Rattle.formula.specs.declared.atom.Lit.{Lit}
use Rattle.formula.specs.declared.atom.Atom.{Atom}
use Rattle.formula.specs.Contents.{Contents}
use Rattle.theory_law.specs.declared.trace.Trace.{Trace}
use Rattle.theory_law.specs.declared.log.LogStep.{LogStep}
use Rattle.theory_law.specs.Log.{HasEmpty, after, after_log}
use Rattle.clause_core.specs.declared.solving.Handed.{Handed}
use Rattle.clause_core.specs.declared.solving.Handed.TheVariants.{Step, Over}
use Rattle.clause_core.specs.declared.solving.Outcome.{Outcome}
use Rattle.clause_core.specs.declared.solving.Outcome.TheVariants.{Found, Empty}
use Rattle.clause_core.specs.declared.solving.CoreFail.{CoreFail}
use Rattle.clause_core.specs.declared.solving.CoreFail.TheVariants.{Steps, Wide, Pivots, Sink, Memory}
use Rattle.clause_core.specs.Stepping.{StepHolds}
use Rattle.clause_core.specs.Solved.{IsLog, IsHandedOver, IsSolved}
use Rattle.clause_core.specs.inside.Taking.{IsOfCut}

-- a log of so many steps was handed over, and the formula is now the one with them
pub record IsHanded {W : Type 0} (Shown : List Bool → List (Option Atom) → List Lit → W → Type 0) (cuts : Bool) (base now : Contents) (Before Now : List (LogStep W) → Type 0) (count : ℕ) : Type 0 where
  pub log : List (LogStep W)
  pub is_log : IsLog Shown cuts base log
  pub handed : IsHandedOver Before Now log
  pub formula : now ≡ after_log base log
  pub counted : length log ≡ count

-- the search ended with this answer, after at most one step
pub record IsOver {W : Type 0} (Shown : List Bool → List (Option Atom) → List Lit → W → Type 0) (Stuck : List Bool → List (Option Atom) → ℕ → Trace → Type 0) (cuts : Bool) (pivots : ℕ) (f : Contents) (Before Now : List (LogStep W) → Type 0) (Stopped : List (LogStep W) → LogStep W → Type 0) (was is : ℕ) (result : Result Outcome CoreFail) : Type 0 where
  pub solved : IsSolved Shown Stuck cuts pivots f Before Now Stopped was is 1 result
  pub unspent : result ≡ Err Steps → ⊥

-- the sink took the step, or the search ended
abbrev pub HandedHolds : {W : Type 0} → (List Bool → List (Option Atom) → List Lit → W → Type 0) → (List Bool → List (Option Atom) → ℕ → Trace → Type 0) → Bool → ℕ → Contents → Option (ℕ × Fraction) → (List (LogStep W) → Type 0) → (List (LogStep W) → Type 0) → (List (LogStep W) → LogStep W → Type 0) → ℕ → ℕ → Handed W → Type 0
HandedHolds {W = W} Shown Stuck cuts pivots f cut Before Now Stopped was is (Step s) = StepHolds Shown cuts f s × IsOfCut cut s × ((l : List (LogStep W)) → Before l → Now (l ++ s ∷ []))
HandedHolds Shown Stuck cuts pivots f cut Before Now Stopped was is (Over result) = IsOver Shown Stuck cuts pivots f Before Now Stopped was is result

-- a search that ends once it took the step
abbrev pub IsEnd : {W : Type 0} → Contents → LogStep W → Result Outcome CoreFail → Type 0
IsEnd f s (Ok Empty) = HasEmpty (after f s)
IsEnd f s (Ok (Found p)) = ⊥
IsEnd f s (Err Memory) = Unit {0}
IsEnd f s (Err Steps) = ⊥
IsEnd f s (Err (Wide t)) = ⊥
IsEnd f s (Err (Pivots t)) = ⊥
IsEnd f s (Err Sink) = ⊥
