-- One log behind another, and an answer behind a log.
use Rattle.std.proofs.Common.{◌≡◌, ℕ, ◌≤◌, ◌+◌, Bool, List, [], ◌∷◌, ◌++◌, Option, Err, Result, min, ◌^◌, ◌-◌, refl, sym, ap, arith, subst, ◌∙◌, append_assoc, append-nil, length-append, length, Ok, ◌<◌}
use Rattle.std.specs.List.{AllByRecursion}
use Rattle.formula.specs.declared.atom.Lit.{Lit}
use Rattle.formula.specs.declared.atom.Atom.{Atom}
use Rattle.formula.specs.Contents.{Contents}
use Rattle.theory_law.specs.declared.trace.Trace.{Trace}
use Rattle.theory_law.specs.declared.log.LogStep.{LogStep}
use Rattle.theory_law.specs.Log.{after, after_log, IsSoundLog}
use Rattle.theory_law.specs.Licence.{IsLicensedLog}
use Rattle.theory_law.specs.Sinks.{Rose}
use Rattle.clause_core.specs.declared.solving.Outcome.{Outcome}
use Rattle.clause_core.specs.declared.solving.CoreFail.{CoreFail}
use Rattle.clause_core.specs.declared.solving.CoreFail.TheVariants.{Wide, Pivots, Memory, Steps, Sink}
use Rattle.clause_core.specs.Stepping.{StepHolds, SplitsOnlyIf}
use Rattle.clause_core.specs.Solved.{IsHandedOver, ResultHolds, SinkHolds, IsStopped, IsSolved, IsLog}
use Rattle.clause_core.specs.inside.Handing.{IsHanded, IsOver}
use Rattle.clause_core.specs.declared.solving.Outcome.TheVariants.{Found, Empty}

after_append : {W : Type 0} (f : Contents) (log more : List (LogStep W)) → after_log f (log ++ more) ≡ after_log (after_log f log) more
after_append f [] more = refl
after_append f (x ∷ log) more = after_append (after f x) log more

sound_append : {W : Type 0} (Shown : List Bool → List (Option Atom) → List Lit → W → Type 0) (f : Contents) (log more : List (LogStep W)) → IsSoundLog Shown f log → IsSoundLog Shown (after_log f log) more → IsSoundLog Shown f (log ++ more)
sound_append Shown f [] more h t = t
sound_append Shown f (x ∷ log) more h t = (h.0, sound_append Shown (after f x) log more h.1 t)

licensed_append : {W : Type 0} (f : Contents) (log more : List (LogStep W)) → IsLicensedLog f log → IsLicensedLog (after_log f log) more → IsLicensedLog f (log ++ more)
licensed_append f [] more h t = t
licensed_append f (x ∷ log) more h t = (h.0, licensed_append (after f x) log more h.1 t)

splits_append : {W : Type 0} (cuts : Bool) (log more : List (LogStep W)) → AllByRecursion (SplitsOnlyIf cuts) log → AllByRecursion (SplitsOnlyIf cuts) more → AllByRecursion (SplitsOnlyIf cuts) (log ++ more)
splits_append cuts [] more h t = t
splits_append cuts (x ∷ log) more h t = (h.0, splits_append cuts log more h.1 t)

log_append : {W : Type 0} (Shown : List Bool → List (Option Atom) → List Lit → W → Type 0) (cuts : Bool) (f : Contents) (log more : List (LogStep W)) → IsLog Shown cuts f log → IsLog Shown cuts (after_log f log) more → IsLog Shown cuts f (log ++ more)
log_append Shown cuts f log more h t = record {
  sound = sound_append Shown f log more h.sound t.sound;
  licensed = licensed_append f log more h.licensed t.licensed;
  splits = splits_append cuts log more h.splits t.splits;
}

handed_append : {W : Type 0} (Before Mid Now : List (LogStep W) → Type 0) (log more : List (LogStep W)) → IsHandedOver Before Mid log → IsHandedOver Mid Now more → IsHandedOver Before Now (log ++ more)
handed_append Before Mid Now log more h t l b = subst Now (append_assoc l log more) (t (l ++ log) (h l b))

pub handed_none : {W : Type 0} (Shown : List Bool → List (Option Atom) → List Lit → W → Type 0) (cuts : Bool) (f : Contents) (Before : List (LogStep W) → Type 0) → IsHanded Shown cuts f f Before Before 0
handed_none Shown cuts f Before = record {
  log = [];
  is_log = record { sound = tt; licensed = tt; splits = tt };
  handed = λ l h. subst Before (sym (append-nil l)) h;
  formula = refl;
  counted = refl;
}

pub handed_then : {W : Type 0} {Shown : List Bool → List (Option Atom) → List Lit → W → Type 0} {cuts : Bool} {base now next : Contents} {Before Mid Now : List (LogStep W) → Type 0} {n m : ℕ} → IsHanded Shown cuts base now Before Mid n → IsHanded Shown cuts now next Mid Now m → IsHanded Shown cuts base next Before Now (n + m)
handed_then {Shown = Shown} {cuts = cuts} {base = base} {Before = Before} {Mid = Mid} {Now = Now} {n = n} h t = record {
  log = h.log ++ t.log;
  is_log = log_append Shown cuts base h.log t.log h.is_log (subst (λ (x : Contents). IsLog Shown cuts x t.log) h.formula t.is_log);
  handed = handed_append Before Mid Now h.log t.log h.handed t.handed;
  formula = t.formula ∙ ap (λ (x : Contents). after_log x t.log) h.formula ∙ sym (after_append base h.log t.log);
  counted = length-append h.log t.log ∙ ap (λ (k : ℕ). k + length t.log) h.counted ∙ ap (λ (k : ℕ). n + k) t.counted;
}

rose_under : (most was before now : ℕ) → was ≤ before → min (before + 1) most ≤ now → min (was + 1) most ≤ now
rose_under most was before now le h = omega (arith, le, h)

-- since an earlier count
pub rose_since : (was before now : ℕ) → was ≤ before → Rose before now → Rose was now
rose_since was before now le h = rose_under (2 ^ 64 - 1) was before now le h

-- an answer behind a log that was handed, where fewer steps than were allowed
stopped_then : {W : Type 0} {Shown : List Bool → List (Option Atom) → List Lit → W → Type 0} {cuts : Bool} (base : Contents) (log more : List (LogStep W)) (Before Mid : List (LogStep W) → Type 0) (Stopped : List (LogStep W) → LogStep W → Type 0) (was mid is : ℕ) → IsHandedOver Before Mid log → was ≤ mid → IsStopped Shown cuts (after_log base log) Mid Stopped mid is more → IsStopped Shown cuts base Before Stopped was is (log ++ more)
stopped_then {W = W} {Shown = Shown} {cuts = cuts} base log more Before Mid Stopped was mid is h le t = record {
  step = t.step;
  holds = subst (λ (x : Contents). StepHolds Shown cuts x t.step) (sym (after_append base log more)) t.holds;
  stopped = λ l b. subst (λ (x : List (LogStep W)). Stopped x t.step) (append_assoc l log more) (t.stopped (l ++ log) (h l b));
  rose = rose_since was mid is le t.rose;
}

sink_then : {W : Type 0} (Shown : List Bool → List (Option Atom) → List Lit → W → Type 0) (cuts : Bool) (base : Contents) (log more : List (LogStep W)) (Before Mid Now : List (LogStep W) → Type 0) (Stopped : List (LogStep W) → LogStep W → Type 0) (was mid is : ℕ) (result : Result Outcome CoreFail) → IsHandedOver Before Mid log → was ≤ mid → SinkHolds (IsHandedOver Mid Now more) (IsStopped Shown cuts (after_log base log) Mid Stopped mid is more) result → SinkHolds (IsHandedOver Before Now (log ++ more)) (IsStopped Shown cuts base Before Stopped was is (log ++ more)) result
sink_then Shown cuts base log more Before Mid Now Stopped was mid is (Ok outcome) h le t = handed_append Before Mid Now log more h t
sink_then Shown cuts base log more Before Mid Now Stopped was mid is (Err Steps) h le t = handed_append Before Mid Now log more h t
sink_then Shown cuts base log more Before Mid Now Stopped was mid is (Err (Wide x)) h le t = handed_append Before Mid Now log more h t
sink_then Shown cuts base log more Before Mid Now Stopped was mid is (Err (Pivots x)) h le t = handed_append Before Mid Now log more h t
sink_then Shown cuts base log more Before Mid Now Stopped was mid is (Err Sink) h le t = stopped_then base log more Before Mid Stopped was mid is h le t
sink_then Shown cuts base log more Before Mid Now Stopped was mid is (Err Memory) h le t = handed_append Before Mid Now log more h t

answer_then : (Stuck : List Bool → List (Option Atom) → ℕ → Trace → Type 0) (pivots : ℕ) (f : Contents) (n m count steps : ℕ) (result : Result Outcome CoreFail) → (result ≡ Err Steps → ⊥) → count ≡ n + m → n < steps → ResultHolds Stuck pivots f m 1 result → ResultHolds Stuck pivots f count steps result
answer_then Stuck pivots f n m count steps (Ok (Found p)) unspent e lt h = h
answer_then Stuck pivots f n m count steps (Ok Empty) unspent e lt h = h
answer_then Stuck pivots f n m count steps (Err Steps) unspent e lt h = absurd (unspent refl)
answer_then Stuck pivots f n m count steps (Err (Wide t)) unspent e lt h = h
answer_then Stuck pivots f n m count steps (Err (Pivots t)) unspent e lt h = h
answer_then Stuck pivots f n m count steps (Err Sink) unspent e lt h = omega arith
answer_then Stuck pivots f n m count steps (Err Memory) unspent e lt h = tt

pub over_then : {W : Type 0} {Shown : List Bool → List (Option Atom) → List Lit → W → Type 0} {Stuck : List Bool → List (Option Atom) → ℕ → Trace → Type 0} {cuts : Bool} {pivots : ℕ} {base now : Contents} {Before Mid Now : List (LogStep W) → Type 0} {Stopped : List (LogStep W) → LogStep W → Type 0} {n was mid is : ℕ} {result : Result Outcome CoreFail} → IsHanded Shown cuts base now Before Mid n → IsOver Shown Stuck cuts pivots now Mid Now Stopped mid is result → was ≤ mid → (steps : ℕ) → n < steps → IsSolved Shown Stuck cuts pivots base Before Now Stopped was is steps result
over_then {Shown = Shown} {Stuck = Stuck} {cuts = cuts} {pivots = pivots} {base = base} {Before = Before} {Mid = Mid} {Now = Now} {Stopped = Stopped} {n = n} {was = was} {mid = mid} {is = is} {result = result} h t le steps lt =
    let s = subst (λ (x : Contents). IsSolved Shown Stuck cuts pivots x Mid Now Stopped mid is 1 result) h.formula t.solved in
    let count = length-append h.log s.log ∙ ap (λ (k : ℕ). k + length s.log) h.counted in
    record {
      log = h.log ++ s.log;
      is_log = log_append Shown cuts base h.log s.log h.is_log s.is_log;
      short = omega (arith, count, s.short, lt);
      sink = sink_then Shown cuts base h.log s.log Before Mid Now Stopped was mid is result h.handed le s.sink;
      answer = answer_then Stuck pivots (after_log base (h.log ++ s.log)) n (length s.log) (length (h.log ++ s.log)) steps result t.unspent count lt
          (subst (λ (x : Contents). ResultHolds Stuck pivots x (length s.log) 1 result) (sym (after_append base h.log s.log)) s.answer);
    }
