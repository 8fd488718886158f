-- Repeating an instance (this project): so many of its steps in turn, or the first that fails.
use Rattle.std.specs.Prelude.{◌≡◌, ◌⊎◌, ℕ, ◌+◌, ◌<◌, List, replicate, Some, Result, Ok, Err}
use Rattle.rational.specs.Fraction.{Fraction}
use Rattle.frac128.specs.Operations.{Passes}
use Rattle.frac128.specs.declared.operations.Op.TheVariants.{Sub}
use Rattle.frac128.specs.declared.operations.Wide.{Wide}
use Rattle.pddl_task.specs.declared.instance.Instance.{Instance}
use Rattle.pddl_task.specs.declared.parts.TaskParts.{TaskParts}
use Rattle.plan_step.specs.declared.failure.StepFail.{StepFail}
use Rattle.plan_step.specs.declared.failure.StepFail.TheVariants as fail
use Rattle.plan_step.specs.State.{PlanState}
use Rattle.plan_step.specs.Step.{step_from}
use Rattle.plan_step.specs.Meaning.{HasStep, Run}
use Rattle.plan_step.specs.Reasons.{FailsBy}
use Rattle.plan_repeat.specs.declared.failure.RepeatFail.{RepeatFail}
use Rattle.plan_repeat.specs.Rolling.{IsRollable}
use Rattle.plan_repeat.specs.Jump.{JumpPasses}

-- a repetition breaks off: some of its steps have a run from the state, and the next one fails, by this reason
pub record BreaksAt (task : TaskParts) (s : PlanState) (by : Instance) (times at : ℕ) (e : StepFail) : Type 0 where
  pub made : ℕ
  pub within : made < times
  pub number : at ≡ made + 1
  pub reached : PlanState
  pub run : Run task s (replicate made by) reached
  pub fails : step_from task reached by ≡ Err e
  pub reason : FailsBy task reached by e

-- after its first step the steps of an instance are made one after another: it doesn't roll, or an operation passes by which it
-- is found how much a function grew
pub data IsInTurn (task : TaskParts) (s : PlanState) (by : Instance) : Type 0 where
  apart : (first : PlanState) (h : HasStep task s by first) → (IsRollable task h.action by.args h.changes → ⊥) → IsInTurn task s by
  unfound : (first : PlanState) → HasStep task s by first → (f : ℕ) (args : List ℕ) (x y : Fraction) → s.value f args ≡ Some x → first.value f args ≡ Some y → Passes Sub y x → IsInTurn task s by

-- at this repetition an operation of a step passes: of the first, or of one of those that are made one after another
pub record StepPasses (task : TaskParts) (s : PlanState) (by : Instance) (times at : ℕ) (w : Wide) : Type 0 where
  pub breaks : BreaksAt task s by times at (fail.Wide w)
  pub in_turn : (breaks.made ≡ 0) ⊎ IsInTurn task s by

-- An operation that passes is one of a step or one of the jump. For want of memory the number says nothing.
abbrev pub Breaks : TaskParts → PlanState → Instance → ℕ → ℕ → StepFail → Type 0
Breaks task s by times at fail.Memory = Unit {0}
Breaks task s by times at (fail.Wide w) = StepPasses task s by times at w ⊎ JumpPasses task s by times at w
Breaks task s by times at e = BreaksAt task s by times at e

-- the steps have a run, and the state is its end; or a repetition breaks off, and the state is as before
abbrev pub Repeats : TaskParts → Instance → ℕ → PlanState → PlanState → Result (Unit {0}) RepeatFail → Type 0
Repeats task by times old new (Ok _) = Run task old (replicate times by) new
Repeats task by times old new (Err f) = Breaks task old by times f.at f.fail × (new ≡ old)
