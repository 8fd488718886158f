-- How far a plan comes, by runs of instances: to the first part that breaks off, or to the goal's test after its last part.
use Rattle.std.specs.Prelude.{◌≡◌, ◌+◌, Bool, true, false, List, ◌∷◌, ◌++◌, length, Result, Ok, Err}
use Rattle.frac128.specs.declared.operations.Wide.{Wide}
use Rattle.pddl_task.specs.declared.parts.TaskParts.{TaskParts}
use Rattle.plan_step.specs.declared.failure.StepFail.TheVariants as fail
use Rattle.plan_step.specs.State.{PlanState, initial}
use Rattle.plan_step.specs.Conditions.{goal_met}
use Rattle.plan_step.specs.Meaning.{Run}
use Rattle.plan_repeat.specs.Repeat.{Breaks}
use Rattle.plan_form.specs.declared.plan.Part.{Part}
use Rattle.plan_judge.specs.declared.outcome.PartFail.{PartFail}
use Rattle.plan_judge.specs.declared.outcome.Outcome.{Outcome}
use Rattle.plan_judge.specs.declared.outcome.Outcome.TheVariants as outcome
use Rattle.plan_form.specs.Printed.{written_out}

-- The parts in front of one have a run, and from its end the repetition of that one breaks off as is told: some of its steps
-- are made, and the next fails, or an operation of its jump passes. Parts and repetitions are numbered from 1.
pub record IsFirstFailure (task : TaskParts) (plan : List Part) (e : PartFail) : Type 0 where
  pub front : List Part
  pub part : Part
  pub after : List Part
  pub split : plan ≡ front ++ part ∷ after
  pub number : e.part ≡ length front + 1
  pub start : PlanState
  pub run : Run task (initial task) (written_out front) start
  pub breaks : Breaks task start part.by part.count e.fail.at e.fail.fail
  pub told : e.fail.fail ≡ fail.Memory → ⊥

-- the plan written out has a run, and the goal's test after it answers this
pub record IsTested (task : TaskParts) (plan : List Part) (answer : Result Bool Wide) : Type 0 where
  pub reached : PlanState
  pub run : Run task (initial task) (written_out plan) reached
  pub tested : goal_met reached task.goal ≡ answer

-- what judging a plan comes to
abbrev pub ComesTo : TaskParts → List Part → Outcome → Type 0
ComesTo task plan outcome.Valid = IsTested task plan (Ok true)
ComesTo task plan (outcome.PartFails e) = IsFirstFailure task plan e
ComesTo task plan outcome.GoalFails = IsTested task plan (Ok false)
ComesTo task plan (outcome.GoalWide w) = IsTested task plan (Err w)
