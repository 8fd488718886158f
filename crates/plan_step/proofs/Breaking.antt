-- Where a step fails, it has the reason.
use Rattle.std.proofs.Common.{Result, Ok, Err}
use Rattle.std.specs.Prelude.{IfErr}
use Rattle.pddl_task.specs.declared.instance.Instance.{Instance}
use Rattle.pddl_task.specs.declared.parts.TaskParts.{TaskParts}
use Rattle.plan_step.specs.declared.failure.StepFail.{StepFail}
use Rattle.plan_step.specs.declared.failure.StepFail.TheVariants as fail
use Rattle.plan_step.specs.State.{PlanState}
use Rattle.plan_step.specs.Step.{step_from}
use Rattle.plan_step.specs.Making.{MakesFail, Makes}
use Rattle.plan_step.specs.Reasons.{FailsBy}
use Rattle.plan_step.proofs.Reasons.{failure_reason}

module _ (task : TaskParts) (by : Instance) (s new : PlanState) where
  fails_by : (e : StepFail) → MakesFail (step_from task s by) s new e → FailsBy task s by e
  fails_by fail.Memory h = tt
  fails_by fail.Arity h = failure_reason task s by fail.Arity h.0
  fails_by fail.ArgType h = failure_reason task s by fail.ArgType h.0
  fails_by (fail.Condition i) h = failure_reason task s by (fail.Condition i) h.0
  fails_by (fail.NoValue i) h = failure_reason task s by (fail.NoValue i) h.0
  fails_by (fail.Clash i) h = failure_reason task s by (fail.Clash i) h.0
  fails_by (fail.Wide w) h = failure_reason task s by (fail.Wide w) h.0

  made_reason : {A : Type 0} (r : Result A StepFail) → Makes (step_from task s by) s new r → IfErr r (FailsBy task s by)
  made_reason (Ok a) h = tt
  made_reason (Err e) h = fails_by e h

pub makes_reason : {A : Type 0} (task : TaskParts) (s new : PlanState) (by : Instance) (r : Result A StepFail) → Makes (step_from task s by) s new r → IfErr r (FailsBy task s by)
makes_reason task s new by r h = made_reason task by s new r h
