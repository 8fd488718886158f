-- What an outcome says of a plan.
use Rattle.std.specs.Prelude.{List}
use Rattle.frac128.specs.Operations.{Passes}
use Rattle.pddl_task.specs.declared.parts.TaskParts.{TaskParts}
use Rattle.plan_form.specs.declared.plan.Part.{Part}
use Rattle.plan_judge.specs.Written.{IsValid}
use Rattle.plan_step.specs.declared.failure.StepFail.{StepFail}
use Rattle.plan_step.specs.declared.failure.StepFail.TheVariants as fail
use Rattle.plan_step.specs.Laws.{IsRefutal}
use Rattle.plan_judge.specs.declared.outcome.Outcome.{Outcome}
use Rattle.plan_judge.specs.declared.outcome.Outcome.TheVariants as outcome

-- the outcome says that the plan isn't valid
abbrev pub SaysInvalid : Outcome → Type 0
SaysInvalid outcome.Valid = ⊥
SaysInvalid (outcome.PartFails e) = IsRefutal e.fail.fail
SaysInvalid outcome.GoalFails = Unit {0}
SaysInvalid (outcome.GoalWide w) = ⊥

-- the outcome says that the plan is valid, or that it isn't
abbrev pub IsDecided : Outcome → Type 0
IsDecided outcome.Valid = Unit {0}
IsDecided (outcome.PartFails e) = IsRefutal e.fail.fail
IsDecided outcome.GoalFails = Unit {0}
IsDecided (outcome.GoalWide w) = ⊥

-- ---- what an outcome says of the plan written out, in unlimited fractions

abbrev pub MeansFail : TaskParts → List Part → StepFail → Type 0
MeansFail task plan (fail.Wide w) = Passes w.op w.x w.y
MeansFail task plan fail.Arity = IsValid task plan → ⊥
MeansFail task plan fail.ArgType = IsValid task plan → ⊥
MeansFail task plan (fail.Condition i) = IsValid task plan → ⊥
MeansFail task plan (fail.NoValue i) = IsValid task plan → ⊥
MeansFail task plan (fail.Clash i) = IsValid task plan → ⊥
MeansFail task plan fail.Memory = ⊥

-- it is valid, or it isn't, or the operation passes 128 bits; want of memory is no outcome
abbrev pub Means : TaskParts → List Part → Outcome → Type 0
Means task plan outcome.Valid = IsValid task plan
Means task plan (outcome.PartFails e) = MeansFail task plan e.fail.fail
Means task plan outcome.GoalFails = IsValid task plan → ⊥
Means task plan (outcome.GoalWide w) = Passes w.op w.x w.y

-- ---- the operation of an outcome passes 128 bits

abbrev pub FailPassesBits : StepFail → Type 0
FailPassesBits (fail.Wide w) = Passes w.op w.x w.y
FailPassesBits fail.Arity = ⊥
FailPassesBits fail.ArgType = ⊥
FailPassesBits (fail.Condition i) = ⊥
FailPassesBits (fail.NoValue i) = ⊥
FailPassesBits (fail.Clash i) = ⊥
FailPassesBits fail.Memory = ⊥

abbrev pub PassesBits : Outcome → Type 0
PassesBits outcome.Valid = ⊥
PassesBits (outcome.PartFails e) = FailPassesBits e.fail.fail
PassesBits outcome.GoalFails = ⊥
PassesBits (outcome.GoalWide w) = Passes w.op w.x w.y
