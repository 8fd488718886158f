-- The line of an answer, and its status.
use Rattle.std.specs.Prelude.{ℕ, List, [], ◌∷◌, ◌++◌, codes}
use Rattle.std.specs.Fmt.{decimal}
use Rattle.operation_text.specs.Operation.{operation_text}
use Rattle.plan_step.specs.declared.failure.StepFail.{StepFail}
use Rattle.plan_step.specs.declared.failure.StepFail.TheVariants as fail
use Rattle.plan_judge.specs.declared.outcome.PartFail.{PartFail}
use Rattle.plan_judge.specs.declared.outcome.Outcome.{Outcome}
use Rattle.plan_judge.specs.declared.outcome.Outcome.TheVariants as outcome
use Rattle.patty_run.specs.Printed.{line}
use Rattle.validator.specs.declared.answer.Answer.{Answer}
use Rattle.validator.specs.declared.answer.Answer.TheVariants as answer

-- the first word says that a plan isn't valid, or that an operation passes 128 bits; a judgement never ends in want of
-- memory, so what stands there for it is no line of a run
abbrev pub first_word : StepFail → List ℕ
first_word fail.Arity = codes "invalid "
first_word fail.ArgType = codes "invalid "
first_word (fail.Condition i) = codes "invalid "
first_word (fail.NoValue i) = codes "invalid "
first_word (fail.Clash i) = codes "invalid "
first_word (fail.Wide w) = codes "wide "
first_word fail.Memory = []

abbrev pub reason : StepFail → List ℕ
reason fail.Arity = codes "arity"
reason fail.ArgType = codes "type"
reason (fail.Condition i) = codes "condition " ++ decimal i
reason (fail.NoValue i) = codes "value " ++ decimal i
reason (fail.Clash i) = codes "clash " ++ decimal i
reason (fail.Wide w) = operation_text w
reason fail.Memory = []

-- the part and the repetition stand between the two
abbrev pub failure : PartFail → List ℕ
failure e = first_word e.fail.fail ++ (decimal e.part ++ (codes " " ++ (decimal e.fail.at ++ (codes " " ++ reason e.fail.fail))))

abbrev pub outcome_text : Outcome → ℕ → List ℕ
outcome_text outcome.Valid steps = codes "valid " ++ decimal steps
outcome_text (outcome.PartFails e) steps = failure e
outcome_text outcome.GoalFails steps = codes "invalid goal"
outcome_text (outcome.GoalWide w) steps = codes "wide goal " ++ operation_text w

abbrev pub text : Answer → List ℕ
text (answer.PlanFault kind place) = codes "fault plan " ++ (decimal kind ++ (codes " " ++ decimal place))
text (answer.Judged o steps) = outcome_text o steps

abbrev pub lines : Answer → List (List ℕ)
lines a = line (text a) ∷ []

-- ---- the status

abbrev pub failure_status : StepFail → ℕ
failure_status fail.Arity = 1
failure_status fail.ArgType = 1
failure_status (fail.Condition i) = 1
failure_status (fail.NoValue i) = 1
failure_status (fail.Clash i) = 1
failure_status (fail.Wide w) = 2
failure_status fail.Memory = 2

abbrev pub outcome_status : Outcome → ℕ
outcome_status outcome.Valid = 0
outcome_status (outcome.PartFails e) = failure_status e.fail.fail
outcome_status outcome.GoalFails = 1
outcome_status (outcome.GoalWide w) = 2

abbrev pub status : Answer → ℕ
status (answer.PlanFault kind place) = 3
status (answer.Judged o steps) = outcome_status o
