-- Whether an instance fits its action, and what it touches.
use Rattle.std.specs.Prelude.{List, [], map, Result, Ok, Err}
use Rattle.pddl_task.specs.declared.action.Action.{Action}
use Rattle.pddl_task.specs.declared.instance.Instance.{Instance}
use Rattle.pddl_task.specs.declared.parts.TaskParts.{TaskParts}
use Rattle.plan_step.specs.declared.failure.StepFail.{StepFail}
use Rattle.plan_step.specs.Step.{then_next, action_for, typed_arguments}
use Rattle.plan_step.specs.Touches.{Target, target_in}

-- the action of an instance, where the arguments are of its types
abbrev pub fitting : TaskParts → Instance → Result Action StepFail
fitting task by = then_next (action_for task by) (λ a. then_next (typed_arguments task a by.args) (λ _. Ok a))

abbrev pub touched_by : Instance → Result Action StepFail → List Target
touched_by by (Ok a) = map (target_in by.args) a.effs
touched_by by (Err e) = []

-- what an instance touches
unfoldable pub targets_of : TaskParts → Instance → List Target
targets_of task by = touched_by by (fitting task by)
