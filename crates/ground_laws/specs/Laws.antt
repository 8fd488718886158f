-- What the steps of a task are in its ground task.
use Rattle.std.specs.Prelude.{◌≡◌, ℕ, slice_get, Some}
use Rattle.pddl_task.specs.declared.instance.Instance.{Instance}
use Rattle.pddl_task.specs.declared.parts.TaskParts.{TaskParts}
use Rattle.plan_step.specs.State.{PlanState}
use Rattle.task_core.specs.State.{State}
use Rattle.task_core.specs.Step.{Holds, after}
use Rattle.task_core.specs.Task.{action_at}
use Rattle.ground_action.specs.Agrees.{Fits, Agrees}
use Rattle.ground_walk.specs.Walk.{Kept, kept_instances}
use Rattle.ground_laws.specs.Result.{numbered, task_from}

abbrev pub instance_of : Kept → Instance
instance_of k = record { action = k.number; args = k.args }

-- the state has the static part of the initial one, each function with an initial value has one in it, and the ground state agrees
-- with it
pub record IsSeenAs (task : TaskParts) (s : PlanState) (g : State) : Type 0 where
  pub fits : Fits (numbered task) s
  pub agrees : Agrees (numbered task) s g

-- the ground action with the number has its step, to a ground state that agrees with the new state
pub record StepsTo (task : TaskParts) (n : ℕ) (g : State) (new : PlanState) : Type 0 where
  pub holds : Holds (action_at (task_from task) n) g
  pub seen : IsSeenAs task new (after (action_at (task_from task) n) g)

-- it is the instance of an action of the ground task
pub record HasAction (task : TaskParts) (by : Instance) : Type 0 where
  pub number : ℕ
  pub kept : Kept
  pub stands : slice_get (kept_instances task) number ≡ Some kept
  pub is : instance_of kept ≡ by
