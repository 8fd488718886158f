-- What a step of an instance is in the ground.
use Rattle.std.specs.Prelude.{ℕ, List}
use Rattle.pddl_task.specs.declared.action.Action.{Action}
use Rattle.plan_step.specs.State.{PlanState}
use Rattle.task_core.specs.State.{State}
use Rattle.task_core.specs.Step.{Holds, after}
use Rattle.ground_action.specs.Setting.{Setting}
use Rattle.ground_action.specs.Agrees.{Fits, Agrees}
use Rattle.ground_action.specs.GroundAction.{ground_action}

-- the ground action has its step from the ground state, and the ground state after it agrees with the instance's new state
pub record IsGroundStep (set : Setting) (a : Action) (args : List ℕ) (g : State) (new : PlanState) : Type 0 where
  pub holds : Holds (ground_action set a args) g
  pub agrees : Agrees set new (after (ground_action set a args) g)
  pub fits : Fits set new
