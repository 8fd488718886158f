-- A ground task, the instance of each action, and the ground function of each number.
use Rattle.std.specs.Prelude.{◌≡◌, List, length}
use Rattle.task_core.specs.Task.{GroundParts}
use Rattle.pddl_task.specs.declared.instance.Instance.{Instance}
use Rattle.ground.specs.declared.function.GroundFunc.{GroundFunc}

pub record GroundedParts : Type 0 where
  pub task : GroundParts
  pub instances : List Instance
  pub funcs : List GroundFunc

-- an instance for each action, and a ground function for each number
pub record IsMatched (parts : GroundedParts) : Type 0 where
  pub instances : length parts.instances ≡ length parts.task.actions
  pub funcs : length parts.funcs ≡ length parts.task.funcs
