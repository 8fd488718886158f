-- The states that a ground task can come to.
use Rattle.std.specs.Prelude.{ℕ, ◌<◌, List, map, length}
use Rattle.std.specs.List.{AllByRecursion}
use Rattle.task_core.specs.State.{State}
use Rattle.task_core.specs.Task.{GroundParts, start, action_at}
use Rattle.task_core.specs.Plan.{Run}

-- a state at the end of a run from the start
pub record IsReachable (task : GroundParts) (s : State) : Type 0 where
  pub actions : List ℕ
  pub numbered : AllByRecursion (λ n. n < length task.actions) actions
  pub run : Run (start task) (map (action_at task) actions) s
