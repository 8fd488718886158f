-- The walk and the goal, behind each other.
use Rattle.std.specs.Prelude.{◌≡◌, ℕ, ◌≤◌, map, length, Result, Ok, Err}
use Rattle.lin.specs.Operations.{AllFit}
use Rattle.pddl_task.specs.declared.parts.TaskParts.{TaskParts}
use Rattle.plan_step.specs.State.{initial}
use Rattle.ground_walk.specs.Walk.{kept_instances, funcs_of}
use Rattle.ground_laws.specs.Result.{task_from}
use Rattle.ground_laws.specs.Laws.{instance_of}
use Rattle.ground_entry.specs.declared.walk.Walk.{Walk}
use Rattle.ground_entry.specs.declared.failure.GroundFail.{GroundFail}
use Rattle.ground_entry.specs.Walking.{walk_start, IsThrough, Refuses}
use Rattle.ground.specs.declared.working.Worked.{Worked}
use Rattle.ground.specs.Course.{all_instances, ops_within}
use Rattle.ground.specs.Grounds.{RefusesTask}
use Rattle.ground.specs.inside.Concluding.{parts_of}

-- the walk from the start through all instances
abbrev pub Walked : TaskParts → ℕ → Result Walk GroundFail → Type 0
Walked task limit (Ok w) = IsThrough task limit (walk_start task) (all_instances task) w
Walked task limit (Err e) = Refuses task limit (walk_start task) (all_instances task) e

-- all operations fit, and what is made of them are the parts of the ground task
pub record IsWorked (task : TaskParts) (limit : ℕ) (w : Worked) : Type 0 where
  pub fit : AllFit (ops_within task limit)
  pub few : length (kept_instances task) ≤ limit
  pub parts_are : parts_of (initial task) w.walk w.goal ≡ task_from task
  pub instances_are : w.walk.instances ≡ map instance_of (kept_instances task)
  pub funcs_are : w.walk.tables.funcs ≡ funcs_of task
  pub matched : length w.walk.instances ≡ length w.walk.drafts

abbrev pub Works : TaskParts → ℕ → Result Worked GroundFail → Type 0
Works task limit (Ok w) = IsWorked task limit w
Works task limit (Err e) = RefusesTask task limit e
