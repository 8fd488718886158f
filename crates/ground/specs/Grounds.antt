-- What grounding answers (this project).
use Rattle.std.specs.Prelude.{◌≡◌, ℕ, ◌<◌, ◌≤◌, map, length, Result, Ok, Err, ⊤}
use Rattle.lin.specs.Operations.{AllFit, IsFirstPassing}
use Rattle.pddl_task.specs.declared.parts.TaskParts.{TaskParts}
use Rattle.ground_numbers.specs.declared.named.Named.{Named}
use Rattle.ground_walk.specs.Walk.{kept_instances, funcs_of}
use Rattle.ground_laws.specs.Result.{task_from}
use Rattle.ground_laws.specs.Laws.{instance_of}
use Rattle.ground_entry.specs.declared.failure.GroundFail.{GroundFail}
use Rattle.ground_entry.specs.declared.failure.GroundFail.TheVariants.{Many, CoefWide, Memory}
use Rattle.ground.specs.declared.function.GroundFunc.{GroundFunc}
use Rattle.ground.specs.Parts.{GroundedParts}
use Rattle.ground.specs.Course.{ops_within}

abbrev pub func_in : Named → GroundFunc
func_in k = record { func = k.symbol; args = k.args }

-- the ground task of a task, with the instance of each action and the ground function of each number; all operations fit, and at
-- most so many instances are kept
pub record IsGrounded (task : TaskParts) (limit : ℕ) (parts : GroundedParts) : Type 0 where
  pub fit : AllFit (ops_within task limit)
  pub few : length (kept_instances task) ≤ limit
  pub task_is : parts.task ≡ task_from task
  pub instances_are : parts.instances ≡ map instance_of (kept_instances task)
  pub funcs_are : parts.funcs ≡ map func_in (funcs_of task)

-- more are kept, and the operations up to the first of those fit
pub record HasTooMany (task : TaskParts) (limit : ℕ) : Type 0 where
  pub fit : AllFit (ops_within task limit)
  pub over : limit < length (kept_instances task)

-- what is met first on the way
abbrev pub RefusesTask : TaskParts → ℕ → GroundFail → Type 0
RefusesTask task limit Many = HasTooMany task limit
RefusesTask task limit (CoefWide w) = IsFirstPassing w (ops_within task limit)
RefusesTask task limit Memory = ⊤

abbrev pub Grounds : TaskParts → ℕ → Result GroundedParts GroundFail → Type 0
Grounds task limit (Ok parts) = IsGrounded task limit parts
Grounds task limit (Err e) = RefusesTask task limit e
