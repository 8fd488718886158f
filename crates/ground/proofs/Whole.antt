-- What is concluded is the ground task of the task.
use Rattle.std.proofs.Common.{◌≡◌, ℕ, ◌≤◌, sym, ap, subst, ◌∙◌, arith}
use Rattle.task_core.specs.Task.{IsGroundTask}
use Rattle.pddl_task.specs.declared.parts.TaskParts.{TaskParts}
use Rattle.plan_step.specs.State.{PlanState, initial}
use Rattle.ground_laws.specs.Result.{task_from}
use Rattle.ground_laws.proofs.ResultLaws.{is_ground_task}
use Rattle.ground.specs.declared.working.Worked.{Worked}
use Rattle.ground.specs.inside.Concluding.{parts_of}
use Rattle.ground.specs.inside.Working.{IsWorked}

module _ (task : TaskParts) (limit : ℕ) (s : PlanState) (start : s ≡ initial task) (w : Worked) (h : IsWorked task limit w) where
  parts_are : parts_of s w.walk w.goal ≡ task_from task
  parts_are = ap (λ q. parts_of q w.walk w.goal) start ∙ h.parts_are

  pub concluded_task : limit ≤ 1000000 → IsGroundTask (parts_of s w.walk w.goal)
  concluded_task most = let few = h.few in subst IsGroundTask (sym parts_are) (is_ground_task task (omega arith))
