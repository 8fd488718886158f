-- Plans of a task by the numbers of its ground actions (this project).
use Rattle.std.specs.Prelude.{ℕ, List, map, Option, Some, None, [], slice_get}
use Rattle.pddl_task.specs.declared.instance.Instance.{Instance}
use Rattle.pddl_task.specs.declared.parts.TaskParts.{TaskParts}
use Rattle.plan_step.specs.Meaning.{IsValidPlan}
use Rattle.task_core.specs.Words.{IsWord}
use Rattle.task_core.specs.Plan.{rolls}
use Rattle.ground_walk.specs.Walk.{Kept, kept_instances}
use Rattle.ground_laws.specs.Laws.{instance_of}
use Rattle.ground_laws.specs.Result.{task_from}

-- behind the last instance there is none, and what stands for it here is never asked for
abbrev pub instance_or_none : Option Kept → Instance
instance_or_none None = record { action = 0; args = [] }
instance_or_none (Some k) = instance_of k

-- the instance that the ground action with the number is
abbrev pub instance_at : TaskParts → ℕ → Instance
instance_at task n = instance_or_none (slice_get (kept_instances task) n)

abbrev pub instances_at : TaskParts → List ℕ → List Instance
instances_at task word = map (instance_at task) word

-- a word of n copies of these places reaches the goal: its instances are a valid plan
pub record ReachesGoal (task : TaskParts) (places : List ℕ) (n : ℕ) : Type 0 where
  pub word : List ℕ
  pub is_word : IsWord (rolls (task_from task)) places n word
  pub valid : IsValidPlan task (instances_at task word)
