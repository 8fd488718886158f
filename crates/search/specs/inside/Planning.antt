-- The plan that a word of ground actions is.
use Rattle.std.specs.Prelude.{ℕ, ◌<◌, List, map, length}
use Rattle.std.specs.List.{AllByRecursion}
use Rattle.pddl_task.specs.declared.parts.TaskParts.{TaskParts}
use Rattle.plan_form.specs.declared.plan.Part.{Part}
use Rattle.plan_form.specs.Printed.{IsPlanOf}
use Rattle.ground_walk.specs.Walk.{kept_instances}
use Rattle.ground_plans.specs.Plans.{instance_at}
use Rattle.planner_text.specs.Text.{IsPlanBy}

-- a ground action that is made so often, as its instance
abbrev pub part_in : TaskParts → ℕ × ℕ → Part
part_in task p = record { count = p.0; by = instance_at task p.1 }

-- each is the number of a ground action
abbrev pub AreKept : TaskParts → List (ℕ × ℕ) → Type 0
AreKept task word = AllByRecursion (λ p. p.1 < length (kept_instances task)) word

-- a valid plan that is a word of n copies, and can be written
pub record IsPlanFound (task : TaskParts) (places : List ℕ) (n : ℕ) (plan : List Part) : Type 0 where
  pub by : IsPlanBy task places n plan
  pub written : IsPlanOf task plan
