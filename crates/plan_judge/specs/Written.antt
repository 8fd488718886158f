-- When a plan is valid (PDDL 2.1).
use Rattle.std.specs.Prelude.{List}
use Rattle.pddl_task.specs.declared.parts.TaskParts.{TaskParts}
use Rattle.plan_step.specs.Meaning.{IsValidPlan}
use Rattle.plan_form.specs.declared.plan.Part.{Part}
use Rattle.plan_form.specs.Printed.{written_out}

-- the plan written out is valid: it has a run from the initial state to one in which the goal holds, in unlimited fractions
abbrev pub IsValid : TaskParts → List Part → Type 0
IsValid task plan = IsValidPlan task (written_out plan)
