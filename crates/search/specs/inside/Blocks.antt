-- A block with its lines.
use Rattle.std.specs.Prelude.{◌≡◌, ℕ, Bool, true, false, List, ⊤}
use Rattle.pddl_task.specs.declared.parts.TaskParts.{TaskParts}
use Rattle.plan_form.specs.Printed.{IsPlanOf}
use Rattle.planner_text.specs.declared.limits.Limits.{Limits}
use Rattle.planner_text.specs.Text.{Log, steps_spent, stuck, wide_atom, End, refuted, found, unknown, Block, IsBlock, IsTrueBlock}
use Rattle.planner_text.specs.Lines.{block_lines}
use Rattle.formula.specs.Contents.{Contents}
use Rattle.formula.specs.Meets.{IsSolution}
use Rattle.plan_form.specs.declared.plan.Part.{Part}
use Rattle.search.specs.declared.solving.Came.{Came}
use Rattle.search.specs.declared.solving.Came.TheVariants as came
use Rattle.search.specs.inside.Planning.{IsPlanFound}
use Rattle.search.specs.declared.block.Made.{Made}
use Rattle.search.specs.declared.block.BlockEnd.{BlockEnd}
use Rattle.search.specs.declared.block.BlockEnd.TheVariants.{Refuted, Plan, Spent, Stuck, Wide}

abbrev pub end_of : BlockEnd → End
end_of Refuted = refuted
end_of (Plan plan) = found plan
end_of Spent = unknown steps_spent
end_of (Stuck t) = unknown (stuck t)
end_of (Wide w) = unknown (wide_atom w)

-- a plan is of actions and objects of the task
abbrev pub CanBeWritten : TaskParts → BlockEnd → Type 0
CanBeWritten task Refuted = ⊤
CanBeWritten task (Plan plan) = IsPlanOf task plan
CanBeWritten task Spent = ⊤
CanBeWritten task (Stuck t) = ⊤
CanBeWritten task (Wide w) = ⊤

abbrev pub is_refuted : BlockEnd → Bool
is_refuted Refuted = true
is_refuted (Plan plan) = false
is_refuted Spent = false
is_refuted (Stuck t) = false
is_refuted (Wide w) = false

abbrev pub block_of : Log → BlockEnd → Block
block_of log e = record { log = log; end = end_of e }

-- block n of the task, with its lines
pub record IsMade (task : TaskParts) (limits : Limits) (places : List ℕ) (n : ℕ) (m : Made) : Type 0 where
  pub log : Log
  pub is_block : IsBlock task limits places n (block_of log m.end)
  pub is_true : IsTrueBlock task limits places n (block_of log m.end)
  pub lines : m.lines ≡ block_lines task n (block_of log m.end)

-- ---- the end of a block by what came of its formula

-- a solution meets the formula
abbrev pub Solves : Contents → Came → Type 0
Solves f came.Refuted = ⊤
Solves f (came.Solution p) = IsSolution f p
Solves f came.Spent = ⊤
Solves f (came.Stuck t) = ⊤

-- a solution becomes a plan
abbrev pub EndsAs : TaskParts → List ℕ → ℕ → Came → BlockEnd → Type 0
EndsAs task places n came.Refuted e = e ≡ Refuted
EndsAs task places n (came.Solution p) e = (plan : List Part) × (e ≡ Plan plan) × IsPlanFound task places n plan
EndsAs task places n came.Spent e = e ≡ Spent
EndsAs task places n (came.Stuck t) e = e ≡ Stuck t
