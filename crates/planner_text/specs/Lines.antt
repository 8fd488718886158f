-- How a text is written (this project's texts). A line is words with one space between two, and a line feed.
use Rattle.std.specs.Prelude.{ℕ, suc, List, [], ◌∷◌, ◌++◌, length, map, codes}
use Rattle.std.specs.Fmt.{decimal}
use Rattle.pddl_task.specs.declared.parts.TaskParts.{TaskParts}
use Rattle.plan_form.specs.declared.plan.Part.{Part}
use Rattle.plan_form.specs.Printed.{part_text}
use Rattle.operation_text.specs.Operation.{operation_text}
use Rattle.task_core.specs.Plan.{rolls}
use Rattle.ground_laws.specs.Result.{task_from}
use Rattle.ground_plans.specs.Plans.{instance_at}
use Rattle.pattern_text.specs.Lines.{header_line, place_line, range_line}
use Rattle.relaxed.specs.declared.failure.RangeWide.{RangeWide}
use Rattle.cert_form.specs.Spelling.{step_line, trace_lines}
use Rattle.encode.specs.declared.failure.AtomWide.{AtomWide}
use Rattle.patty_run.specs.Printed.{line, joined}
use Rattle.planner_text.specs.Text.{Log, Reason, steps_spent, stuck, wide_atom, End, refuted, found, unknown, Block, Text, layered, unlayered, refuted_by}

-- ---- the pattern

abbrev pub line_of_place : TaskParts → ℕ → ℕ → List ℕ
line_of_place task number place = place_line task number (rolls (task_from task) place) (instance_at task place)

-- the places, with these numbers on
abbrev pub place_lines : TaskParts → ℕ → List ℕ → List (List ℕ)
place_lines task number [] = []
place_lines task number (place ∷ places) = line_of_place task number place ∷ place_lines task (suc number) places

abbrev pub pattern_lines : TaskParts → List ℕ → List (List ℕ)
pattern_lines task places = header_line (length places) ∷ place_lines task 1 places

-- ---- blocks

abbrev pub atom_line : AtomWide → List ℕ
atom_line w = line (codes "unknown wide atom " ++ (decimal w.row ++ (codes " " ++ operation_text w.wide)))

abbrev pub reason_lines : Reason → List (List ℕ)
reason_lines steps_spent = line (codes "unknown steps") ∷ []
reason_lines (stuck t) = trace_lines t ∷ []
reason_lines (wide_atom w) = atom_line w ∷ []

abbrev pub plan_lines : TaskParts → List Part → List (List ℕ)
plan_lines task plan = line (codes "plan " ++ decimal (length plan)) ∷ map (part_text task) plan

abbrev pub end_lines : TaskParts → End → List (List ℕ)
end_lines task refuted = line (codes "refuted") ∷ []
end_lines task (found plan) = plan_lines task plan
end_lines task (unknown reason) = reason_lines reason

-- a block that isn't ended yet
abbrev pub open_lines : ℕ → Log → List (List ℕ)
open_lines n log = line (codes "block " ++ decimal n) ∷ map step_line log

abbrev pub block_lines : TaskParts → ℕ → Block → List (List ℕ)
block_lines task n b = open_lines n b.log ++ end_lines task b.end

-- refuted blocks, from n on
abbrev pub refuted_lines : TaskParts → ℕ → List Log → List (List ℕ)
refuted_lines task n [] = []
refuted_lines task n (log ∷ logs) = block_lines task n (refuted_by log) ++ refuted_lines task (suc n) logs

-- ---- texts

abbrev pub body_lines : TaskParts → Text → List (List ℕ)
body_lines task (layered places before last) = pattern_lines task places ++ (refuted_lines task 0 before ++ block_lines task (length before) last)
body_lines task (unlayered w) = range_line task (instance_at task w.action) w ∷ []

abbrev pub text_lines : TaskParts → Text → List (List ℕ)
text_lines task t = body_lines task t ++ line (codes "end") ∷ []
