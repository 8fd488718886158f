-- What is concluded are the parts of the ground task.
use Rattle.std.proofs.Common.{◌≡◌, ℕ, ◌+◌, Bool, List, [], map, length, Option, sym, ap, ap₂, ◌∙◌}
use Rattle.rational.specs.Fraction.{Fraction}
use Rattle.task_core.specs.declared.action.GAction.{GAction}
use Rattle.task_core.specs.Task.{GroundParts}
use Rattle.pddl_task.specs.declared.parts.TaskParts.{TaskParts}
use Rattle.plan_step.specs.State.{PlanState, initial}
use Rattle.ground_numbers.specs.declared.named.Named.{Named}
use Rattle.ground_walk.specs.Walk.{kept_instances, atoms_of, funcs_of}
use Rattle.ground_walk.proofs.NumberLaws.{goal_numbered}
use Rattle.ground_seen.specs.declared.tables.Tables.{Tables}
use Rattle.ground_laws.specs.Result.{numbered, task_from}
use Rattle.ground_draft.specs.declared.draft.Draft.{Draft}
use Rattle.ground_draft.specs.Drafts.{goal_draft_of, rank_in}
use Rattle.ground_draft.proofs.Finishing.{goal_finished}
use Rattle.ground_entry.specs.declared.walk.Walk.{Walk}
use Rattle.ground.specs.inside.Concluding.{finished_at, values_at, truths_at, mark_in, parts_of}
use Rattle.ground.proofs.Behind.{drafts_from}
use Rattle.ground.proofs.Drafting.{all_finished}
use Rattle.ground.proofs.Marking.{truths_are, mark_in_is, finished_same, all_same}

abbrev parts : List Bool → List (Option Fraction) → List GAction → GAction → GroundParts
parts atoms funcs actions goal = record { atoms = atoms; funcs = funcs; actions = actions; goal = goal }

abbrev parts_at : PlanState → Tables → List Draft → Draft → GroundParts
parts_at s t drafts goal = parts (truths_at s t) (values_at s t) (map (finished_at (mark_in s t)) drafts) (finished_at (mark_in s t) goal)

module _ (task : TaskParts) where
  abbrev tables : List Named → List Named → Tables
  tables atoms funcs = record { atoms = atoms; funcs = funcs }

  abbrev all : Tables
  all = tables (atoms_of task) (funcs_of task)

  abbrev goal_draft : Draft
  goal_draft = goal_draft_of (numbered task) (atoms_of task) task.goal

  same_mark : (f : ℕ) → mark_in (initial task) all f ≡ length (atoms_of task) + rank_in (initial task) (funcs_of task) f
  same_mark f = mark_in_is (initial task) all f

  whole : parts_at (initial task) all (drafts_from task [] (kept_instances task)) goal_draft ≡ task_from task
  whole =
      ap (λ atoms. parts atoms (values_at (initial task) all) (map (finished_at (mark_in (initial task) all)) (drafts_from task [] (kept_instances task))) (finished_at (mark_in (initial task) all) goal_draft))
      (sym (truths_are (initial task) (atoms_of task) (funcs_of task)))
      ∙ ap₂ (λ actions goal. parts (task_from task).atoms (task_from task).funcs actions goal)
      (all_same (mark_in (initial task) all) (length (atoms_of task)) (rank_in (initial task) (funcs_of task)) same_mark (drafts_from task [] (kept_instances task)) ∙ all_finished task)
      (finished_same (mark_in (initial task) all) (length (atoms_of task)) (rank_in (initial task) (funcs_of task)) same_mark goal_draft
      ∙ goal_finished task (initial task) (atoms_of task) (funcs_of task) task.goal (goal_numbered task))

  pub parts_are : (w : Walk) (goal : Draft) → w.tables.atoms ≡ atoms_of task → w.tables.funcs ≡ funcs_of task → w.drafts ≡ drafts_from task [] (kept_instances task) → goal ≡ goal_draft
      → parts_of (initial task) w goal ≡ task_from task
  parts_are w goal atoms funcs drafts goal_is =
      ap₂ (λ a f. parts_at (initial task) (tables a f) w.drafts goal) atoms funcs ∙ ap₂ (λ ds g. parts_at (initial task) all ds g) drafts goal_is ∙ whole
