-- The goal, when what it names has numbers.
use Rattle.std.proofs.Common.{◌≡◌, true, List, [], Result, Ok, Err, sym, ap₂, subst}
use Rattle.std.specs.List.{flat_map}
use Rattle.lin.specs.declared.failure.LinFail.{LinFail}
use Rattle.lin.specs.Operations.{AnswersInMemory}
use Rattle.pddl_task.specs.declared.parts.TaskParts.{TaskParts}
use Rattle.plan_step.specs.State.{PlanState, initial}
use Rattle.ground_numbers.specs.declared.named.Named.{Named}
use Rattle.ground_action.specs.Setting.{Setting, setting_from}
use Rattle.ground_action.specs.GroundAction.{goal_leaves, is_numbered}
use Rattle.ground_action.specs.Work.{goal_ops}
use Rattle.ground_walk.specs.Sightings.{cond_atoms, cond_funcs}
use Rattle.ground_walk.proofs.NumberLaws.{whole_goal_numbered}
use Rattle.ground_seen.specs.declared.tables.Tables.{Tables}
use Rattle.ground_draft.specs.declared.draft.Draft.{Draft}
use Rattle.ground_draft.specs.Drafts.{goal_draft_of}
use Rattle.ground_entry.specs.Walking.{setting_at}
use Rattle.ground_entry.proofs.Growing.{seen_within}
use Rattle.ground.specs.inside.Goal.{with_goal, MakesGoal}

module _ (task : TaskParts) (old : Tables) (s : PlanState) (start : s ≡ initial task) (t : Tables) (atoms : t.atoms ≡ (with_goal task old).atoms) (funcs : t.funcs ≡ (with_goal task old).funcs) where
  abbrev from : PlanState → Tables → Setting
  from q u = setting_from task q u.atoms u.funcs

  abbrev tables : List Named → List Named → Tables
  tables a f = record { atoms = a; funcs = f }

  same_tables : t ≡ with_goal task old
  same_tables = ap₂ tables atoms funcs

  at_start : is_numbered (from (initial task) (with_goal task old)) (goal_leaves (from (initial task) (with_goal task old)) task.goal) [] ≡ true
  at_start =
      whole_goal_numbered task (with_goal task old).atoms (with_goal task old).funcs (seen_within old.atoms (flat_map (cond_atoms task []) task.goal)) (seen_within old.funcs (flat_map (cond_funcs task []) task.goal))

  pub goal_has_numbers : is_numbered (from s t) (goal_leaves (from s t) task.goal) [] ≡ true
  goal_has_numbers =
      subst (λ q. is_numbered (from q t) (goal_leaves (from q t) task.goal) [] ≡ true) (sym start)
      (subst (λ u. is_numbered (from (initial task) u) (goal_leaves (from (initial task) u) task.goal) [] ≡ true) (sym same_tables) at_start)

  as_made : (r : Result Draft LinFail) → AnswersInMemory (goal_ops (setting_at task (with_goal task old)) task.goal) (goal_draft_of (setting_at task (with_goal task old)) (with_goal task old).atoms task.goal) r → MakesGoal task old r t
  as_made (Ok d) h = record { fit = h.0; draft_is = h.1; tables_are = same_tables }
  as_made (Err e) h = h

  pub goal_made : (r : Result Draft LinFail) → AnswersInMemory (goal_ops (from s t) task.goal) (goal_draft_of (from s t) t.atoms task.goal) r → MakesGoal task old r t
  goal_made r h =
      as_made r
      (subst (λ u. AnswersInMemory (goal_ops (from (initial task) u) task.goal) (goal_draft_of (from (initial task) u) u.atoms task.goal) r) same_tables
      (subst (λ q. AnswersInMemory (goal_ops (from q t) task.goal) (goal_draft_of (from q t) t.atoms task.goal) r) start h))
