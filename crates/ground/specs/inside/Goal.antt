-- The goal, behind all instances.
use Rattle.std.specs.Prelude.{◌≡◌, [], Result, Ok, Err}
use Rattle.std.specs.List.{flat_map}
use Rattle.lin.specs.Operations.{AllFit, IsRefusal}
use Rattle.lin.specs.declared.failure.LinFail.{LinFail}
use Rattle.pddl_task.specs.declared.parts.TaskParts.{TaskParts}
use Rattle.ground_action.specs.Work.{goal_ops}
use Rattle.ground_walk.specs.Sightings.{cond_atoms, cond_funcs}
use Rattle.ground_seen.specs.declared.tables.Tables.{Tables}
use Rattle.ground_seen.specs.Seen.{seen}
use Rattle.ground_draft.specs.declared.draft.Draft.{Draft}
use Rattle.ground_draft.specs.Drafts.{goal_draft_of}
use Rattle.ground_entry.specs.Walking.{setting_at}

abbrev pub with_goal : TaskParts → Tables → Tables
with_goal task t = record { atoms = seen t.atoms (flat_map (cond_atoms task []) task.goal); funcs = seen t.funcs (flat_map (cond_funcs task []) task.goal) }

-- all its operations fit, what it names has numbers, and its draft is made
pub record IsGoalMade (task : TaskParts) (old : Tables) (draft : Draft) (new : Tables) : Type 0 where
  pub fit : AllFit (goal_ops (setting_at task (with_goal task old)) task.goal)
  pub draft_is : draft ≡ goal_draft_of (setting_at task (with_goal task old)) (with_goal task old).atoms task.goal
  pub tables_are : new ≡ with_goal task old

abbrev pub MakesGoal : TaskParts → Tables → Result Draft LinFail → Tables → Type 0
MakesGoal task old (Ok draft) new = IsGoalMade task old draft new
MakesGoal task old (Err e) new = IsRefusal (goal_ops (setting_at task (with_goal task old)) task.goal) e
