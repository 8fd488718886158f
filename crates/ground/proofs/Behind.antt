-- Where a walk stands behind some kept instances.
use Rattle.std.specs.Prelude.{◌≡◌, List, [], ◌∷◌, ◌++◌, map}
use Rattle.pddl_task.specs.declared.parts.TaskParts.{TaskParts}
use Rattle.ground_walk.specs.Walk.{Kept}
use Rattle.ground_laws.specs.Laws.{instance_of}
use Rattle.ground_draft.specs.declared.draft.Draft.{Draft}
use Rattle.ground_draft.specs.Drafts.{draft_of}
use Rattle.ground_entry.specs.declared.walk.Walk.{Walk}
use Rattle.ground.specs.Course.{atoms_with, funcs_with, setting_with}

-- each draft is over what had a number when it was made
abbrev pub draft_behind : TaskParts → List Kept → Kept → Draft
draft_behind task before k = draft_of (setting_with task (before ++ k ∷ [])) (atoms_with task (before ++ k ∷ [])) k.action k.args

abbrev pub drafts_from : TaskParts → List Kept → List Kept → List Draft
drafts_from task before [] = []
drafts_from task before (k ∷ more) = draft_behind task before k ∷ drafts_from task (before ++ k ∷ []) more

pub record IsBehind (task : TaskParts) (kept : List Kept) (w : Walk) : Type 0 where
  pub atoms : w.tables.atoms ≡ atoms_with task kept
  pub funcs : w.tables.funcs ≡ funcs_with task kept
  pub instances : w.instances ≡ map instance_of kept
  pub drafts : w.drafts ≡ drafts_from task [] kept
