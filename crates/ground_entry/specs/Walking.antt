-- What the walk of grounding comes to, from one instance to the next: what is numbered, which instances are kept, and their
-- drafts (this project).
use Rattle.std.specs.Prelude.{◌≡◌, ℕ, suc, ◌<◌, ◌≤◌, Bool, nat_lt, List, [], ◌∷◌, ◌++◌, map, length, Result, Ok, Err, if◌then◌else◌, ⊤}
use Rattle.std.specs.List.{flat_map}
use Rattle.frac128.specs.declared.operations.Wide.{Wide}
use Rattle.lin.specs.Operations.{AllFit, IsFirstPassing}
use Rattle.pddl_task.specs.declared.action.Action.{Action}
use Rattle.pddl_task.specs.declared.parts.TaskParts.{TaskParts}
use Rattle.ground_action.specs.Setting.{Setting, setting_of}
use Rattle.ground_action.specs.GroundAction.{is_kept}
use Rattle.ground_action.specs.Work.{instance_ops}
use Rattle.ground_instances.specs.ArgumentLists.{argument_lists}
use Rattle.ground_walk.specs.Sightings.{instance_atoms, instance_funcs}
use Rattle.ground_walk.specs.Walk.{Kept, fact_atoms, given_funcs}
use Rattle.ground_seen.specs.declared.tables.Tables.{Tables}
use Rattle.ground_seen.specs.Seen.{seen}
use Rattle.ground_laws.specs.Laws.{instance_of}
use Rattle.ground_draft.specs.Drafts.{draft_of}
use Rattle.ground_entry.specs.declared.walk.Walk.{Walk}
use Rattle.ground_entry.specs.declared.failure.GroundFail.{GroundFail}
use Rattle.ground_entry.specs.declared.failure.GroundFail.TheVariants.{Many, CoefWide, Memory}

-- ---- the instances that are looked at

-- those of an action with its number, in rising order of their argument lists
abbrev pub instances_of : TaskParts → ℕ → Action → List Kept
instances_of task n a = map (λ args. record { number = n; action = a; args = args }) (argument_lists task a)

-- those of actions with their numbers, one action after another
abbrev pub instances_from : TaskParts → ℕ → List Action → List Kept
instances_from task n [] = []
instances_from task n (a ∷ actions) = instances_of task n a ++ instances_from task (suc n) actions

-- whether an instance is kept needs no numbers
abbrev pub is_kept_in : TaskParts → Kept → Bool
is_kept_in task k = is_kept (setting_of task [] []) k.action k.args

-- ---- one instance

-- what it names has numbers
abbrev pub tables_with : TaskParts → Tables → Kept → Tables
tables_with task t k = record { atoms = seen t.atoms (instance_atoms task k.action k.args); funcs = seen t.funcs (instance_funcs task k.action k.args) }

abbrev pub setting_at : TaskParts → Tables → Setting
setting_at task t = setting_of task t.atoms t.funcs

-- its operations
abbrev pub ops_at : TaskParts → Walk → Kept → List Wide
ops_at task w k = instance_ops (setting_at task (tables_with task w.tables k)) k.action k.args

-- it is kept, with its draft; or it leaves no trace
abbrev pub kept_with : TaskParts → Walk → Kept → Walk
kept_with task w k = record {
  tables = tables_with task w.tables k;
  instances = w.instances ++ instance_of k ∷ [];
  drafts = w.drafts ++ draft_of (setting_at task (tables_with task w.tables k)) (tables_with task w.tables k).atoms k.action k.args ∷ [];
}

abbrev pub walk_with : TaskParts → Walk → Kept → Walk
walk_with task w k = if is_kept_in task k then kept_with task w k else w

-- ---- instances in order

-- at the start what is given has numbers
abbrev pub walk_start : TaskParts → Walk
walk_start task = record {
  tables = record { atoms = seen [] (flat_map (fact_atoms task) task.facts); funcs = seen [] (flat_map (given_funcs task) task.values) };
  instances = [];
  drafts = [];
}

abbrev pub walk_on : TaskParts → Walk → List Kept → Walk
walk_on task w [] = w
walk_on task w (k ∷ more) = walk_on task (walk_with task w k) more

-- more than so many are kept
abbrev pub is_over : ℕ → Walk → Bool
is_over limit w = nat_lt limit (length w.instances)

-- the operations, up to the first instance that is one too many
abbrev pub ops_on : TaskParts → ℕ → Walk → List Kept → List Wide
ops_on task limit w [] = []
ops_on task limit w (k ∷ more) = ops_at task w k ++ (if is_over limit (walk_with task w k) then [] else ops_on task limit (walk_with task w k) more)

-- ---- what walking answers

-- all operations fit, and no instance is one too many
pub record IsThrough (task : TaskParts) (limit : ℕ) (old : Walk) (list : List Kept) (new : Walk) : Type 0 where
  pub fit : AllFit (ops_on task limit old list)
  pub is : new ≡ walk_on task old list
  pub few : length new.instances ≤ limit

-- one instance is one too many, and all operations up to it fit
pub record IsTooMany (task : TaskParts) (limit : ℕ) (old : Walk) (list : List Kept) : Type 0 where
  pub fit : AllFit (ops_on task limit old list)
  pub over : limit < length (walk_on task old list).instances

-- a refusal: an instance is one too many, or the first operation that passes, or want of memory
abbrev pub Refuses : TaskParts → ℕ → Walk → List Kept → GroundFail → Type 0
Refuses task limit old list Many = IsTooMany task limit old list
Refuses task limit old list (CoefWide w) = IsFirstPassing w (ops_on task limit old list)
Refuses task limit old list Memory = ⊤

abbrev pub Walks : {T : Type 0} → TaskParts → ℕ → Walk → List Kept → Result T GroundFail → Walk → Type 0
Walks task limit old list (Ok done) new = IsThrough task limit old list new
Walks task limit old list (Err e) new = Refuses task limit old list e
