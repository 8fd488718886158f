-- Drafts of ground actions (this project). That a function has a value is a proposition behind all atoms, and how many atoms
-- there are is known only when each instance is grounded: a draft is over the atoms alone, and has the functions without an
-- initial value that it reads, and those that it assigns, beside it.
use Rattle.std.specs.Prelude.{ℕ, true, ◌+◌, Bool, not, ◌&&◌, List, [], ◌++◌, map, take, length, Option, Some, None, is_some, if◌then◌else◌}
use Rattle.std.specs.List.{list_any}
use Rattle.task_core.specs.declared.action.GAction.{GAction}
use Rattle.pddl_task.specs.declared.action.Action.{Action}
use Rattle.pddl_task.specs.declared.condition.Cond.{Cond}
use Rattle.plan_step.specs.State.{PlanState}
use Rattle.ground_numbers.specs.declared.named.Named.{Named}
use Rattle.ground_numbers.specs.Numbers.{same, is_listed}
use Rattle.ground_action.specs.Setting.{Setting, atom, value_in, missing}
use Rattle.ground_action.specs.Leaves.{Leaf, Move}
use Rattle.ground_action.specs.GroundAction.{numbers_where, assigns_it, all_reads, action_from, leaves_of, moves_of, goal_leaves, is_kept}
use Rattle.ground_draft.specs.declared.draft.Draft.{Draft}

-- the atoms are the only propositions
abbrev pub over_atoms : Setting → List Named → Setting
over_atoms set atoms = record {
  changing_pred = set.changing_pred;
  changing_func = set.changing_func;
  start = set.start;
  funcs = set.funcs;
  propositions = map atom atoms;
}

-- it has no initial value
abbrev pub is_missing : Setting → Named → Bool
is_missing set k = not (is_some (value_in set.start k))

abbrev pub draft_from : Setting → List Named → List Leaf → List Move → Draft
draft_from set atoms leaves moves = record {
  action = action_from (over_atoms set atoms) leaves moves;
  reads = numbers_where (λ k. is_missing set k && is_listed same (all_reads leaves moves) k) 0 set.funcs;
  assigns = numbers_where (λ k. is_missing set k && list_any (assigns_it k) moves) 0 set.funcs;
}

-- of an instance
unfoldable pub draft_of : Setting → List Named → Action → List ℕ → Draft
draft_of set atoms a args = draft_from set atoms (leaves_of set a args) (moves_of set a args)

-- where it is kept
abbrev pub kept_draft : Setting → List Named → Action → List ℕ → Option Draft
kept_draft set atoms a args = if is_kept set a args then Some (draft_of set atoms a args) else None

-- of the goal
unfoldable pub goal_draft_of : Setting → List Named → List Cond → Draft
goal_draft_of set atoms goal = draft_from set atoms (goal_leaves set goal) []

-- ---- finishing a draft

-- how many functions without an initial value stand in front of the one with this number
abbrev pub rank_in : PlanState → List Named → ℕ → ℕ
rank_in start funcs f = length (missing start (take f funcs))

-- with so many atoms, and these ranks of functions
abbrev pub finished : ℕ → (ℕ → ℕ) → Draft → GAction
finished atoms rank d = record {
  lits = d.action.lits ++ map (λ f. (atoms + rank f, true)) d.reads;
  cmps = d.action.cmps;
  adds = d.action.adds ++ map (λ f. atoms + rank f) d.assigns;
  dels = d.action.dels;
  incs = d.action.incs;
  sets = d.action.sets;
}
