-- A draft from what is made of the leaves of an instance, and the operations up to it.
use Rattle.std.specs.Prelude.{ℕ, List, [], ◌++◌, Option, Some, None, if◌then◌else◌}
use Rattle.std.specs.List.{list_all}
use Rattle.frac128.specs.declared.operations.Wide.{Wide}
use Rattle.pddl_task.specs.declared.action.Action.{Action}
use Rattle.pddl_task.specs.declared.condition.Cond.{Cond}
use Rattle.pddl_task.specs.declared.effect.Effect.{Effect}
use Rattle.ground_numbers.specs.declared.named.Named.{Named}
use Rattle.ground_action.specs.Setting.{Setting}
use Rattle.ground_action.specs.Leaves.{move_of}
use Rattle.ground_action.specs.GroundAction.{may_move}
use Rattle.ground_action.specs.Work.{condition_ops, condition_made, effect_ops, until_end}
use Rattle.ground_draft.specs.declared.draft.Draft.{Draft}
use Rattle.ground_draft.specs.declared.leaves.Leaf.{Leaf}
use Rattle.ground_draft.specs.declared.moves.Move.{Move}
use Rattle.ground_draft.specs.inside.Made.{leaf_made, leaf_holds, move_made, all_made}
use Rattle.ground_draft.specs.inside.Acts.{rows_at, rows_ops_at}
use Rattle.ground_draft.specs.inside.Lists.{literals_in, comparisons_in, comparisons_ops_in, added_in, deleted_in, changed_in, instance_reads, assigned_in}

abbrev pub drafted : Setting → List ℕ → List Cond → List Effect → List Leaf → List Move → Draft
drafted set args conds effs leaves moves = record {
  action = record {
    lits = literals_in leaves;
    cmps = comparisons_in leaves;
    adds = added_in moves;
    dels = deleted_in moves;
    incs = (rows_at moves (changed_in moves)).incs;
    sets = (rows_at moves (changed_in moves)).sets;
  };
  reads = instance_reads set args conds effs;
  assigns = assigned_in set args effs;
}

abbrev pub drafted_ops : List Leaf → List Move → List Wide
drafted_ops leaves moves = comparisons_ops_in leaves ++ rows_ops_at moves (changed_in moves)

-- ---- an instance, stage by stage
abbrev pub held_draft : Setting → List ℕ → List Cond → List Effect → List Leaf → List Move → Option Draft
held_draft set args conds effs leaves moves = if list_all leaf_holds leaves then Some (drafted set args conds effs leaves moves) else None

abbrev pub held_ops : List Leaf → List Move → List Wide
held_ops leaves moves = if list_all leaf_holds leaves then drafted_ops leaves moves else []

abbrev pub moved_draft : Setting → List ℕ → List Cond → List Effect → List Leaf → Option (List Move) → Option Draft
moved_draft set args conds effs leaves None = None
moved_draft set args conds effs leaves (Some moves) = held_draft set args conds effs leaves moves

abbrev pub moved_ops : List Leaf → Option (List Move) → List Wide
moved_ops leaves None = []
moved_ops leaves (Some moves) = held_ops leaves moves

abbrev pub effects_ops : Setting → List ℕ → List Effect → List Wide
effects_ops set args effs = until_end (λ e. may_move (move_of set args e)) (effect_ops set args) effs

abbrev pub left_draft : Setting → List Named → List ℕ → List Cond → List Effect → Option (List Leaf) → Option Draft
left_draft set atoms args conds effs None = None
left_draft set atoms args conds effs (Some leaves) = moved_draft set args conds effs leaves (all_made (move_made set atoms args) effs)

abbrev pub left_ops : Setting → List Named → List ℕ → List Effect → Option (List Leaf) → List Wide
left_ops set atoms args effs None = []
left_ops set atoms args effs (Some leaves) = effects_ops set args effs ++ moved_ops leaves (all_made (move_made set atoms args) effs)

abbrev pub made_draft : Setting → List Named → Action → List ℕ → Option Draft
made_draft set atoms a args = left_draft set atoms args a.conds a.effs (all_made (leaf_made set atoms args) a.conds)

abbrev pub made_ops : Setting → List Named → Action → List ℕ → List Wide
made_ops set atoms a args = until_end (condition_made set args) (condition_ops set args) a.conds ++ left_ops set atoms args a.effs (all_made (leaf_made set atoms args) a.conds)
