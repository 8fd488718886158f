use Rattle.ground_action.specs.Work.{condition_ops, condition_made}
use Rattle.ground_parts.specs.Forms.{setting_in}
use Rattle.ground_draft.specs.inside.Made.{leaf_made}
use Rattle.ground_draft.proofs.Loops.{IsMaking}
use Rattle.ground_draft.proofs.leaves.all_leaves.Given as goal

abbrev pub invariant-loop-cond : goal.invariant-loop-cond
invariant-loop-cond l =
    IsMaking (condition_made (setting_in l.given) l.args) (condition_ops (setting_in l.given) l.args) (leaf_made (setting_in l.given) l.given.atoms.now l.args) l.conds l.leaves l.cond-index
