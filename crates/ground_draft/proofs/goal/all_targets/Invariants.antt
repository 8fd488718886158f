use Rattle.ground_parts.specs.Forms.{setting_in}
use Rattle.ground_draft.specs.inside.Goal.{next_target, target_ops, no_targets}
use Rattle.ground_draft.proofs.Loops.{IsRunning}
use Rattle.ground_draft.proofs.goal.all_targets.Given as goal

abbrev pub invariant-loop-cond : goal.invariant-loop-cond
invariant-loop-cond l = IsRunning (next_target (setting_in l.given) l.given.atoms.now) (λ s c. target_ops (setting_in l.given) c) no_targets l.conds l.targets l.cond-index
