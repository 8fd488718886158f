use Rattle.std.proofs.Common.{ap, [], ◌∙◌}
use Rattle.std.proofs.lemmas.Result.{err_from_is_err_and}
use Rattle.ground_parts.specs.Forms.{setting_in}
use Rattle.ground_draft.specs.inside.Lists.{condition_reads}
use Rattle.ground_draft.specs.inside.Goal.{next_target, target_ops, with_target}
use Rattle.ground_draft.proofs.Loops.{running-refused, running-next, running-done}
use Rattle.ground_draft.proofs.goal.all_targets.Goals as goal

pub returns-in_err-next : goal.returns-in_err-next
returns-in_err-next c =
    let p = err_from_is_err_and c.from_residual.result c.from_residual.ensures.1 in
    rw (p.1, p.2) (running-refused (next_target (setting_in c.args.given.now) c.args.given.now.atoms.now) (λ s c2. target_ops (setting_in c.args.given.now) c2) _ _ c.loop-cond.targets c.loop-cond.cond-index _ c.loop-cond-test.true c.cond-item.is c.loop-cond.invariant _ c.in_err-next.ensures)

pub loop-cond-preserved : goal.loop-cond-preserved
loop-cond-preserved c =
    running-next (next_target (setting_in c.args.given.now) c.args.given.now.atoms.now) (λ s c2. target_ops (setting_in c.args.given.now) c2) _ _ c.loop-cond.targets c.loop-cond.cond-index _ c.loop-cond-test.true c.cond-item.is c.loop-cond.invariant _ c.in_ok-next.ensures.0
    (c.in_ok-put_target.ensures ∙ ap (with_target c.loop-cond.targets (condition_reads (setting_in c.args.given.now) [] _)) c.in_ok-next.ensures.1)

pub returns : goal.returns
returns c = running-done _ _ _ _ _ _ c.loop-cond-test.false c.loop-cond.invariant
