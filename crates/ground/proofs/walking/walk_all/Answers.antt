use Rattle.std.proofs.lemmas.Result.{err_from_is_err_and}
use Rattle.ground.proofs.AllActions.{at-next, at-refused}
use Rattle.ground.proofs.walking.walk_all.Goals as goal

pub returns-in_err-walk_action : goal.returns-in_err-walk_action
returns-in_err-walk_action c =
    let p = err_from_is_err_and c.from_residual.result c.from_residual.ensures.1 in
    rw (p.1, p.2) (at-refused c.args.task.now c.args.limit c.args.walk.now c.loop-number.walk c.loop-number.number c.action-item.result c.actions-action-items.result.now c.actions-action-items.ensures.value
    c.loop-number-test.true c.action-item.is c.loop-number.invariant _ c.in_err-walk_action.ensures)

pub loop-number-preserved : goal.loop-number-preserved
loop-number-preserved c =
    at-next c.args.task.now c.args.limit c.args.walk.now c.loop-number.walk c.loop-number.number c.action-item.result c.actions-action-items.result.now c.actions-action-items.ensures.value
    c.loop-number-test.true c.action-item.is c.loop-number.invariant c.walk_action.new.walk c.in_ok-walk_action.ensures
