use Rattle.std.proofs.lemmas.Result.{err_from_is_err_and}
use Rattle.plan_step.specs.Held.{state_of}
use Rattle.plan_step.specs.Touches.{change_in, changes_of}
use Rattle.plan_step.proofs.Answering.{failed_as}
use Rattle.plan_step.proofs.Gathering.{gathering_fails, gathered_more, touches_more}
use Rattle.plan_step.proofs.touches.touches_of.Goals as goal

pub returns-in_err-touch_leaf-clause-meant : goal.returns-in_err-touch_leaf-clause-meant
returns-in_err-touch_leaf-clause-meant c =
    let p = err_from_is_err_and c.from_residual-in_err-touch_leaf.result c.from_residual-in_err-touch_leaf.ensures.1 in
    rw (p.1, p.2)
    (failed_as change_in changes_of _ _ c.in_err-touch_leaf.field-0.0
    (gathering_fails (state_of c.args.state.now) c.args.args.now c.args.effs.now c.loop-i.i c.loop-i.touches c.loop-i.invariant.meant c.loop-i-test.true c.index-effs-i.result c.index-effs-i.is c.in_err-touch_leaf.field-0.0)
    c.in_err-touch_leaf.ensures.meant)

pub loop-i-preserved : goal.loop-i-preserved
loop-i-preserved c =
    rw c.in_ok-push.ensures.ok
    (record {
      meant = gathered_more (state_of c.args.state.now) c.args.args.now c.args.effs.now c.loop-i.i c.loop-i.touches c.loop-i.invariant.meant c.loop-i-test.true c.index-effs-i.result c.index-effs-i.is c.in_ok-touch_leaf.field-0 c.in_ok-touch_leaf.ensures.meant;
      sound = touches_more (state_of c.args.state.now) c.args.args.now c.args.effs.now c.loop-i.i c.loop-i.touches c.index-effs-i.result c.in_ok-touch_leaf.field-0 c.loop-i-test.true c.index-effs-i.is c.loop-i.invariant.sound c.in_ok-touch_leaf.ensures.sound;
    })
