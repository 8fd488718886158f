use Rattle.plan_step.specs.Held.{state_of}
use Rattle.plan_step.proofs.Placing.{place_among, keeps_on}
use Rattle.plan_step.proofs.Restoring.{back_more, all_back}
use Rattle.plan_step.proofs.application.restore.Goals as goal

pub put_back-requires : goal.put_back-requires
put_back-requires c = place_among _ _ _ c.requires c.loop-touch.invariant.keeps c.loop-touch.touch-index c.touch-item.result c.loop-touch-test.true c.touch-item.is

pub loop-touch-preserved : goal.loop-touch-preserved
loop-touch-preserved c = record {
  restored = λ s kept differs. back_more c.args.touches.now s (state_of c.loop-touch.state) c.loop-touch.touch-index c.touch-item.result (state_of c.put_back.new.state) (c.loop-touch.invariant.restored s kept differs) c.loop-touch-test.true c.touch-item.is
      (kept c.loop-touch.touch-index c.touch-item.result c.loop-touch-test.true c.touch-item.is) c.put_back.ensures.put;
  keeps = keeps_on _ _ _ c.loop-touch.invariant.keeps c.put_back.ensures.keeps;
}

pub returns-clause-restored : goal.returns-clause-restored
returns-clause-restored c = λ s kept differs. all_back c.args.touches.now s (state_of c.loop-touch.state) c.loop-touch.touch-index (c.loop-touch.invariant.restored s kept differs) c.loop-touch-test.false
