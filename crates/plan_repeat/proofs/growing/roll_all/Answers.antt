use Rattle.std.proofs.Common.{map}
use Rattle.plan_step.specs.Held.{state_of}
use Rattle.plan_step.specs.Touches.{target_of}
use Rattle.plan_step.proofs.Placing.{place_among, keeps_on}
use Rattle.plan_step.proofs.Restoring.{differs_on}
use Rattle.plan_repeat.proofs.RollingOn.{growth-at, rolling-next, rolling-done, differs-rolled}
use Rattle.plan_repeat.proofs.growing.roll_all.Goals as goal

pub roll_touch-requires : goal.roll_touch-requires
roll_touch-requires c = place_among _ _ _ c.requires.places c.loop-i.invariant.keeps c.loop-i.i c.index-touches-i.result c.loop-i-test.true c.index-touches-i.is

pub loop-i-preserved : goal.loop-i-preserved
loop-i-preserved c =
    let touches = c.args.touches.now in
    let old = state_of c.args.state.now in
    let now = state_of c.loop-i.state in
    let new = state_of c.roll_touch.new.state in
    let t = c.index-touches-i.result in
    let q = c.index-growths-i.result in
    let is_q = growth-at c.args.growths.now touches c.loop-i.i q c.requires.growths c.loop-i-test.true c.index-growths-i.is in
    record {
      rolling = rolling-next touches c.args.growths.now c.args.steps.now old now new c.loop-i.i t q c.loop-i-test.true c.index-touches-i.is is_q c.in_ok-roll_touch.ensures.rolls c.loop-i.invariant.rolling;
      differs = differs_on (map target_of touches) old now new c.loop-i.invariant.differs (differs-rolled touches c.loop-i.i t q c.args.steps.now now new c.loop-i-test.true c.index-touches-i.is c.in_ok-roll_touch.ensures.rolls);
      keeps = keeps_on _ _ _ c.loop-i.invariant.keeps c.in_ok-roll_touch.ensures.keeps;
    }

pub returns-clause-rolls : goal.returns-clause-rolls
returns-clause-rolls c =
    rolling-done c.args.touches.now c.args.growths.now c.args.steps.now (state_of c.args.state.now) (state_of c.loop-i.state) c.loop-i.i c.loop-i-test.false c.loop-i.invariant.rolling
