use Rattle.std.proofs.Common.{map, ◌∙◌}
use Rattle.plan_step.specs.Held.{state_of}
use Rattle.plan_step.specs.Touches.{target_of}
use Rattle.plan_step.proofs.Placing.{place_among, keeps_on}
use Rattle.plan_step.proofs.Restoring.{differs_refl, differs_on}
use Rattle.plan_step.proofs.Values.{changed_more, truth_step, target_step, differs_at, unchanged}
use Rattle.plan_step.proofs.application.change_values.Goals as goal

pub change-requires-clause-place : goal.change-requires-clause-place
change-requires-clause-place c = place_among _ _ _ c.requires.places c.loop-touch.invariant.keeps c.loop-touch.touch-index c.touch-item.result c.loop-touch-test.true c.touch-item.is

pub returns-in_err-change-clause-differs : goal.returns-in_err-change-clause-differs
returns-in_err-change-clause-differs c =
    let touched = map target_of c.args.touches.now in
    let now = state_of c.loop-touch.state in
    let new = state_of c.change.new.state in
    differs_on touched (state_of c.args.state.now) now new c.loop-touch.invariant.differs (differs_refl touched now new (unchanged now new c.touch-item.result _ c.in_err-change.ensures.changes))

pub loop-touch-preserved : goal.loop-touch-preserved
loop-touch-preserved c =
    let touches = c.args.touches.now in
    let t = c.touch-item.result in
    let i = c.loop-touch.touch-index in
    let old = state_of c.args.state.now in
    let now = state_of c.loop-touch.state in
    let new = state_of c.change.new.state in
    let changes = c.in_ok-change.ensures.changes in
    record {
      values = changed_more touches old i t now new c.loop-touch.invariant.values c.loop-touch-test.true c.touch-item.is _ changes;
      truth = truth_step now new t _ changes ∙ c.loop-touch.invariant.truth;
      targets = λ k u within is. target_step now new t _ changes u (c.loop-touch.invariant.targets k u within is);
      differs = differs_on (map target_of touches) old now new c.loop-touch.invariant.differs (differs_at now new touches i t c.loop-touch-test.true c.touch-item.is _ changes);
      keeps = keeps_on _ _ _ c.loop-touch.invariant.keeps c.change.ensures.keeps;
    }
