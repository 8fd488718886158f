use Rattle.std.proofs.Common.{take, sym, ap, ◌∙◌}
use Rattle.plan_step.specs.Held.{state_of}
use Rattle.plan_step.specs.Touches.{changes_of}
use Rattle.plan_step.specs.inside.Application.{put_by, with_truths}
use Rattle.plan_step.proofs.Placing.{place_among, keeps_on, changes_more}
use Rattle.plan_step.proofs.Truths.{truths_more}
use Rattle.plan_step.proofs.application.put_truths.Goals as goal

pub put_truth-requires : goal.put_truth-requires
put_truth-requires c = place_among _ _ _ c.requires c.loop-touch.invariant.keeps c.loop-touch.touch-index c.touch-item.result c.loop-touch-test.true c.touch-item.is

pub loop-touch-preserved : goal.loop-touch-preserved
loop-touch-preserved c =
    let touches = c.args.touches.now in
    let t = c.touch-item.result in
    let old = state_of c.args.state.now in
    record {
      put = c.put_truth.ensures.put ∙ ap (put_by c.args.truth t) c.loop-touch.invariant.put ∙ truths_more c.args.truth t (changes_of (take c.loop-touch.touch-index touches)) old
          ∙ sym (ap (λ cs. with_truths c.args.truth cs old) (changes_more touches c.loop-touch.touch-index t c.loop-touch-test.true c.touch-item.is));
      keeps = keeps_on _ _ _ c.loop-touch.invariant.keeps c.put_truth.ensures.keeps;
    }
