use Rattle.std.proofs.Common.{ap, ◌∙◌}
use Rattle.plan_step.specs.Held.{state_of}
use Rattle.plan_step.specs.inside.Start.{with_given}
use Rattle.plan_step.proofs.Starting.{values_more}
use Rattle.plan_step.proofs.state.add_values.Goals as goal

pub loop-given-preserved : goal.loop-given-preserved
loop-given-preserved c =
    c.in_ok-add_value.ensures ∙ ap (with_given c.given-item.result) c.loop-given.invariant
    ∙ values_more c.args.values.now c.loop-given.given-index c.given-item.result (state_of c.args.state.now) c.loop-given-test.true c.given-item.is
