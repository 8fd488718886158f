use Rattle.ground.proofs.Marking.{marked_more}
use Rattle.ground.proofs.starting.mark_values.Goals as goal

pub loop-value-preserved : goal.loop-value-preserved
loop-value-preserved c =
    marked_more c.args.truths.now.items c.loop-value.truths.items c.mark_value.new.truths.items c.loop-value.marks.items c.mark_value.new.marks.items c.args.values.now c.loop-value.value-index c.value-item.result
    c.loop-value-test.true c.value-item.is c.loop-value.invariant c.in_ok-mark_value.ensures
