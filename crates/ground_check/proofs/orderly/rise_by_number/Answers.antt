use Rattle.ground_check.proofs.Amounts.{rise_step}
use Rattle.ground_check.proofs.orderly.rise_by_number.Goals as goal

pub loop-i-preserved : goal.loop-i-preserved
loop-i-preserved g c =
    rise_step c.args.parts.now c.loop-i.i c.index-parts-i.result c.index-parts-i-in-loop-i.result c.loop-i.auto.i c.loop-i-test.true c.if-parts-i.false
    c.loop-i.invariant
