use Rattle.std.proofs.Common.{sym, ◌∙◌, arith}
use Rattle.hierarchy.proofs.SettleLaws.{settled_more}
use Rattle.hierarchy.proofs.settling.settle_path.Goals as goal

pub loop-i-preserved : goal.loop-i-preserved
loop-i-preserved c = record {
  partly = c.settle.ensures.partly;
  settled = settled_more c.args.parents.now c.args.path.now c.args.circles.now c.loop-i.circles c.settle.new.circles c.loop-i.i (omega arith) (omega arith) c.requires.climb.distinct c.requires.climb.links
      (c.settle.ensures.partly.lengths.circles_length ∙ sym c.loop-i.invariant.partly.lengths.circles_length) c.settle.ensures.known c.settle.ensures.others c.loop-i.invariant.settled;
}
