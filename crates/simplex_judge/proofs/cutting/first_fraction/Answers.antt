use Rattle.std.proofs.Common.{arith}
use Rattle.simplex_judge.proofs.CutLaws.{are_whole}
use Rattle.simplex_judge.proofs.cutting.first_fraction.Goals as goal

pub returns-then-not-is_whole : goal.returns-then-not-is_whole
returns-then-not-is_whole c = record { count = c.if-is_count.ensures; within = omega arith; first = λ i x lt. c.loop-var.invariant i lt x }

pub returns : goal.returns
returns c = are_whole c.args.formula.now.counts c.args.values.now c.loop-var.var (omega arith) c.requires c.loop-var.invariant
