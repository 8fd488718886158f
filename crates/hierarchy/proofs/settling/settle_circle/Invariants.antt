use Rattle.hierarchy.specs.inside.Walks.{IsCircleWritten}
use Rattle.hierarchy.proofs.settling.settle_circle.Given as goal

abbrev pub invariant-loop-t : goal.invariant-loop-t
invariant-loop-t l = IsCircleWritten l.circle l.t-index l.name l.initial.depths l.depths l.initial.circles l.circles l.initial.jumps l.jumps
