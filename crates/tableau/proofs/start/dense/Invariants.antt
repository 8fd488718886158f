use Rattle.std.proofs.Common.{take}
use Rattle.tableau.specs.inside.Start.{IsDense}
use Rattle.tableau.proofs.start.dense.Given as goal

abbrev pub invariant-loop-i : goal.invariant-loop-i
invariant-loop-i l = IsDense l.n (take l.i l.row.terms) l.v.items
