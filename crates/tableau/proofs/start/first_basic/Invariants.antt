use Rattle.tableau.specs.inside.Start.{IsMarked}
use Rattle.tableau.proofs.start.first_basic.Given as goal

abbrev pub invariant-loop-i : goal.invariant-loop-i
invariant-loop-i l = IsMarked l.vars l.i l.v.items
