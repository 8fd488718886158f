use Rattle.clause_core.proofs.Choices.{IsBest}
use Rattle.clause_core.proofs.search.free_in.Given as goal

abbrev pub invariant-loop-b : goal.invariant-loop-b
invariant-loop-b l = IsBest l.trail.entries l.trail.booleans l.b l.best
