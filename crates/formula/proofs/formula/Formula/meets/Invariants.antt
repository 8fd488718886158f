use Rattle.formula.specs.Meets.{HoldsBelow}
use Rattle.formula.proofs.formula.Formula.meets.Given as goal

abbrev pub invariant-loop-b : goal.invariant-loop-b
invariant-loop-b l = HoldsBelow l.self l.p l.b
