use Rattle.formula.specs.Farkas.{taken}
use Rattle.formula.proofs.FarkasSteps.{IsSumming}
use Rattle.formula.proofs.formula.Formula.farkas.Given as goal

abbrev pub invariant-loop-i : goal.invariant-loop-i
invariant-loop-i l = IsSumming (taken l.self l.lits l.coefs) l.sum.0 l.sum.1 l.strict l.i
