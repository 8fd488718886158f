use Rattle.bound_theory.proofs.PointLaws.{AreWholeBelow}
use Rattle.bound_theory.proofs.testing.first_fraction.Given as goal

abbrev pub invariant-loop-var : goal.invariant-loop-var
invariant-loop-var l = AreWholeBelow l.formula.counts l.values l.var
