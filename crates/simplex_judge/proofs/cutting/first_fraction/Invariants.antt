use Rattle.simplex_judge.proofs.CutLaws.{AreWholeBelow}
use Rattle.simplex_judge.proofs.cutting.first_fraction.Given as goal

abbrev pub invariant-loop-var : goal.invariant-loop-var
invariant-loop-var l = AreWholeBelow l.formula.counts l.values l.var
