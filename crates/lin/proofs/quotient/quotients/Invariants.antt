use Rattle.lin.proofs.Quotients.{IsDividing}
use Rattle.lin.proofs.quotient.quotients.Given as goal

abbrev pub invariant-loop-term : goal.invariant-loop-term
invariant-loop-term l = IsDividing l.by l.terms l.out.items l.term-index
