use Rattle.lin.proofs.Multiples.{IsScaling}
use Rattle.lin.proofs.multiple.multiples.Given as goal

abbrev pub invariant-loop-term : goal.invariant-loop-term
invariant-loop-term l = IsScaling l.by l.terms l.out.items l.term-index
