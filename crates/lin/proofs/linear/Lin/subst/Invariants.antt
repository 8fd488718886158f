use Rattle.lin.specs.Linear.{replacement_of}
use Rattle.lin.proofs.Substituting.{IsSubstituting}
use Rattle.lin.proofs.linear.Lin.subst.Given as goal

abbrev pub invariant-loop-term : goal.invariant-loop-term
invariant-loop-term l = IsSubstituting (replacement_of l.of) l.self l.terms l.sum l.term-index
