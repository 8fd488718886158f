use Rattle.lin.specs.Linear.{point_of}
use Rattle.lin.proofs.Evaluating.{IsEvaluating}
use Rattle.lin.proofs.linear.Lin.value.Given as goal

abbrev pub invariant-loop-term : goal.invariant-loop-term
invariant-loop-term l = IsEvaluating (point_of l.at) l.self l.terms l.sum l.term-index
