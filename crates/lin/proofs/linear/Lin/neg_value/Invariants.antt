use Rattle.lin.specs.Linear.{point_of}
use Rattle.lin.specs.Negative.{negative}
use Rattle.lin.proofs.Evaluating.{IsEvaluating}
use Rattle.lin.proofs.Negatives.{negatives}
use Rattle.lin.proofs.linear.Lin.neg_value.Given as goal

abbrev pub invariant-loop-term : goal.invariant-loop-term
invariant-loop-term l = IsEvaluating (point_of l.at) (negative l.self) (negatives l.terms) l.sum l.term-index
