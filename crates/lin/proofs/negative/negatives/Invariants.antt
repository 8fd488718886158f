use Rattle.std.proofs.Common.{◌≡◌, ◌++◌, drop}
use Rattle.lin.proofs.Negatives.{negatives}
use Rattle.lin.proofs.negative.negatives.Given as goal

abbrev pub invariant-loop-term : goal.invariant-loop-term
invariant-loop-term l = negatives l.terms ≡ l.out.items ++ negatives (drop l.term-index l.terms)
