use Rattle.sexpr.proofs.Passing.{IsPassed}
use Rattle.sexpr.proofs.bytes.first_foreign.Given as goal

abbrev pub invariant-loop-at : goal.invariant-loop-at
invariant-loop-at l = IsPassed l.bytes l.in_comment l.at
