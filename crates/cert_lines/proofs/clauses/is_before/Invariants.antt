use Rattle.cert_lines.proofs.Order.{SameFront}
use Rattle.cert_lines.proofs.clauses.is_before.Given as goal

abbrev pub invariant-loop-place : goal.invariant-loop-place
invariant-loop-place l = SameFront l.x l.y l.place
