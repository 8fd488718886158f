use Rattle.std.proofs.Common.{length}
use Rattle.cert_check.proofs.Denying.{IsDenied}
use Rattle.cert_check.proofs.denial.deny.Given as goal

abbrev pub invariant-loop-lit : goal.invariant-loop-lit
invariant-loop-lit l = IsDenied (length l.initial.truths) l.lits l.truths l.lit-index
