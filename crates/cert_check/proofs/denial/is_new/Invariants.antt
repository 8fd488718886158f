use Rattle.cert_check.proofs.Newness.{NoneBefore}
use Rattle.cert_check.proofs.denial.is_new.Given as goal

abbrev pub invariant-loop-lit : goal.invariant-loop-lit
invariant-loop-lit l = NoneBefore l.truths l.clauses l.index l.lits l.lit-index
