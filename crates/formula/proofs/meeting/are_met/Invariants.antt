use Rattle.std.proofs.Common.{◌≡◌, drop}
use Rattle.formula.specs.Meets.{are_met}
use Rattle.formula.proofs.meeting.are_met.Given as goal

abbrev pub invariant-loop-clause : goal.invariant-loop-clause
invariant-loop-clause l = are_met l.truth l.clauses ≡ are_met l.truth (drop l.clause-index l.clauses)
