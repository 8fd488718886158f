use Rattle.std.proofs.Common.{◌≡◌, true, length}
use Rattle.cert_lines.specs.Clauses.{is_last, behind_clause, behind_clause_from}
use Rattle.cert_lines.proofs.clauses.skip_clause.Given as goal

abbrev pub invariant-literals : goal.invariant-literals
invariant-literals l = record { whole : behind_clause l.initial.words ≡ behind_clause_from l.last l.words; last : is_last l.last ≡ true }

abbrev pub decreases-literals : goal.decreases-literals
decreases-literals l = length l.words
