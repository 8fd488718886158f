use Rattle.std.proofs.Common.{length}
use Rattle.cert_lines.specs.Clauses.{literal_at}
use Rattle.cert_lines.proofs.Marked.{ReadSoFar}
use Rattle.cert_lines.proofs.clauses.read_clause.Given as goal

abbrev pub invariant-literals : goal.invariant-literals
invariant-literals l = ReadSoFar literal_at l.initial.words l.words l.lits.items

abbrev pub decreases-literals : goal.decreases-literals
decreases-literals l = length l.words
