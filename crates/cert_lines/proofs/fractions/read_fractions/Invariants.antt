use Rattle.std.proofs.Common.{length}
use Rattle.cert_lines.specs.Lists.{fraction_at}
use Rattle.cert_lines.proofs.Marked.{ReadSoFar}
use Rattle.cert_lines.proofs.fractions.read_fractions.Given as goal

abbrev pub invariant-fractions : goal.invariant-fractions
invariant-fractions l = ReadSoFar fraction_at l.initial.words l.words l.fractions

abbrev pub decreases-fractions : goal.decreases-fractions
decreases-fractions l = length l.words
