use Rattle.std.proofs.Common.{◌≡◌, length}
use Rattle.cert_lines.specs.Lists.{numbers_at}
use Rattle.cert_lines.proofs.Lists.{behind_these}
use Rattle.cert_lines.proofs.numbers.read_numbers.Given as goal

abbrev pub invariant-numbers : goal.invariant-numbers
invariant-numbers l = numbers_at l.initial.words ≡ behind_these l.numbers (numbers_at l.words)

abbrev pub decreases-numbers : goal.decreases-numbers
decreases-numbers l = length l.words
