use Rattle.std.proofs.Common.{◌≡◌, length}
use Rattle.cert_lines.specs.Lists.{are_numbers}
use Rattle.cert_lines.proofs.numbers.are_numbers.Given as goal

abbrev pub invariant-numbers : goal.invariant-numbers
invariant-numbers l = are_numbers l.initial.words ≡ are_numbers l.words

abbrev pub decreases-numbers : goal.decreases-numbers
decreases-numbers l = length l.words
