use Rattle.std.proofs.Common.{◌≡◌, true, length}
use Rattle.cert_lines.specs.Clauses.{is_last, are_rising, are_rising_from}
use Rattle.cert_lines.proofs.clauses.are_rising.Given as goal

abbrev pub invariant-literals : goal.invariant-literals
invariant-literals l = record { whole : are_rising l.initial.words ≡ are_rising_from l.last l.words; last : is_last l.last ≡ true }

abbrev pub decreases-literals : goal.decreases-literals
decreases-literals l = length l.words
