use Rattle.std.proofs.Common.{◌≡◌, ◌++◌, take}
use Rattle.cert_form.specs.Spelling.{each, number_text}
use Rattle.cert_form.proofs.words.put_numbers.Given as goal

abbrev pub invariant-loop-number : goal.invariant-loop-number
invariant-loop-number l = l.into.items ≡ l.initial.into.items ++ each number_text (take l.number-index l.numbers)
