use Rattle.std.proofs.Common.{◌≡◌, ◌++◌, map, take}
use Rattle.cert_form.specs.Spelling.{truth_digit}
use Rattle.cert_form.proofs.words.put_truths.Given as goal

abbrev pub invariant-loop-truth : goal.invariant-loop-truth
invariant-loop-truth l = l.into.items ≡ l.initial.into.items ++ map truth_digit (take l.truth-index l.truths)
