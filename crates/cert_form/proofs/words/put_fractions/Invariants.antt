use Rattle.std.proofs.Common.{◌≡◌, ◌++◌, take}
use Rattle.frac128.specs.Text.{text_of}
use Rattle.cert_form.specs.Spelling.{each}
use Rattle.cert_form.proofs.words.put_fractions.Given as goal

abbrev pub invariant-loop-fraction : goal.invariant-loop-fraction
invariant-loop-fraction l = l.into.items ≡ l.initial.into.items ++ each text_of (take l.fraction-index l.fractions)
