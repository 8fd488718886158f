use Rattle.std.proofs.Common.{◌≡◌, ◌++◌, take}
use Rattle.cert_form.specs.Spelling.{each, literal_text}
use Rattle.cert_form.proofs.words.put_literals.Given as goal

abbrev pub invariant-loop-lit : goal.invariant-loop-lit
invariant-loop-lit l = l.into.items ≡ l.initial.into.items ++ each literal_text (take l.lit-index l.lits)
