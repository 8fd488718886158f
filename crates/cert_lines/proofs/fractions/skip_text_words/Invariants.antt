use Rattle.std.proofs.Common.{◌≡◌, length}
use Rattle.cert_lines.specs.Marks.{behind_text_words}
use Rattle.cert_lines.proofs.fractions.skip_text_words.Given as goal

abbrev pub invariant-texts : goal.invariant-texts
invariant-texts l = behind_text_words l.initial.words ≡ behind_text_words l.words

abbrev pub decreases-texts : goal.decreases-texts
decreases-texts l = length l.words
