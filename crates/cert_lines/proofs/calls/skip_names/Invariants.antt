use Rattle.std.proofs.Common.{◌≡◌, length}
use Rattle.cert_lines.specs.Calls.{behind_names}
use Rattle.cert_lines.proofs.calls.skip_names.Given as goal

abbrev pub invariant-names : goal.invariant-names
invariant-names l = behind_names l.fn.first l.initial.words ≡ behind_names l.name l.words

abbrev pub decreases-names : goal.decreases-names
decreases-names l = length l.words
