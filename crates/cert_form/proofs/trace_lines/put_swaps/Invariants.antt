use Rattle.std.proofs.Common.{◌≡◌, ◌++◌, take}
use Rattle.cert_form.specs.Spelling.{each, swap_text}
use Rattle.cert_form.proofs.trace_lines.put_swaps.Given as goal

abbrev pub invariant-loop-swap : goal.invariant-loop-swap
invariant-loop-swap l = l.into.items ≡ l.initial.into.items ++ each swap_text (take l.swap-index l.swaps)
