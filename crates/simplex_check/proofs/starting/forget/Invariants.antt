use Rattle.std.proofs.Common.{◌≡◌, ℕ, ◌<◌, None}
use Rattle.simplex_check.specs.Known.{known_at}
use Rattle.simplex_check.proofs.starting.forget.Given as goal

abbrev pub invariant-loop-i : goal.invariant-loop-i
invariant-loop-i l = (k : ℕ) → k < l.i → known_at l.known k ≡ None
