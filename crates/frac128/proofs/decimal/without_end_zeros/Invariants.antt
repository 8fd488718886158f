use Rattle.std.proofs.Common.{◌≡◌, ◌==◌, ◌+◌, ◌≤◌, length, take}
use Rattle.std.specs.List.{suffix_len}
use Rattle.frac128.proofs.decimal.without_end_zeros.Given as goal

abbrev pub invariant-loop-end : goal.invariant-loop-end
invariant-loop-end l = (l.end ≤ length l.digits) × (l.end + suffix_len (λ c. c == 48) l.digits ≡ length l.digits + suffix_len (λ c. c == 48) (take l.end l.digits))

abbrev pub decreases-loop-end : goal.decreases-loop-end
decreases-loop-end l = l.end
