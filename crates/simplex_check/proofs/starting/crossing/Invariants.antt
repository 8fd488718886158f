use Rattle.std.proofs.Common.{ℕ, ◌<◌}
use Rattle.simplex_law.specs.Config.{lower_of, upper_of, IsConsistentAt}
use Rattle.simplex_check.specs.Checks.{limits}
use Rattle.simplex_check.proofs.starting.crossing.Given as goal

abbrev pub invariant-loop-i : goal.invariant-loop-i
invariant-loop-i l = (k : ℕ) → k < l.i → IsConsistentAt (lower_of (limits l.lower l.upper) k) (upper_of (limits l.lower l.upper) k)
