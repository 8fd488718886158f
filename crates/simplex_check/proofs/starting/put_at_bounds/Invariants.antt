use Rattle.std.proofs.Common.{◌≡◌, ℕ, ◌<◌}
use Rattle.simplex_law.specs.Config.{pair_at, lower_of, upper_of, start_pair}
use Rattle.simplex_check.specs.Checks.{limits}
use Rattle.simplex_check.proofs.starting.put_at_bounds.Given as goal

abbrev pub invariant-loop-j : goal.invariant-loop-j
invariant-loop-j l = (k : ℕ) → k < l.j → pair_at l.place k ≡ start_pair (lower_of (limits l.lower l.upper) k) (upper_of (limits l.lower l.upper) k)
