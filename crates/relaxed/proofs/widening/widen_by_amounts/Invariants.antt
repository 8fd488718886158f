use Rattle.std.proofs.Common.{◌≡◌, ℕ, ◌<◌, length, drop}
use Rattle.relaxed.specs.inside.Kept.{interval_in}
use Rattle.relaxed.specs.inside.Widening.{by_amounts}
use Rattle.relaxed.proofs.widening.widen_by_amounts.Given as goal

-- the intervals so far, and the amounts that are left
abbrev pub invariant-loop-i : goal.invariant-loop-i
invariant-loop-i l = record {
  size : length l.intervals ≡ length l.initial.intervals;
  each : (k : ℕ) → k < length l.initial.intervals
      → by_amounts (interval_in l.old) (drop l.i l.incs) k (interval_in l.intervals k) ≡ by_amounts (interval_in l.old) l.incs k (interval_in l.initial.intervals k);
}
