use Rattle.std.proofs.Common.{◌≡◌, ℕ, ◌<◌, length, drop, Result}
use Rattle.relaxed.specs.declared.failure.LayerFail.{LayerFail}
use Rattle.relaxed.specs.inside.Kept.{interval_in, layer_of}
use Rattle.relaxed.specs.inside.Widening.{by_values}
use Rattle.relaxed.proofs.PartSteps.{SetsLeft}
use Rattle.relaxed.proofs.widening.widen_by_values.Given as goal

-- the intervals so far, and the new values that are left
abbrev pub invariant-loop-i : goal.invariant-loop-i
invariant-loop-i l = record {
  answers : (r : Result (Unit {0}) LayerFail) → SetsLeft (layer_of l.table) l.layer l.action l.i (drop l.i l.sets) r
      → SetsLeft (layer_of l.table) l.layer l.action 0 l.sets r;
  size : length l.intervals ≡ length l.initial.intervals;
  each : (k : ℕ) → k < length l.initial.intervals
      → by_values (layer_of l.table) (drop l.i l.sets) k (interval_in l.intervals k) ≡ by_values (layer_of l.table) l.sets k (interval_in l.initial.intervals k);
}
