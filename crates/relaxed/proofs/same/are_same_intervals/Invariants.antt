use Rattle.std.proofs.Common.{◌≡◌, ℕ, ◌<◌, Option, slice_index_or}
use Rattle.relaxed.specs.declared.interval.Interval.{Interval}
use Rattle.relaxed.proofs.same.are_same_intervals.Given as goal

abbrev pub invariant-loop-i : goal.invariant-loop-i
invariant-loop-i l = (n : ℕ) (d : Option Interval) → n < l.i → slice_index_or l.a n d ≡ slice_index_or l.b n d
