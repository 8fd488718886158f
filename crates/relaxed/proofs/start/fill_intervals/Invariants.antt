use Rattle.std.proofs.Common.{◌≡◌, ℕ, ◌<◌}
use Rattle.std.specs.Option.{option_map}
use Rattle.task_core.specs.Task.{value_at_start}
use Rattle.relaxed.specs.Interval.{point}
use Rattle.relaxed.specs.inside.Kept.{interval_in}
use Rattle.relaxed.proofs.start.fill_intervals.Given as goal

-- the functions so far
abbrev pub invariant-loop-f : goal.invariant-loop-f
invariant-loop-f l = (n : ℕ) → n < l.f → interval_in l.intervals n ≡ option_map point (value_at_start l.task n)
