-- What layer 0 is kept as.
use Rattle.std.specs.Prelude.{◌≡◌, ℕ, ◌<◌, Bool, true, false, not, List, length, slice_index_or, Option}
use Rattle.std.specs.Option.{option_map}
use Rattle.task_core.specs.Task.{GroundParts, value_at_start, start}
use Rattle.relaxed.specs.declared.interval.Interval.{Interval}
use Rattle.relaxed.specs.declared.table.Table.{Table}
use Rattle.relaxed.specs.Interval.{point}
use Rattle.relaxed.specs.inside.Kept.{interval_in}

-- whether an atom may have a truth
abbrev pub may_be : Bool → Bool → Bool
may_be true value = value
may_be false value = not value

pub record AreStartFlags (task : GroundParts) (truth : Bool) (flags : List Bool) : Type 0 where
  pub size : length flags ≡ length task.atoms
  pub each : (p : ℕ) → p < length task.atoms → slice_index_or flags p false ≡ may_be truth ((start task).truth p)

pub record AreStartIntervals (task : GroundParts) (intervals : List (Option Interval)) : Type 0 where
  pub size : length intervals ≡ length task.funcs
  pub each : (f : ℕ) → f < length task.funcs → interval_in intervals f ≡ option_map point (value_at_start task f)

pub record IsStart (task : GroundParts) (t : Table) : Type 0 where
  pub true_flags : AreStartFlags task true t.may_be_true
  pub false_flags : AreStartFlags task false t.may_be_false
  pub start_intervals : AreStartIntervals task t.intervals
