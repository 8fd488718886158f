-- What a layer is kept as.
use Rattle.std.specs.Prelude.{◌≡◌, ℕ, true, false, List, length, pos, Option, Some, slice_index_or}
use Rattle.rational.specs.Fraction.{whole}
use Rattle.task_core.specs.Task.{GroundParts}
use Rattle.relaxed.specs.declared.interval.Interval.{Interval}
use Rattle.relaxed.specs.declared.table.Table.{Table}
use Rattle.relaxed.specs.Interval.{point}
use Rattle.relaxed.specs.Layers.{Layer}

-- beyond the task's numbers nothing ever changes: false, and the fraction 0
abbrev pub interval_in : List (Option Interval) → ℕ → Option Interval
interval_in is f = slice_index_or is f (Some (point (whole (pos 0))))

abbrev pub layer_of : Table → Layer
layer_of t = record {
  may_be_true = λ p. slice_index_or t.may_be_true p false;
  may_be_false = λ p. slice_index_or t.may_be_false p true;
  interval = interval_in t.intervals;
}

-- a place for each atom and each function of the task
pub record IsSized (task : GroundParts) (t : Table) : Type 0 where
  pub true_size : length t.may_be_true ≡ length task.atoms
  pub false_size : length t.may_be_false ≡ length task.atoms
  pub interval_size : length t.intervals ≡ length task.funcs
