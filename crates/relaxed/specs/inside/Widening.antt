-- What making a layer wider does to what is kept.
use Rattle.std.specs.Prelude.{◌≡◌, ℕ, ◌<◌, Bool, false, ◌||◌, List, [], ◌∷◌, length, nat_eq, Option, Some, slice_index_or, if◌then◌else◌}
use Rattle.rational.specs.Linear.{Terms}
use Rattle.lin.specs.Linear.{Linear}
use Rattle.task_core.specs.declared.action.GAction.{GAction}
use Rattle.task_core.specs.Step.{is_in, is_empty}
use Rattle.relaxed.specs.declared.interval.Interval.{Interval}
use Rattle.relaxed.specs.declared.table.Table.{Table}
use Rattle.relaxed.specs.Interval.{hull, point}
use Rattle.relaxed.specs.Layers.{Layer, reached_by_range, reached_by_amount, reached}
use Rattle.relaxed.specs.inside.Kept.{interval_in}

-- the flags of these atoms are set
pub record Marks (old new : List Bool) (atoms : List ℕ) : Type 0 where
  pub size : length new ≡ length old
  pub each : (k : ℕ) → k < length old → slice_index_or new k false ≡ (slice_index_or old k false || is_in k atoms)

-- the interval of one function is made wider
pub record WidensOne (old new : List (Option Interval)) (f : ℕ) (by : Option Interval) : Type 0 where
  pub size : length new ≡ length old
  pub each : (k : ℕ) → k < length old → interval_in new k ≡ (if nat_eq f k then hull (interval_in old k) by else interval_in old k)

-- one after the other, by amounts
abbrev pub by_amounts : (ℕ → Option Interval) → Terms → ℕ → Option Interval → Option Interval
by_amounts y [] k i = i
by_amounts y (t ∷ ts) k i = by_amounts y ts k (if nat_eq t.0 k then hull i (reached_by_amount t.1 (y t.0)) else i)

-- and by new values
abbrev pub value_reached : Layer → ℕ × Linear → Interval
value_reached y s = if is_empty s.1.terms then point s.1.constant else reached_by_range y s.1 (y.interval s.0)

abbrev pub by_values : Layer → List (ℕ × Linear) → ℕ → Option Interval → Option Interval
by_values y [] k i = i
by_values y (s ∷ ss) k i = by_values y ss k (if nat_eq s.0 k then hull i (Some (value_reached y s)) else i)

pub record WidensByAmounts (y : ℕ → Option Interval) (old new : List (Option Interval)) (incs : Terms) : Type 0 where
  pub size : length new ≡ length old
  pub each : (k : ℕ) → k < length old → interval_in new k ≡ by_amounts y incs k (interval_in old k)

pub record WidensByValues (y : Layer) (old new : List (Option Interval)) (sets : List (ℕ × Linear)) : Type 0 where
  pub size : length new ≡ length old
  pub each : (k : ℕ) → k < length old → interval_in new k ≡ by_values y sets k (interval_in old k)

-- by all that one action gives
pub record WidensBy (y : Layer) (a : GAction) (old new : Table) : Type 0 where
  pub true_size : length new.may_be_true ≡ length old.may_be_true
  pub false_size : length new.may_be_false ≡ length old.may_be_false
  pub interval_size : length new.intervals ≡ length old.intervals
  pub true_each : (k : ℕ) → k < length old.may_be_true → slice_index_or new.may_be_true k false ≡ (slice_index_or old.may_be_true k false || is_in k a.adds)
  pub false_each : (k : ℕ) → k < length old.may_be_false → slice_index_or new.may_be_false k false ≡ (slice_index_or old.may_be_false k false || is_in k a.dels)
  pub interval_each : (k : ℕ) → k < length old.intervals → interval_in new.intervals k ≡ hull (interval_in old.intervals k) (reached y k a)
