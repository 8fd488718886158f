-- What making the next layer does to what is kept.
use Rattle.std.specs.Prelude.{◌≡◌, ℕ, ◌<◌, Bool, false, ◌&&◌, ◌||◌, List, length, slice_index_or, if◌then◌else◌}
use Rattle.std.specs.List.{list_any}
use Rattle.frac128.specs.declared.operations.Wide.{Wide}
use Rattle.task_core.specs.declared.action.GAction.{GAction}
use Rattle.task_core.specs.Step.{is_in}
use Rattle.task_core.specs.Task.{idle}
use Rattle.relaxed.specs.declared.failure.RangePart.{RangePart}
use Rattle.relaxed.specs.declared.failure.LayerFail.{LayerFail}
use Rattle.relaxed.specs.declared.failure.LayerFail.TheVariants.{RangeWide, Memory}
use Rattle.relaxed.specs.declared.table.Table.{Table}
use Rattle.relaxed.specs.Interval.{hull}
use Rattle.relaxed.specs.Layers.{Layer, is_supported, reached, widened}
use Rattle.relaxed.specs.inside.Kept.{interval_in}
use Rattle.relaxed.specs.Named.{IsOnePassing}

abbrev pub action_in : List GAction → ℕ → GAction
action_in actions n = slice_index_or actions n idle

-- a flag for each action, whether the layer supports it
pub record AreSupported (y : Layer) (actions : List GAction) (flags : List Bool) : Type 0 where
  pub size : length flags ≡ length actions
  pub each : (n : ℕ) → n < length actions → slice_index_or flags n false ≡ is_supported y (action_in actions n)

pub record KeepsSizes (old new : Table) : Type 0 where
  pub true_size : length new.may_be_true ≡ length old.may_be_true
  pub false_size : length new.may_be_false ≡ length old.may_be_false
  pub interval_size : length new.intervals ≡ length old.intervals

-- by all that one action gives, where it is supported
pub record WidensIf (supported : Bool) (y : Layer) (a : GAction) (old new : Table) : Type 0 where
  pub sizes : KeepsSizes old new
  pub true_each : (k : ℕ) → k < length old.may_be_true → slice_index_or new.may_be_true k false ≡ (slice_index_or old.may_be_true k false || (supported && is_in k a.adds))
  pub false_each : (k : ℕ) → k < length old.may_be_false → slice_index_or new.may_be_false k false ≡ (slice_index_or old.may_be_false k false || (supported && is_in k a.dels))
  pub interval_each : (k : ℕ) → k < length old.intervals
      → interval_in new.intervals k ≡ (if supported then hull (interval_in old.intervals k) (reached y k a) else interval_in old.intervals k)

-- by all that the supported ones of some actions give
pub record WidensByAll (y : Layer) (actions : List GAction) (old new : Table) : Type 0 where
  pub sizes : KeepsSizes old new
  pub true_each : (k : ℕ) → k < length old.may_be_true
      → slice_index_or new.may_be_true k false ≡ (slice_index_or old.may_be_true k false || list_any (λ a. is_supported y a && is_in k a.adds) actions)
  pub false_each : (k : ℕ) → k < length old.may_be_false
      → slice_index_or new.may_be_false k false ≡ (slice_index_or old.may_be_false k false || list_any (λ a. is_supported y a && is_in k a.dels) actions)
  pub interval_each : (k : ℕ) → k < length old.intervals → interval_in new.intervals k ≡ widened y k actions (interval_in old.intervals k)

-- some action's operation passes
abbrev pub FailsAmong : ℕ → (GAction → List (RangePart × Wide)) → List GAction → LayerFail → Type 0
FailsAmong n ops actions (RangeWide w) = (w.layer ≡ n) × (w.action < length actions) × IsOnePassing (ops (action_in actions w.action)) w.part w.wide
FailsAmong n ops actions Memory = Unit {0}
