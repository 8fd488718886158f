-- What testing the actions of a layer does to what is kept: a flag for each action, whether some layer so far supports it, and
-- the first such layer.
use Rattle.std.specs.Prelude.{◌≡◌, ℕ, ◌<◌, Bool, false, ◌||◌, List, length, Option, Some, None, slice_index_or, if◌then◌else◌}
use Rattle.task_core.specs.declared.action.GAction.{GAction}
use Rattle.relaxed.specs.declared.failure.LayerFail.{LayerFail}
use Rattle.relaxed.specs.declared.failure.LayerFail.TheVariants.{RangeWide, Memory}
use Rattle.relaxed.specs.Layers.{Layer, is_supported}
use Rattle.relaxed.specs.Named.{tested_operations, IsOnePassing, AllPartsFit}
use Rattle.relaxed.specs.inside.Nexting.{action_in}

abbrev pub flag_in : List Bool → ℕ → Bool
flag_in flags n = slice_index_or flags n false

abbrev pub first_in : List (Option ℕ) → ℕ → Option ℕ
first_in first n = slice_index_or first n None

abbrev pub first_after : Bool → Bool → ℕ → Option ℕ → Option ℕ
first_after seen supported n old = if seen then old else (if supported then Some n else old)

pub record TestsAll (y : Layer) (n : ℕ) (actions : List GAction) (flags new_flags : List Bool) (first new_first : List (Option ℕ)) : Type 0 where
  pub flag_size : length new_flags ≡ length flags
  pub first_size : length new_first ≡ length first
  pub flag_each : (i : ℕ) → i < length actions → flag_in new_flags i ≡ (flag_in flags i || is_supported y (action_in actions i))
  pub first_each : (i : ℕ) → i < length actions → first_in new_first i ≡ first_after (flag_in flags i) (is_supported y (action_in actions i)) n (first_in first i)

-- all operations of the tests fit
abbrev pub TestsFit : Layer → List GAction → List Bool → Type 0
TestsFit y actions flags = (i : ℕ) → i < length actions → AllPartsFit (tested_operations (flag_in flags i) y (action_in actions i))

-- or one of some action passes
abbrev pub TestFails : ℕ → Layer → List GAction → List Bool → LayerFail → Type 0
TestFails n y actions flags (RangeWide w) =
    (w.layer ≡ n) × (w.action < length actions) × IsOnePassing (tested_operations (flag_in flags w.action) y (action_in actions w.action)) w.part w.wide
TestFails n y actions flags Memory = Unit {0}
