-- Where a run through the layers stands.
use Rattle.std.specs.Prelude.{◌≡◌, ℕ, ◌<◌, Bool, true, false, List, length, Option, Some, None}
use Rattle.task_core.specs.declared.action.GAction.{GAction}
use Rattle.task_core.specs.Task.{GroundParts, action_at}
use Rattle.relaxed.specs.declared.table.Table.{Table}
use Rattle.relaxed.specs.Layers.{layer}
use Rattle.relaxed.specs.Supported.{is_seen, is_first}
use Rattle.relaxed.specs.Named.{AllPartsFit, operations_of}
use Rattle.relaxed.specs.inside.Kept.{layer_of, IsSized}
use Rattle.relaxed.specs.inside.Testing.{flag_in, first_in}

abbrev pub IsFirstBelow : GroundParts → ℕ → GAction → Option ℕ → Type 0
IsFirstBelow task n a (Some m) = is_first task m a ≡ true
IsFirstBelow task n a None = is_seen task n a ≡ false

-- layer n is kept; the flags and first layers are those of the layers below it, all of whose operations fit
pub record IsAt (task : GroundParts) (n : ℕ) (t : Table) (flags : List Bool) (first : List (Option ℕ)) : Type 0 where
  pub sized : IsSized task t
  pub layer_is : layer_of t ≡ layer task n
  pub flag_size : length flags ≡ length task.actions
  pub first_size : length first ≡ length task.actions
  pub flag_each : (i : ℕ) → i < length task.actions → flag_in flags i ≡ is_seen task n (action_at task i)
  pub first_each : (i : ℕ) → i < length task.actions → IsFirstBelow task n (action_at task i) (first_in first i)
  pub fits : (m i : ℕ) → m < n → i < length task.actions → AllPartsFit (operations_of task m (action_at task i))

-- nothing is seen yet
pub record NoFlags (count : ℕ) (flags : List Bool) : Type 0 where
  pub size : length flags ≡ count
  pub each : (i : ℕ) → i < count → flag_in flags i ≡ false

pub record NoFirsts (count : ℕ) (first : List (Option ℕ)) : Type 0 where
  pub size : length first ≡ count
  pub each : (i : ℕ) → i < count → first_in first i ≡ None
