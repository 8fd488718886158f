-- The first layer that supports an action.
use Rattle.std.specs.Prelude.{◌≡◌, ℕ, zero, suc, Bool, true, false, not, ◌&&◌, ◌||◌, Option, Some, None}
use Rattle.task_core.specs.declared.action.GAction.{GAction}
use Rattle.task_core.specs.Task.{GroundParts}
use Rattle.relaxed.specs.Layers.{is_supported, layer}

-- some layer below n supports it
abbrev pub is_seen : GroundParts → ℕ → GAction → Bool
is_seen task zero a = false
is_seen task (suc n) a = is_seen task n a || is_supported (layer task n) a

-- layer n is the first to support it
abbrev pub is_first : GroundParts → ℕ → GAction → Bool
is_first task n a = not (is_seen task n a) && is_supported (layer task n) a

-- the number of the first layer that supports it, or none where no layer does
abbrev pub IsFirst : GroundParts → GAction → Option ℕ → Type 0
IsFirst task a (Some n) = is_first task n a ≡ true
IsFirst task a None = (n : ℕ) → is_supported (layer task n) a ≡ false
