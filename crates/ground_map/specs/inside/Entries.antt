-- A map of the program, by argument lists, as the list of its entries.
use Rattle.std.specs.Prelude.{◌≡◌, ℕ, ◌≤◌, List, [], map, length, slice_index_or, Option}
use Rattle.std.specs.Global.{Vec}
use Rattle.std.specs.HashMap.{HashMap}
use Rattle.std.specs.Map.{lookup}
use Rattle.ground_map.specs.GroundMap.{same_args}

-- an entry, with its arguments as a list
abbrev pub entry : {V : Type 0} → Vec ℕ × V → List ℕ × V
entry e = (e.0.items, e.1)

-- the entries of a map
abbrev pub entries_of : {V S : Type 0} → HashMap (Vec ℕ) V S → List (List ℕ × V)
entries_of m = map entry m.entries

-- the value at some arguments in one map
abbrev pub entries_at : {V S : Type 0} → HashMap (Vec ℕ) V S → List ℕ → Option V
entries_at m args = lookup (same_args args) (entries_of m)

-- maps with empty ones behind them
pub record Reaches {V S : Type 0} (old new : List (HashMap (Vec ℕ) V S)) : Type 0 where
  pub more : length old ≤ length new
  pub same : (head : ℕ) → slice_index_or (map entries_of new) head [] ≡ slice_index_or (map entries_of old) head []
