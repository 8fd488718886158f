-- Values of basic variables that are known.
use Rattle.std.specs.Prelude.{◌≡◌, ℕ, ◌<◌, IsTrue, List, Option, Some, None, slice_index_or}
use Rattle.tableau.specs.Table.{Table, width, is_basic}
use Rattle.simplex_law.specs.Config.{row_pair}
use Rattle.simplex_law.specs.declared.pair.Pair.{Pair}

-- nothing, or x
abbrev pub Says : Option Pair → Pair → Type 0
Says None x = Unit {0}
Says (Some y) x = y ≡ x

abbrev pub known_at : List (Option Pair) → ℕ → Option Pair
known_at known i = slice_index_or known i None

-- what is known of basic variables is their value
abbrev pub IsKnown : Table → (ℕ → Pair) → List (Option Pair) → Type 0
IsKnown t place known = (i : ℕ) → i < width t → IsTrue (is_basic t i) → Says (known_at known i) (row_pair t place i)
