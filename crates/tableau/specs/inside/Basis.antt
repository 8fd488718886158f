-- The list of the basic variables, from their flags.
use Rattle.std.specs.Prelude.{ℕ, Bool, false, List, length, slice_index_or}
use Rattle.tableau.specs.Table.{numbers_below}

abbrev pub flag : List Bool → ℕ → Bool
flag basic i = slice_index_or basic i false

abbrev pub numbers_of : List Bool → List ℕ
numbers_of basic = numbers_below (length basic) (flag basic)
