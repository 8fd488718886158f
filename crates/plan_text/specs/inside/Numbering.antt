-- A table of names that may be there more than once: with each name, the place where it stands first.
use Rattle.std.specs.Prelude.{◌≡◌, ℕ, ◌≤◌, List, length, Option, Some, None, slice_get}
use Rattle.name_table.specs.NameTable.{number_in}
use Rattle.plan_text.specs.declared.numbers.Numbers.{Numbers}

abbrev pub place_by : List ℕ → Option ℕ → Option ℕ
place_by firsts None = None
place_by firsts (Some k) = slice_get firsts k

-- the first place of a name
abbrev pub place_in : Numbers → List ℕ → Option ℕ
place_in numbers name = place_by numbers.firsts (number_in numbers.names name)

-- each name has its first place among these
pub record IsNumbering (names : List (List ℕ)) (numbers : Numbers) : Type 0 where
  pub same_len : length numbers.names ≡ length numbers.firsts
  pub few : length numbers.names ≤ length names
  pub first : (name : List ℕ) → place_in numbers name ≡ number_in names name
