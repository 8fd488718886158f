-- Names, each once, numbered by first sight: what a name's number is, and what one more name makes of them.
use Rattle.std.specs.Prelude.{◌≡◌, ℕ, List, [], ◌∷◌, ◌++◌, Option, Some, is_some, position, slice_get, if◌then◌else◌}
use Rattle.std.specs.Str.{bytes_eq}

-- the number of a name among names: the place of the first that equals it
abbrev pub number_in : List (List ℕ) → List ℕ → Option ℕ
number_in names name = position (bytes_eq name) names

-- the names with one more at the end, where it isn't there yet
abbrev pub with_name : List (List ℕ) → List ℕ → List (List ℕ)
with_name names name = if is_some (number_in names name) then names else names ++ name ∷ []

-- each name is there once: the number of the name at a place is the place
pub record AreDistinct (names : List (List ℕ)) : Type 0 where
  pub own_number : (k : ℕ) (name : List ℕ) → slice_get names k ≡ Some name → number_in names name ≡ Some k
