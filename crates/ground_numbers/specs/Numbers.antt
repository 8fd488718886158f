-- Ground things numbered from 0 by first sight: the list of all sightings, without repetitions (this project).
pub use Rattle.ground_numbers.specs.declared.named.Named.{Named}
use Rattle.std.specs.Prelude.{◌≡◌, ℕ, zero, suc, ◌<◌, Bool, not, ◌&&◌, ◌==◌, bytes_eq, List, [], ◌∷◌, ◌++◌, Option, Some, None, filter, fold, slice_get, if◌then◌else◌}
use Rattle.std.specs.List.{list_any}

-- a ground atom or function: its predicate or function with the objects
abbrev pub named : ℕ → List ℕ → Named
named symbol args = record { symbol = symbol; args = args }

abbrev pub same : Named → Named → Bool
same a b = a.symbol == b.symbol && bytes_eq a.args b.args

-- ---- numbers in a list: the place of the first that is the same

abbrev pub is_listed : {A : Type 0} → (A → A → Bool) → List A → A → Bool
is_listed alike xs x = list_any (λ y. alike y x) xs

abbrev pub number_in : {A : Type 0} → (A → A → Bool) → List A → A → ℕ
number_in alike [] x = zero
number_in alike (y ∷ ys) x = if alike y x then zero else suc (number_in alike ys x)

abbrev pub found_in : {A : Type 0} → (A → A → Bool) → List A → A → Option ℕ
found_in alike xs x = if is_listed alike xs x then Some (number_in alike xs x) else None

-- each is there once: the number of what stands at a place is the place
pub record AreDistinct (things : List Named) : Type 0 where
  pub own_number : (n : ℕ) (k : Named) → slice_get things n ≡ Some k → found_in same things k ≡ Some n

-- ---- first sight

-- the first of those that are alike
abbrev pub once : {A : Type 0} → (A → A → Bool) → List A → List A
once alike [] = []
once alike (x ∷ xs) = x ∷ filter (λ y. not (alike y x)) (once alike xs)

-- one more sighting: last, where it is new
abbrev pub with_seen : {A : Type 0} → (A → A → Bool) → List A → A → List A
with_seen alike xs x = if is_listed alike xs x then xs else xs ++ x ∷ []

-- a thing is seen, and has its number
pub record IsSeen (old new : List Named) (k : Named) (n : ℕ) : Type 0 where
  pub after : new ≡ with_seen same old k
  pub number : found_in same new k ≡ Some n
