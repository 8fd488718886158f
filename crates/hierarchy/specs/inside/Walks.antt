-- A walk from a type along its parents, to a known type or to one of the walk itself, and what is written of its types.
use Rattle.std.specs.Prelude.{◌≡◌, ◌≢◌, ℕ, ◌+◌, ◌-◌, ◌<◌, ◌≤◌, List, length, slice_index, slice_index_or, EachIndex}
use Rattle.hierarchy.specs.Hierarchy.{parent_of}
use Rattle.hierarchy.specs.inside.Entries.{IsKnown, IsUnknown}

-- the types of the path are unknown, and each is below the next and the last below the end, where the walk is now
pub record IsWalk (parents circles path : List ℕ) (start end : ℕ) : Type 0 where
  pub in_range : EachIndex path (λ j. slice_index path j < length parents)
  pub unknown : EachIndex path (λ j. IsUnknown circles (slice_index path j))
  pub links : EachIndex path (λ j. parent_of parents (slice_index path j) ≡ slice_index_or path (j + 1) end)
  pub starts : slice_index_or path 0 end ≡ start
  pub ends : end < length parents

-- each type of the path has its place there
abbrev pub HasPlaces : List ℕ → List ℕ → Type 0
HasPlaces path places = EachIndex path (λ j. slice_index places (slice_index path j) ≡ j)

-- a type is on the path, at the place that is noted for it
abbrev pub StandsAt : List ℕ → List ℕ → ℕ → Type 0
StandsAt path places t = (slice_index places t < length path) × (slice_index path (slice_index places t) ≡ t)

-- the circle of a walk is its path from this place on; it has none where its end is known
pub record IsCircleStart (circles path : List ℕ) (end from : ℕ) : Type 0 where
  pub within : from ≤ length path
  pub circle : from < length path → slice_index path from ≡ end
  pub no_circle : from ≡ length path → IsKnown circles end

-- the first so many types of a circle have its number, the depth 0 and a jump to themselves, and the others keep theirs
pub record IsCircleWritten (circle : List ℕ) (count name : ℕ) (old_depths depths old_circles circles old_jumps jumps : List ℕ) : Type 0 where
  pub depth : (j : ℕ) → j < count → slice_index depths (slice_index circle j) ≡ 0
  pub number : (j : ℕ) → j < count → slice_index circles (slice_index circle j) ≡ name
  pub jump : (j : ℕ) → j < count → slice_index jumps (slice_index circle j) ≡ slice_index circle j
  pub depths_kept : (t : ℕ) → ((j : ℕ) → j < count → slice_index circle j ≢ t) → slice_index depths t ≡ slice_index old_depths t
  pub circles_kept : (t : ℕ) → ((j : ℕ) → j < count → slice_index circle j ≢ t) → slice_index circles t ≡ slice_index old_circles t
  pub jumps_kept : (t : ℕ) → ((j : ℕ) → j < count → slice_index circle j ≢ t) → slice_index jumps t ≡ slice_index old_jumps t

-- the types of the path are unknown, each once, and each is below the next, and the last below a known type
pub record IsClimb (parents circles path : List ℕ) : Type 0 where
  pub in_range : EachIndex path (λ j. slice_index path j < length parents)
  pub unknown : EachIndex path (λ j. IsUnknown circles (slice_index path j))
  pub distinct : (i j : ℕ) → i < j → j < length path → slice_index path i ≢ slice_index path j
  pub links : (j : ℕ) → j + 1 < length path → parent_of parents (slice_index path j) ≡ slice_index path (j + 1)
  pub last : 0 < length path → IsKnown circles (parent_of parents (slice_index path (length path - 1)))

-- what was known still is
abbrev pub StaysKnown : List ℕ → List ℕ → Type 0
StaysKnown old_circles circles = (t : ℕ) → IsKnown old_circles t → IsKnown circles t
