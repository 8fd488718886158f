-- What is kept of each type besides its parent: a number of the circle that it leads into, its depth below that circle
-- (0 on it), and a jump to some type above it.
use Rattle.std.specs.Prelude.{◌≡◌, ℕ, ◌-◌, ◌<◌, ◌≤◌, ◌^◌, IsTrue, List, length, slice_index, EachIndex}
use Rattle.hierarchy.specs.Hierarchy.{parent_of, IsHierarchy, is_below}

-- what is kept of a type fits what is kept of its parent
pub record HasEntry (parents depths circles jumps : List ℕ) (t : ℕ) : Type 0 where
  pub circle : slice_index circles (parent_of parents t) ≡ slice_index circles t
  pub to_circle : IsTrue (is_below parents t (slice_index circles t))
  pub from_circle : slice_index depths t ≡ 0 → IsTrue (is_below parents (slice_index circles t) t)
  pub depth : slice_index depths (parent_of parents t) ≡ slice_index depths t - 1
  pub jump : IsTrue (is_below parents t (slice_index jumps t))
  pub jump_depth : slice_index depths (slice_index jumps t) ≤ slice_index depths t - 1

-- a type has a jump, which doesn't lead deeper
abbrev pub CanJump : List ℕ → List ℕ → ℕ → Type 0
CanJump depths jumps t = (slice_index jumps t < length jumps) × (slice_index depths (slice_index jumps t) ≤ slice_index depths t)

-- the lists have an entry for each type
pub record HasLengths (parents depths circles jumps : List ℕ) : Type 0 where
  pub hierarchy : IsHierarchy parents
  pub few : length parents < 2 ^ 32
  pub depths_length : length depths ≡ length parents
  pub circles_length : length circles ≡ length parents
  pub jumps_length : length jumps ≡ length parents

-- each type has its entry
pub record IsIndexed (parents depths circles jumps : List ℕ) : Type 0 where
  pub lengths : HasLengths parents depths circles jumps
  pub entries : EachIndex parents (λ t. HasEntry parents depths circles jumps t)

-- a type is known once it has a circle, whose number is that of a type
abbrev pub IsKnown : List ℕ → ℕ → Type 0
IsKnown circles t = slice_index circles t < length circles

-- and unknown while it has none
abbrev pub IsUnknown : List ℕ → ℕ → Type 0
IsUnknown circles t = length circles ≤ slice_index circles t

-- each known type has its entry
pub record IsPartlyIndexed (parents depths circles jumps : List ℕ) : Type 0 where
  pub lengths : HasLengths parents depths circles jumps
  pub entries : EachIndex parents (λ t. IsKnown circles t → HasEntry parents depths circles jumps t)
