-- Types with one above each, which may be the type itself or lead back to it.
use Rattle.std.specs.Prelude.{ℕ, zero, suc, ◌<◌, ◌==◌, Bool, List, [], ◌∷◌, length, slice_index, EachIndex}
use Rattle.std.specs.List.{list_any}

-- the type above a type, by number; `parents` has it for each type
abbrev pub parent_of : List ℕ → ℕ → ℕ
parent_of parents t = slice_index parents t

-- the type above each is one of the types
abbrev pub IsHierarchy : List ℕ → Type 0
IsHierarchy parents = EachIndex parents (λ t. parent_of parents t < length parents)

-- a type and so many of those above it, one by one
unfoldable pub chain : List ℕ → ℕ → ℕ → List ℕ
chain parents zero t = t ∷ []
chain parents (suc n) t = t ∷ chain parents n (parent_of parents t)

-- whether t is u or below it: u is t or among the types above t, of which there are no more than types
unfoldable pub is_below : List ℕ → ℕ → ℕ → Bool
is_below parents t u = list_any (λ a. a == u) (chain parents (length parents) t)

-- whether a type stands above itself, as a root does that is its own parent, and each type of a circle
unfoldable pub is_own_ancestor : List ℕ → ℕ → Bool
is_own_ancestor parents t = is_below parents (parent_of parents t) t

-- t is u or below it, as a relation
pub data IsBelow (parents : List ℕ) : ℕ → ℕ → Type 0 where
  itself : {t : ℕ} → IsBelow parents t t
  above : {t u : ℕ} → IsBelow parents (parent_of parents t) u → IsBelow parents t u
