-- Values of ground things. A ground thing is a head with its arguments, all of them numbers, as (at l1).
use Rattle.std.specs.Prelude.{◌≡◌, ℕ, Bool, List, [], ◌==◌, ◌&&◌, ◌≤◌, nat_eq, Option, Some, None, length, slice_index_or, if◌then◌else◌}
use Rattle.std.specs.Cmp.Lexicographic.{pointwise}
use Rattle.std.specs.Map.{lookup}

-- whether two lists of arguments are equal
abbrev pub same_args : List ℕ → List ℕ → Bool
same_args = pointwise nat_eq

-- the value at a head and its arguments, where there is one
abbrev pub value_at : {V : Type 0} → List (List (List ℕ × V)) → ℕ → List ℕ → Option V
value_at heads head args = lookup (same_args args) (slice_index_or heads head [])

module _ {V : Type 0} where
  -- no value anywhere
  pub record IsEmpty (heads : List (List (List ℕ × V))) : Type 0 where
    pub none : (head : ℕ) (args : List ℕ) → value_at heads head args ≡ None

  -- as many heads, and the same value everywhere
  pub record IsSame (old new : List (List (List ℕ × V))) : Type 0 where
    pub heads : length new ≡ length old
    pub values : (head : ℕ) (args : List ℕ) → value_at new head args ≡ value_at old head args

  -- as many heads, the value at the head and its arguments, and the same everywhere else
  pub record IsPut (old new : List (List (List ℕ × V))) (head : ℕ) (args : List ℕ) (value : V) : Type 0 where
    pub heads : length new ≡ length old
    pub values : (h : ℕ) (xs : List ℕ) → value_at new h xs ≡ (if h == head && same_args xs args then Some value else value_at old h xs)

  -- no head less, and the same value everywhere
  pub record Keeps (old new : List (List (List ℕ × V))) : Type 0 where
    pub heads : length old ≤ length new
    pub values : (head : ℕ) (args : List ℕ) → value_at new head args ≡ value_at old head args
