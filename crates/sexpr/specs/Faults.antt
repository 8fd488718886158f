-- The faults of a text: of its bytes, and of its parentheses. `text` is a text without comments.
use Rattle.std.specs.Prelude.{◌≡◌, ◌⊎◌, ℕ, ◌+◌, ◌-◌, ◌<◌, ◌≤◌, ◌==◌, true, IsTrue, List, length, take, count_by, slice_index}
use Rattle.sexpr.specs.declared.bytes.Class.TheVariants.{Foreign}
use Rattle.sexpr.specs.Bytes.{class_of, is_in_word}

-- the byte at a place
abbrev pub Has : List ℕ → ℕ → ℕ → Type 0
Has text place byte = (place < length text) × (slice_index text place ≡ byte)

-- a byte that isn't allowed outside of comments
abbrev pub IsByteFault : List ℕ → ℕ → Type 0
IsByteFault text place = (place < length text) × (class_of (slice_index text place) ≡ Foreign)

-- how many lists are opened, and closed, before a place
abbrev pub opened_before : List ℕ → ℕ → ℕ
opened_before text place = count_by (λ b. b == 40) (take place text)

abbrev pub closed_before : List ℕ → ℕ → ℕ
closed_before text place = count_by (λ b. b == 41) (take place text)

-- how many lists are open at a place (behind a `)` too many the count is too low; no first fault stands there)
abbrev pub open_at : List ℕ → ℕ → ℕ
open_at text place = opened_before text place - closed_before text place

-- a word begins at a place
pub record BeginsWord (text : List ℕ) (place : ℕ) : Type 0 where
  pub within : place < length text
  pub here : IsTrue (is_in_word (slice_index text place))
  pub not_before : (before : ℕ) → before + 1 ≡ place → is_in_word (slice_index text before) ≡ true → ⊥

-- `)` outside of any list
abbrev pub IsUnopened : List ℕ → ℕ → Type 0
IsUnopened text place = Has text place 41 × (open_at text place ≡ 0)

-- a word outside of any list, or a list behind the one list
abbrev pub IsOutside : List ℕ → ℕ → Type 0
IsOutside text place = (open_at text place ≡ 0) × (BeginsWord text place ⊎ (Has text place 40 × (0 < opened_before text place)))

-- the end, with an open list or with no list at all
abbrev pub IsUnended : List ℕ → ℕ → Type 0
IsUnended text place = (place ≡ length text) × ((0 < open_at text place) ⊎ (opened_before text place ≡ 0))

abbrev pub IsParenFault : List ℕ → ℕ → Type 0
IsParenFault text place = IsUnopened text place ⊎ (IsOutside text place ⊎ IsUnended text place)

-- `(` inside of as many open lists as there may be
abbrev pub deepest : ℕ
deepest = 200

abbrev pub IsDeepFault : List ℕ → ℕ → Type 0
IsDeepFault text place = Has text place 40 × (deepest ≤ open_at text place)
