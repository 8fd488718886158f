-- A configuration: a tableau with a pair for each non-basic variable; and what the simplex asks of its values.
use Rattle.std.specs.Prelude.{◌≡◌, ◌≢◌, ◌⊎◌, ℕ, ◌<◌, false, IsTrue, List, Option, Some, None, slice_index_or, if◌then◌else◌}
use lib.IntN.{pos}
use Rattle.rational.specs.Fraction.{Fraction, whole, ◌*ℚ◌, ◌<ℚ◌}
use Rattle.tableau.specs.FiniteSums.{sum_below}
use Rattle.tableau.specs.Table.{Table, width, cell, is_basic}
use Rattle.tableau.specs.Pivot.{IsPivoted}
use Rattle.simplex_law.specs.Bounds.{lower_pair, upper_pair, MeetsLower, MeetsUpper, OnLower, OnUpper, BelowLower, AboveUpper, CanRise, CanFall}
use Rattle.simplex_law.specs.declared.pair.Pair.{Pair}
use Rattle.simplex_law.specs.declared.bound.Bound.{Bound}
use Rattle.simplex_law.specs.declared.bound.Side.{Side}
use Rattle.simplex_law.specs.declared.bound.Side.TheVariants.{Under, Over}

-- the asserted bounds
pub record Limits : Type 0 where
  pub lower : List (Option Bound)
  pub upper : List (Option Bound)

abbrev pub lower_of : Limits → ℕ → Option Bound
lower_of l j = slice_index_or l.lower j None

abbrev pub upper_of : Limits → ℕ → Option Bound
upper_of l j = slice_index_or l.upper j None

-- the pair 0
abbrev pub zero_pair : Pair
zero_pair = record { main = whole (pos 0); small = whole (pos 0) }

abbrev pub pair_at : List Pair → ℕ → Pair
pair_at xs j = slice_index_or xs j zero_pair

-- the value of the row of r
abbrev pub row_pair : Table → (ℕ → Pair) → ℕ → Pair
row_pair t place r = record { main = sum_below (width t) (λ j. cell t r j *ℚ (place j).main); small = sum_below (width t) (λ j. cell t r j *ℚ (place j).small) }

-- the value of a variable
abbrev pub value_of : Table → (ℕ → Pair) → ℕ → Pair
value_of t place i = if is_basic t i then row_pair t place i else place i

abbrev pub IsOn : Limits → ℕ → Pair → Type 0
IsOn l i x = OnLower (lower_of l i) x × OnUpper (upper_of l i) x

-- each non-basic variable is on its bounds
abbrev pub IsPlaced : Limits → Table → (ℕ → Pair) → Type 0
IsPlaced l t place = (j : ℕ) → j < width t → is_basic t j ≡ false → IsOn l j (place j)

-- each basic one is, so nothing is violated
abbrev pub IsSettled : Limits → Table → (ℕ → Pair) → Type 0
IsSettled l t place = (i : ℕ) → i < width t → IsTrue (is_basic t i) → IsOn l i (row_pair t place i)

-- a point meets every bound
abbrev pub MeetsAll : Limits → ℕ → (ℕ → Fraction) → Type 0
MeetsAll l n point = (i : ℕ) → i < n → MeetsLower (lower_of l i) (point i) × MeetsUpper (upper_of l i) (point i)

-- a change of a variable within its bounds, with this cell, lifts the row, or lowers it
abbrev pub HelpsBy : Side → Fraction → Option Bound → Option Bound → Pair → Type 0
HelpsBy Under c lower upper x = ((whole (pos 0) <ℚ c) × CanRise upper x) ⊎ ((c <ℚ whole (pos 0)) × CanFall lower x)
HelpsBy Over c lower upper x = ((c <ℚ whole (pos 0)) × CanRise upper x) ⊎ ((whole (pos 0) <ℚ c) × CanFall lower x)

abbrev pub Violates : Limits → Table → (ℕ → Pair) → ℕ → Side → Type 0
Violates l t place r Under = BelowLower (lower_of l r) (row_pair t place r)
Violates l t place r Over = AboveUpper (upper_of l r) (row_pair t place r)

abbrev pub Helps : Limits → Table → (ℕ → Pair) → ℕ → Side → ℕ → Type 0
Helps l t place r side j = HelpsBy side (cell t r j) (lower_of l j) (upper_of l j) (place j)

-- r violates a bound and no non-basic variable helps
pub record IsStuck (l : Limits) (t : Table) (place : ℕ → Pair) (r : ℕ) (side : Side) : Type 0 where
  pub within : r < width t
  pub basic : IsTrue (is_basic t r)
  pub violates : Violates l t place r side
  pub helpless : (j : ℕ) → j < width t → is_basic t j ≡ false → ¬ (Helps l t place r side j)

-- no lower bound exceeds the upper one
abbrev pub IsConsistentAt : Option Bound → Option Bound → Type 0
IsConsistentAt None upper = Unit {0}
IsConsistentAt (Some b) upper = OnUpper upper (lower_pair b)

abbrev pub IsConsistent : Limits → ℕ → Type 0
IsConsistent l n = (j : ℕ) → j < n → IsConsistentAt (lower_of l j) (upper_of l j)

-- the pair of the bound that is violated
abbrev pub lower_or_zero : Option Bound → Pair
lower_or_zero None = zero_pair
lower_or_zero (Some b) = lower_pair b

abbrev pub upper_or_zero : Option Bound → Pair
upper_or_zero None = zero_pair
upper_or_zero (Some b) = upper_pair b

abbrev pub violated_pair : Side → Option Bound → Option Bound → Pair
violated_pair Under lower upper = lower_or_zero lower
violated_pair Over lower upper = upper_or_zero upper

-- ---- the start of a check
-- a non-basic variable stands at its lower bound, where it has none at its upper one, and where it has none at 0
abbrev pub start_pair : Option Bound → Option Bound → Pair
start_pair None upper = upper_or_zero upper
start_pair (Some b) upper = lower_pair b

-- so the basis and the bounds fix the first configuration
abbrev pub IsStart : Limits → Table → (ℕ → Pair) → Type 0
IsStart l t place = (j : ℕ) → j < width t → is_basic t j ≡ false → place j ≡ start_pair (lower_of l j) (upper_of l j)

-- ---- Bland's rule
-- r is the least basic variable that violates a bound
pub record IsLeastViolated (l : Limits) (t : Table) (place : ℕ → Pair) (r : ℕ) (side : Side) : Type 0 where
  pub within : r < width t
  pub basic : IsTrue (is_basic t r)
  pub violates : Violates l t place r side
  pub least : (i : ℕ) → i < r → IsTrue (is_basic t i) → IsOn l i (row_pair t place i)

-- e is the least non-basic variable that helps it
pub record IsLeastHelp (l : Limits) (t : Table) (place : ℕ → Pair) (r : ℕ) (side : Side) (e : ℕ) : Type 0 where
  pub within : e < width t
  pub other : is_basic t e ≡ false
  pub helps : Helps l t place r side e
  pub least : (j : ℕ) → j < e → is_basic t j ≡ false → ¬ (Helps l t place r side j)

-- a configuration, and the next one by Bland's rule: r leaves the basis for its bound, e enters it
pub record IsNext (l : Limits) (t : Table) (place : ℕ → Pair) (r e : ℕ) (after : Table) (place' : ℕ → Pair) : Type 0 where
  pub side : Side
  pub leaves : IsLeastViolated l t place r side
  pub enters : IsLeastHelp l t place r side e
  pub pivoted : IsPivoted t r e after
  pub moved : place' r ≡ violated_pair side (lower_of l r) (upper_of l r)
  pub kept : (j : ℕ) → j ≢ r → place' j ≡ place j
