-- The tightest bound of each variable that some literals give, and which of them gives it.
use Rattle.std.specs.Prelude.{◌≡◌, ℕ, ◌<◌, Bool, true, false, List, length, Option, Some, None, slice_get, slice_index_or}
use Rattle.std.specs.List.{Contains}
use Rattle.formula.specs.declared.atom.Lit.{Lit}
use Rattle.simplex_law.specs.Pairs.{◌≤ₚ◌}
use Rattle.simplex_law.specs.Bounds.{lower_pair, upper_pair}
use Rattle.simplex_law.specs.declared.bound.Bound.{Bound}
use Rattle.simplex_atoms.specs.Sides.{bound_by}
use Rattle.simplex_atoms.specs.declared.sides.Sides.{Sides}

-- the literal bounds variable v by b: from above where it is positive, else from below
pub record Gives (sides : List (Option Sides)) (l : Lit) (v : ℕ) (b : Bound) : Type 0 where
  pub side : Sides
  pub has : slice_get sides l.boolean ≡ Some (Some side)
  pub variable : side.variable ≡ v
  pub bound : b ≡ bound_by l.pos side

-- a bound from above, or from below, at least as tight as another
abbrev pub IsAsTight : Bool → Bound → Bound → Type 0
IsAsTight true b c = upper_pair b ≤ₚ upper_pair c
IsAsTight false b c = lower_pair c ≤ₚ lower_pair b

abbrev pub lit_of : ℕ → Bool → Lit
lit_of b pos = record { boolean = b; pos = pos }

-- the tightest bound of v by the literals of this sign, given by the one of Boolean `by`
abbrev pub IsTightest : List (Option Sides) → List Lit → Bool → ℕ → ℕ → Option Bound → Type 0
IsTightest sides lits pos v by None = (l : Lit) (b : Bound) → Contains lits l → l.pos ≡ pos → Gives sides l v b → ⊥
IsTightest sides lits pos v by (Some b) =
    Contains lits (lit_of by pos) × Gives sides (lit_of by pos) v b × ((l : Lit) (c : Bound) → Contains lits l → l.pos ≡ pos → Gives sides l v c → IsAsTight pos b c)

abbrev pub bound_at : List (Option Bound) → ℕ → Option Bound
bound_at bounds v = slice_index_or bounds v None

abbrev pub number_at : List ℕ → ℕ → ℕ
number_at xs v = slice_index_or xs v 0

-- those of the first n variables
pub record AreTightest (sides : List (Option Sides)) (lits : List Lit) (pos : Bool) (n : ℕ) (bounds : List (Option Bound)) (by : List ℕ) : Type 0 where
  pub long : length bounds ≡ n
  pub long_by : length by ≡ n
  pub each : (v : ℕ) → v < n → IsTightest sides lits pos v (number_at by v) (bound_at bounds v)

-- each literal is of a Boolean of the table, and each variable of the table is below n
pub record IsTable (n : ℕ) (sides : List (Option Sides)) : Type 0 where
  pub below : (b : ℕ) (s : Sides) → slice_get sides b ≡ Some (Some s) → s.variable < n
