-- One more bound of a variable.
use Rattle.std.specs.Prelude.{◌≡◌, ◌≢◌, ◌⊎◌, ℕ, Bool, true, false, List, length, Option, Some, None, slice_get}
use Rattle.formula.specs.declared.atom.Lit.{Lit}
use Rattle.simplex_law.specs.declared.bound.Bound.{Bound}
use Rattle.simplex_atoms.specs.Sides.{bound_by}
use Rattle.simplex_atoms.specs.Tightest.{IsAsTight, bound_at, number_at}
use Rattle.simplex_atoms.specs.declared.sides.Sides.{Sides}

-- whether there is no bound yet, or b is tighter
abbrev pub TighterAnswers : Bool → Bound → Option Bound → Bool → Type 0
TighterAnswers pos b None r = r ≡ true
TighterAnswers pos b (Some c) true = IsAsTight pos b c
TighterAnswers pos b (Some c) false = IsAsTight pos c b

-- b takes the place of the bound of v, or that one is as tight and stays; the bounds of other variables stay
pub record IsNoted (pos : Bool) (v : ℕ) (b : Bound) (boolean : ℕ) (bounds : List (Option Bound)) (by : List ℕ) (bounds' : List (Option Bound)) (by' : List ℕ) : Type 0 where
  pub long : length bounds' ≡ length bounds
  pub long_by : length by' ≡ length by
  pub others : (w : ℕ) → w ≢ v → (bound_at bounds' w ≡ bound_at bounds w) × (number_at by' w ≡ number_at by w)
  pub at : ((bound_at bounds' v ≡ Some b) × (number_at by' v ≡ boolean) × ((c : Bound) → bound_at bounds v ≡ Some c → IsAsTight pos b c))
      ⊎ ((c : Bound) × (bound_at bounds v ≡ Some c) × IsAsTight pos c b × (bound_at bounds' v ≡ Some c) × (number_at by' v ≡ number_at by v))

-- where the literal has this sign and its Boolean an atom, its bound is noted; else nothing changes
pub record IsNotedWhere (sides : List (Option Sides)) (l : Lit) (pos : Bool) (bounds : List (Option Bound)) (by : List ℕ) (bounds' : List (Option Bound)) (by' : List ℕ) : Type 0 where
  pub long : length bounds' ≡ length bounds
  pub long_by : length by' ≡ length by
  pub noted : (s : Sides) → l.pos ≡ pos → slice_get sides l.boolean ≡ Some (Some s) → IsNoted pos s.variable (bound_by pos s) l.boolean bounds by bounds' by'
  pub other : ((s : Sides) → l.pos ≡ pos → slice_get sides l.boolean ≡ Some (Some s) → ⊥) → (bounds' ≡ bounds) × (by' ≡ by)
