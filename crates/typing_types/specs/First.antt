-- What was given first among some items.
use Rattle.std.specs.Prelude.{◌≡◌, ℕ, Bool, ◌==◌, ◌&&◌, List, [], ◌∷◌, ◌++◌, length, Option, Some, None, if◌then◌else◌}
use Rattle.std.specs.Option.{option_or}
use Rattle.rational.specs.Fraction.{Fraction}
use Rattle.ground_map.specs.GroundMap.{same_args, value_at}
use Rattle.pddl_form.specs.declared.fault.Fault.{Fault}
use Rattle.pddl_form.specs.Faults.{least}
use Rattle.typing_names.specs.Problem.{Item}
use Rattle.typing_types.specs.Types.{differing, differs, first_sign, first_value, other_sign, other_value}

-- the fault of a sign, given the first one of that atom
abbrev pub sign_faults : ℕ → Bool → Option Bool → List Fault
sign_faults place pos first = if other_sign pos first then differs place ∷ [] else []

-- the fault of a value, given the first one of that function at those arguments
abbrev pub value_faults : ℕ → Fraction → Option Fraction → List Fault
value_faults place amount first = if other_value amount first then differs place ∷ [] else []

-- what is there stays, and a value is put where there was none
pub record IsPutFirst {V : Type 0} (old new : List (List (List ℕ × V))) (head : ℕ) (args : List ℕ) (given : V) : Type 0 where
  pub heads : length new ≡ length old
  pub values : (h : ℕ) (xs : List ℕ) → value_at new h xs ≡ option_or (value_at old h xs) (if h == head && same_args xs args then Some given else None)

-- the maps have what was given first among these items
pub record AreFirst (signs : List (List (List ℕ × Bool))) (values : List (List (List ℕ × Fraction))) (items : List Item) : Type 0 where
  pub signs_are : (p : ℕ) (args : List ℕ) → value_at signs p args ≡ first_sign p args items
  pub values_are : (f : ℕ) (args : List ℕ) → value_at values f args ≡ first_value f args items

-- so they have with one more item, of which the fault is noted
pub record IsNext (front : List Item) (item : Item) (signs : List (List (List ℕ × Bool))) (values : List (List (List ℕ × Fraction))) (old new : Option Fault) : Type 0 where
  pub are_first : AreFirst signs values (front ++ item ∷ [])
  pub faults_are : new ≡ least old (differing front item)
