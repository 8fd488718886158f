-- Words that fit, and arguments one behind another.
use Rattle.std.proofs.Common.{◌≡◌, ℕ, ◌<◌, ◌≤◌, Bool, true, false, List, [], ◌∷◌, length, get_or, drop, Option, Some, refl, sym, ◌∙◌, ap, arith}
use Rattle.std.proofs.lemmas.List.{drop_all}
use Rattle.std.proofs.lemmas.Option.{get_or_from_slice_get, slice_get_within}
use Rattle.std.proofs.lemmas.List.Folds.{list_all_at}
use Rattle.std.proofs.lemmas.Bool.Decides.{nat_tests}
use Rattle.std.specs.Prelude.{nat_lt, slice_get}
use Rattle.std.specs.List.{list_all}
use Rattle.pddl_form.specs.declared.fault.Fault.{Fault}
use Rattle.pddl_form.specs.declared.spot.Spot.{Spot}
use Rattle.pddl_form.specs.Faults.{least}
use Rattle.typing_types.specs.Types.{Declared, argument_faults}

-- ---- what holds of each holds of one

each_by : {X : Type 0} (p : X → Bool) (xs : List X) (i : ℕ) (x : X) (b : Bool) → p x ≡ b → list_all p xs ≡ true → i < length xs → x ≡ get_or xs i x → p x ≡ true
each_by p xs i x true is all within at = is
each_by p xs i x false is all within at = absurd (cc (sym all ∙ list_all_at p xs i x within (ap p (sym at) ∙ is)))

pub each_of : {X : Type 0} (p : X → Bool) (xs : List X) (i : ℕ) (x : X) → list_all p xs ≡ true → i < length xs → x ≡ get_or xs i x → p x ≡ true
each_of p xs i x all within at = each_by p xs i x (p x) refl all within at

pub below_from : (t count : ℕ) → nat_lt t count ≡ true → t < count
below_from t count is = grind (arith, nat_tests)

-- ---- a loop over arguments

-- the faults of the arguments from the i-th on are left
pub record AreLeft (d : Declared) (params : List (List ℕ)) (args : List Spot) (i : ℕ) (old now : Option Fault) : Type 0 where
  pub are_left : least old (argument_faults d params args) ≡ least now (argument_faults d (drop i params) (drop i args))

past_all : (d : Declared) (params : List (List ℕ)) → argument_faults d params [] ≡ []
past_all d [] = refl
past_all d (allowed ∷ params) = refl

pub none_left : (d : Declared) (params : List (List ℕ)) (args : List Spot) (i : ℕ) (old now : Option Fault) → AreLeft d params args i old now → length args ≤ i → now ≡ least old (argument_faults d params args)
none_left d params args i old now h whole =
    sym (h.are_left ∙ ap (λ (xs : List Spot). least now (argument_faults d (drop i params) xs)) (drop_all i args whole) ∙ ap (least now) (past_all d (drop i params)))

-- ---- the types that something is declared with

pub each_got : {X : Type 0} (p : X → Bool) (xs : List X) (n : ℕ) (x : X) → list_all p xs ≡ true → slice_get xs n ≡ Some x → p x ≡ true
each_got p xs n x all got = each_of p xs n x all (slice_get_within xs n x got) (sym (get_or_from_slice_get xs n x x got))
