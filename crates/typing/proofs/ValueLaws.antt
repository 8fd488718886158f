-- Where no item gives a function another value, each function has one value.
use Rattle.std.proofs.Common.{◌≡◌, ℕ, zero, suc, Bool, true, false, List, [], ◌∷◌, ◌++◌, append_assoc, Option, Some, None, arith, refl, sym, ◌∙◌, ap, subst}
use Rattle.std.proofs.lemmas.Bool.{and_parts}
use Rattle.std.proofs.lemmas.Bool.Decides.{Decides-int_eq, nat_tests}
use Rattle.std.specs.Prelude.{not, ◌&&◌, ◌==◌, bytes_eq, slice_get, if◌then◌else◌}
use Rattle.std.specs.Ordering.{int_eq}
use Rattle.std.specs.Cmp.Lexicographic.{nat_list_eq_equiv}
use Rattle.rational.specs.Fraction.{Fraction}
use Rattle.rational.proofs.FieldLaws.{same_parts}
use Rattle.pddl_form.specs.declared.fault.Fault.{Fault}
use Rattle.pddl_task.specs.declared.start.Given.{Given}
use Rattle.pddl_task.specs.WellFormed.{HasOneValueEach}
use Rattle.typing_names.specs.Problem.{Item, atom, value, values_in}
use Rattle.typing_uses.proofs.Good.{front_empty, rest_empty}
use Rattle.typing_types.specs.Types.{differs, differing, first_value, given_again, other_value, same_value}

-- the first value of some items is that of more
first_kept : (f : ℕ) (args : List ℕ) (front more : List Item) (amount : Fraction) → first_value f args front ≡ Some amount → first_value f args (front ++ more) ≡ Some amount
first_kept f args [] more amount is = absurd (cc is)
first_kept f args (atom place pos pred others ∷ front) more amount is = first_kept f args front more amount is
first_kept f args (value place func others given ∷ front) more amount is = by_test (func == f && bytes_eq others args) is (λ later. first_kept f args front more amount later)
  where
    by_test : (b : Bool) → (if b then Some given else first_value f args front) ≡ Some amount → (first_value f args front ≡ Some amount → first_value f args (front ++ more) ≡ Some amount)
        → (if b then Some given else first_value f args (front ++ more)) ≡ Some amount
    by_test true is kept = is
    by_test false is kept = kept is

-- where there is none yet, the next item gives the first
first_own : (f : ℕ) (args : List ℕ) (front : List Item) (place : ℕ) (amount : Fraction) (more : List Item) → first_value f args front ≡ None → first_value f args (front ++ value place f args amount ∷ more) ≡ Some amount
first_own f args [] place amount more none = ap (λ (b : Bool). if b then Some amount else first_value f args more) own
  where
    own : (f == f && bytes_eq args args) ≡ true
    own = ap (λ (b : Bool). f == f && b) (nat_list_eq_equiv.refl args) ∙ grind (arith, nat_tests)
first_own f args (atom place' pos pred others ∷ front) place amount more none = first_own f args front place amount more none
first_own f args (value place' func others given ∷ front) place amount more none = by_test (func == f && bytes_eq others args) none (λ later. first_own f args front place amount more later)
  where
    by_test : (b : Bool) → (if b then Some given else first_value f args front) ≡ None → (first_value f args front ≡ None → first_value f args (front ++ value place f args amount ∷ more) ≡ Some amount)
        → (if b then Some given else first_value f args (front ++ value place f args amount ∷ more)) ≡ Some amount
    by_test true none own = absurd (cc none)
    by_test false none own = own none

same_values : (x y : Fraction) → same_value x y ≡ true → x ≡ y
same_values x y same =
    let h = and_parts (int_eq x.num y.num) (x.den == y.den) same in
    same_parts x y ((Decides-int_eq x.num y.num).0 h.0) (same_den x.den y.den h.1)
  where
    same_den : (n m : ℕ) → (n == m) ≡ true → n ≡ m
    same_den n m is = grind (arith, nat_tests)

not_other : (b : Bool) (f : Fault) → (if not b then f ∷ [] else []) ≡ [] → b ≡ true
not_other true f none = refl
not_other false f none = absurd (cc none)

-- an item that gives no other value gives the first one
own_first : (f : ℕ) (args : List ℕ) (front : List Item) (place : ℕ) (amount : Fraction) (more : List Item) (o : Option Fraction) → first_value f args front ≡ o → (if other_value amount o then differs place ∷ [] else []) ≡ []
    → first_value f args (front ++ value place f args amount ∷ more) ≡ Some amount
own_first f args front place amount more None is none = first_own f args front place amount more is
own_first f args front place amount more (Some first) is none =
    let same : amount ≡ first = same_values amount first (not_other (same_value amount first) (differs place) none) in
    first_kept f args front (value place f args amount ∷ more) amount (is ∙ ap Some (sym same))

-- what is given behind some items is what is given first
given_is_first : (front items : List Item) → given_again front items ≡ [] → (k : ℕ) (x : Given) → slice_get (values_in items) k ≡ Some x → first_value x.func x.args (front ++ items) ≡ Some x.value
given_is_first front [] none k x at = absurd (cc at)
given_is_first front (atom place pos pred args ∷ items) none k x at =
    ap (first_value x.func x.args) (sym (append_assoc front (atom place pos pred args ∷ []) items))
    ∙ given_is_first (front ++ atom place pos pred args ∷ []) items (rest_empty (differing front (atom place pos pred args)) (given_again (front ++ atom place pos pred args ∷ []) items) none) k x (behind_atom pos at)
  where
    behind_atom : (p : Bool) → slice_get (values_in (atom place p pred args ∷ items)) k ≡ Some x → slice_get (values_in items) k ≡ Some x
    behind_atom true h = h
    behind_atom false h = h
given_is_first front (value place func args amount ∷ items) none zero x at =
    let same : record { func = func; args = args; value = amount } ≡ x = cc at in
    subst (λ (y : Given). first_value y.func y.args (front ++ value place func args amount ∷ items) ≡ Some y.value) same
    (own_first func args front place amount items (first_value func args front) refl (front_empty (differing front (value place func args amount)) (given_again (front ++ value place func args amount ∷ []) items) none))
given_is_first front (value place func args amount ∷ items) none (suc k) x at =
    ap (first_value x.func x.args) (sym (append_assoc front (value place func args amount ∷ []) items))
    ∙ given_is_first (front ++ value place func args amount ∷ []) items (rest_empty (differing front (value place func args amount)) (given_again (front ++ value place func args amount ∷ []) items) none) k x at

pub one_value_each : (items : List Item) → given_again [] items ≡ [] → HasOneValueEach (values_in items)
one_value_each items none = record {
  agree = λ i j x y at_i at_j same_func same_args.
      let first : first_value x.func x.args items ≡ Some x.value = given_is_first [] items none i x at_i in
      let other : first_value y.func y.args items ≡ Some y.value = given_is_first [] items none j y at_j in
      some_same x.value y.value (sym first ∙ ap (λ (f : ℕ). first_value f x.args items) same_func ∙ ap (λ (args : List ℕ). first_value y.func args items) same_args ∙ other);
}
  where
    some_same : (v w : Fraction) → Some v ≡ Some w → v ≡ w
    some_same v w is = cc is
