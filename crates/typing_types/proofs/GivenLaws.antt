-- What is given first among the items of an initial state, and what is given again.
use Rattle.std.proofs.Common.{◌≡◌, ℕ, ◌+◌, ◌<◌, ◌≤◌, Bool, true, false, List, [], ◌∷◌, ◌++◌, length, get_or, take, drop, Option, Some, None, Result, Ok, Err, refl, sym, ◌∙◌, ap, subst, arith}
use Rattle.std.proofs.lemmas.List.{take_more, drop_all, drop_more, length-map}
use Rattle.std.proofs.lemmas.Bool.Decides.{nat_tests}
use Rattle.std.proofs.Math.ListN.{get_or-map}
use Rattle.std.specs.Prelude.{◌&&◌, ◌==◌, bytes_eq, if◌then◌else◌}
use Rattle.std.specs.Option.{option_or}
use Rattle.std.specs.Result.{OnOk}
use Rattle.std.specs.declared.alloc.AllocError.{AllocError}
use Rattle.rational.specs.Fraction.{Fraction}
use Rattle.ground_map.specs.GroundMap.{IsEmpty, same_args, value_at}
use Rattle.pddl_form.specs.declared.fault.Fault.{Fault}
use Rattle.pddl_form.specs.Faults.{least}
use Rattle.pddl_form.proofs.Judging.{least-append}
use Rattle.typing_names.specs.declared.item.Item.{Item as Counted}
use Rattle.typing_names.specs.declared.item.Item.TheVariants as counted
use Rattle.pddl_condition.specs.declared.condition.CondAst.{CondAst}
use Rattle.pddl_domain.specs.declared.domain.DomainAst.{DomainAst}
use Rattle.pddl_problem.specs.declared.ast.InitAst.{InitAst}
use Rattle.pddl_problem.specs.declared.ast.ProblemAst.{ProblemAst}
use Rattle.typing_names.specs.Domain.{DomainParts}
use Rattle.typing_names.specs.Problem.{Item, ProblemParts, atom, value}
use Rattle.typing_linear.proofs.Noted.{three_noted}
use Rattle.std.specs.List.{flat_map}
use Rattle.typing_types.specs.Types.{Declared, condition_faults, differing, first_sign, first_value, given_again, item_faults, problem_declared, problem_faults, problem_types}
use Rattle.typing_names.specs.Items.{are_counted, is_counted, item_of, items_of}
use Rattle.typing_types.specs.First.{AreFirst, IsNext, IsPutFirst, sign_faults, value_faults}
use Rattle.typing_linear.proofs.Changed.{same_either_way}
use Rattle.typing_types.proofs.Fitting.{each_of}
use Rattle.std.proofs.lemmas.List.Folds.{list_all-map}

-- ---- what is given first, with one more item

or_none : {A : Type 0} (o : Option A) → option_or o None ≡ o
or_none None = refl
or_none (Some a) = refl

or_behind : {A : Type 0} (b : Bool) (a : A) (o more : Option A) → (if b then Some a else option_or o more) ≡ option_or (if b then Some a else o) more
or_behind true a o more = refl
or_behind false a o more = refl

abbrev own_sign : ℕ → List ℕ → ℕ → Bool → List ℕ → Option Bool
own_sign p args pred pos others = if pred == p && bytes_eq others args then Some pos else None

sign-atom : (p : ℕ) (args : List ℕ) (front : List Item) (place : ℕ) (pos : Bool) (pred : ℕ) (others : List ℕ)
    → first_sign p args (front ++ atom place pos pred others ∷ []) ≡ option_or (first_sign p args front) (own_sign p args pred pos others)
sign-atom p args [] place pos pred others = refl
sign-atom p args (atom place' pos' pred' others' ∷ front) place pos pred others =
    ap (λ (o : Option Bool). if pred' == p && bytes_eq others' args then Some pos' else o) (sign-atom p args front place pos pred others)
    ∙ or_behind (pred' == p && bytes_eq others' args) pos' (first_sign p args front) (own_sign p args pred pos others)
sign-atom p args (value place' func' others' amount' ∷ front) place pos pred others = sign-atom p args front place pos pred others

sign-value : (p : ℕ) (args : List ℕ) (front : List Item) (place func : ℕ) (others : List ℕ) (amount : Fraction) → first_sign p args (front ++ value place func others amount ∷ []) ≡ first_sign p args front
sign-value p args [] place func others amount = refl
sign-value p args (atom place' pos' pred' others' ∷ front) place func others amount = ap (λ (o : Option Bool). if pred' == p && bytes_eq others' args then Some pos' else o) (sign-value p args front place func others amount)
sign-value p args (value place' func' others' amount' ∷ front) place func others amount = sign-value p args front place func others amount

abbrev own_value : ℕ → List ℕ → ℕ → List ℕ → Fraction → Option Fraction
own_value f args func others amount = if func == f && bytes_eq others args then Some amount else None

value-value : (f : ℕ) (args : List ℕ) (front : List Item) (place func : ℕ) (others : List ℕ) (amount : Fraction)
    → first_value f args (front ++ value place func others amount ∷ []) ≡ option_or (first_value f args front) (own_value f args func others amount)
value-value f args [] place func others amount = refl
value-value f args (atom place' pos' pred' others' ∷ front) place func others amount = value-value f args front place func others amount
value-value f args (value place' func' others' amount' ∷ front) place func others amount =
    ap (λ (o : Option Fraction). if func' == f && bytes_eq others' args then Some amount' else o) (value-value f args front place func others amount)
    ∙ or_behind (func' == f && bytes_eq others' args) amount' (first_value f args front) (own_value f args func others amount)

value-atom : (f : ℕ) (args : List ℕ) (front : List Item) (place : ℕ) (pos : Bool) (pred : ℕ) (others : List ℕ) → first_value f args (front ++ atom place pos pred others ∷ []) ≡ first_value f args front
value-atom f args [] place pos pred others = refl
value-atom f args (atom place' pos' pred' others' ∷ front) place pos pred others = value-atom f args front place pos pred others
value-atom f args (value place' func' others' amount' ∷ front) place pos pred others = ap (λ (o : Option Fraction). if func' == f && bytes_eq others' args then Some amount' else o) (value-atom f args front place pos pred others)

equal_either_way : (m n : ℕ) → (m == n) ≡ (n == m)
equal_either_way m n = grind (arith, nat_tests)

same_head : (h head : ℕ) (xs args : List ℕ) → (h == head && same_args xs args) ≡ (head == h && bytes_eq args xs)
same_head h head xs args = ap (λ (b : Bool). b && same_args xs args) (equal_either_way h head) ∙ ap (λ (b : Bool). head == h && b) (same_either_way xs args)

-- ---- the maps, with one more item

module _ (signs signs' : List (List (List ℕ × Bool))) (values values' : List (List (List ℕ × Fraction))) (front : List Item) where
  first-atom : (place : ℕ) (pos : Bool) (pred : ℕ) (args : List ℕ) → AreFirst signs values front → IsPutFirst signs signs' pred args pos → AreFirst signs' values (front ++ atom place pos pred args ∷ [])
  first-atom place pos pred args h put = record {
    signs_are = λ p xs.
        put.values p xs ∙ ap (λ (o : Option Bool). option_or o (if p == pred && same_args xs args then Some pos else None)) (h.signs_are p xs)
        ∙ ap (λ (b : Bool). option_or (first_sign p xs front) (if b then Some pos else None)) (same_head p pred xs args)
        ∙ sym (sign-atom p xs front place pos pred args);
    values_are = λ f xs. h.values_are f xs ∙ sym (value-atom f xs front place pos pred args);
  }

  first-value : (place func : ℕ) (args : List ℕ) (amount : Fraction) → AreFirst signs values front → IsPutFirst values values' func args amount → AreFirst signs values' (front ++ value place func args amount ∷ [])
  first-value place func args amount h put = record {
    signs_are = λ p xs. h.signs_are p xs ∙ sym (sign-value p xs front place func args amount);
    values_are = λ f xs.
        put.values f xs ∙ ap (λ (o : Option Fraction). option_or o (if f == func && same_args xs args then Some amount else None)) (h.values_are f xs)
        ∙ ap (λ (b : Bool). option_or (first_value f xs front) (if b then Some amount else None)) (same_head f func xs args)
        ∙ sym (value-value f xs front place func args amount);
  }

  pub next-atom : (item : Counted) (place : ℕ) (pos : Bool) (pred : ℕ) (args said : List ℕ) (old new : Option Fault) → item ≡ counted.Atom place pos pred args → said ≡ args → AreFirst signs values front
      → IsPutFirst signs signs' pred said pos → new ≡ least old (sign_faults place pos (value_at signs pred said)) → IsNext front (item_of item) signs' values old new
  next-atom item place pos pred args said old new is same h put k =
      let made : atom place pos pred said ≡ item_of item = ap (atom place pos pred) same ∙ sym (ap item_of is) in
      subst (λ (i : Item). IsNext front i signs' values old new) made
      (record {
        are_first = first-atom place pos pred said h put;
        faults_are = k ∙ ap (λ (o : Option Bool). least old (sign_faults place pos o)) (h.signs_are pred said);
      })

  pub next-value : (item : Counted) (place func : ℕ) (args said : List ℕ) (amount : Fraction) (old new : Option Fault) → item ≡ counted.Value place func args amount → said ≡ args → AreFirst signs values front
      → IsPutFirst values values' func said amount → new ≡ least old (value_faults place amount (value_at values func said)) → IsNext front (item_of item) signs values' old new
  next-value item place func args said amount old new is same h put k =
      let made : value place func said amount ≡ item_of item = ap (λ (xs : List ℕ). value place func xs amount) same ∙ sym (ap item_of is) in
      subst (λ (i : Item). IsNext front i signs values' old new) made
      (record {
        are_first = first-value place func said amount h put;
        faults_are = k ∙ ap (λ (o : Option Fraction). least old (value_faults place amount o)) (h.values_are func said);
      })

-- where the call met an error, nothing is said
pub on_ok_both : {A B C : Type 0} (r : Result (Unit {0}) AllocError) → OnOk r A → OnOk r B → (A → B → C) → OnOk r C
on_ok_both (Ok u) a b make = make a b
on_ok_both (Err e) a b make = tt

-- ---- a loop over items

-- the maps have what the first i items give first, and the faults of those behind them are left
pub record AreGiven (items : List Item) (i : ℕ) (old now : Option Fault) (signs : List (List (List ℕ × Bool))) (values : List (List (List ℕ × Fraction))) (preds funcs : ℕ) : Type 0 where
  pub are_left : least old (given_again [] items) ≡ least now (given_again (take i items) (drop i items))
  pub are_first : AreFirst signs values (take i items)
  pub signs_for : length signs ≡ preds
  pub values_for : length values ≡ funcs

pub none_given : (items : List Item) (first : Option Fault) (signs : List (List (List ℕ × Bool))) (values : List (List (List ℕ × Fraction))) (preds funcs : ℕ)
    → IsEmpty signs → length signs ≡ preds → IsEmpty values → length values ≡ funcs → AreGiven items 0 first first signs values preds funcs
none_given items first signs values preds funcs no_sign a no_value b =
    record { are_left = refl; are_first = record { signs_are = no_sign.none; values_are = no_value.none }; signs_for = a; values_for = b }

pub one_more_given : (items : List Counted) (i : ℕ) (item : Counted) (old mid new : Option Fault) (signs signs' : List (List (List ℕ × Bool))) (values values' : List (List (List ℕ × Fraction))) (preds funcs : ℕ)
    → AreGiven (items_of items) i old mid signs values preds funcs → i < length items → item ≡ get_or items i item
    → ((front : List Item) → AreFirst signs values front → IsNext front (item_of item) signs' values' mid new) → length signs' ≡ length signs → length values' ≡ length values
    → AreGiven (items_of items) (i + 1) old new signs' values' preds funcs
one_more_given items i item old mid new signs signs' values values' preds funcs h within at next a b =
    let all : List Item = items_of items in
    let within' : i < length all = omega (arith, length-map items item_of) in
    let at' : get_or all i (item_of item) ≡ item_of item = get_or-map item_of items i item ∙ ap item_of (sym at) in
    let rest : drop i all ≡ item_of item ∷ drop (i + 1) all = drop_more all i (item_of item) within' ∙ ap (λ (x : Item). x ∷ drop (i + 1) all) at' in
    let front : take (i + 1) all ≡ take i all ++ item_of item ∷ [] = take_more all i (item_of item) within' ∙ ap (λ (x : Item). take i all ++ x ∷ []) at' in
    let n : IsNext (take i all) (item_of item) signs' values' mid new = next (take i all) h.are_first in
    record {
      are_left =
          h.are_left ∙ ap (λ (xs : List Item). least mid (given_again (take i all) xs)) rest
          ∙ least-append mid (differing (take i all) (item_of item)) (given_again (take i all ++ item_of item ∷ []) (drop (i + 1) all))
          ∙ ap (λ (o : Option Fault). least o (given_again (take i all ++ item_of item ∷ []) (drop (i + 1) all))) (sym n.faults_are)
          ∙ ap (λ (xs : List Item). least new (given_again xs (drop (i + 1) all))) (sym front);
      are_first = subst (λ (xs : List Item). AreFirst signs' values' xs) (sym front) n.are_first;
      signs_for = a ∙ h.signs_for;
      values_for = b ∙ h.values_for;
    }

pub all_given : (items : List Counted) (i : ℕ) (old now : Option Fault) (signs : List (List (List ℕ × Bool))) (values : List (List (List ℕ × Fraction))) (preds funcs : ℕ)
    → AreGiven (items_of items) i old now signs values preds funcs → length items ≤ i → now ≡ least old (given_again [] (items_of items))
all_given items i old now signs values preds funcs h whole =
    let whole' : length (items_of items) ≤ i = omega (arith, length-map items item_of) in
    sym (h.are_left ∙ ap (λ (xs : List Item). least now (given_again (take i (items_of items)) xs)) (drop_all i (items_of items) whole'))

pub counted_of : (items : List Counted) (i : ℕ) (item : Counted) (preds funcs signs values : ℕ) → are_counted preds funcs items ≡ true → i < length items → item ≡ get_or items i item
    → signs ≡ preds → values ≡ funcs → is_counted signs values (item_of item) ≡ true
counted_of items i item preds funcs signs values all within at a b =
    ap (λ (n : ℕ). is_counted n values (item_of item)) a ∙ ap (λ (n : ℕ). is_counted preds n (item_of item)) b
    ∙ each_of (λ (x : Counted). is_counted preds funcs (item_of x)) items i item (sym (list_all-map (is_counted preds funcs) item_of items) ∙ all) within at

-- ---- the whole

-- the faults of the initial state, of what is given again and of the goal
pub problem_judged : (d : Declared) (p : ProblemAst) (items : List Item) (init : List InitAst) (goal : List CondAst) (old mid later new : Option Fault) → init ≡ p.init → goal ≡ p.goal
    → mid ≡ least old (flat_map (item_faults d) init) → later ≡ least mid (given_again [] items) → new ≡ least later (flat_map (condition_faults d) goal) → new ≡ least old (problem_faults d p items)
problem_judged d p items init goal old mid later new a b h k l =
    three_noted (flat_map (item_faults d) p.init) (given_again [] items) (flat_map (condition_faults d) p.goal) old mid later new
    (h ∙ ap (λ (xs : List InitAst). least old (flat_map (item_faults d) xs)) a) k (l ∙ ap (λ (xs : List CondAst). least later (flat_map (condition_faults d) xs)) b)

-- what the pass over a problem's types finds
pub problem_types-is : (d : DomainAst) (parts : DomainParts) (p : ProblemAst) (more : ProblemParts) → problem_types d parts p more ≡ problem_faults (problem_declared d parts p more) p more.items
unfolding problem_types
problem_types-is d parts p more = refl
