-- Numbers of ground things, by the keys of the program's set.
use Rattle.std.proofs.Common.{◌≡◌, ℕ, zero, suc, ◌+◌, Bool, true, false, not, cond, ◌||◌, nat_lt, List, [], ◌∷◌, ◌++◌, length, position, Option, Some, None, slice_get, if◌then◌else◌, refl, sym, ap, subst, ◌∙◌, arith}
use Rattle.std.proofs.lemmas.Bool.Decides.{nat_tests}
use Rattle.std.proofs.lemmas.List.Folds.{list_any-append}
use Rattle.std.specs.List.{AllByRecursion, IsDistinct, list_any, position_or_len}
use Rattle.indexmap.specs.IndexSet.{insert_key}
use Rattle.ground_numbers.specs.Numbers.{Named, named, same, is_listed, number_in, found_in, with_seen, IsSeen, AreDistinct}
use Rattle.ground_numbers.specs.inside.Same.{same_itself, same_symm}

-- ---- what a look-up finds
one_more : (b : Bool) (m n : ℕ) → m ≡ n → cond (not b) (1 + m) 0 ≡ (if b then zero else suc n)
one_more true m n e = refl
one_more false m n e = omega (arith, e)

below_cons : (b : Bool) (i n : ℕ) → nat_lt (cond (not b) (1 + i) 0) (suc n) ≡ (b || nat_lt i n)
below_cons true i n = grind (arith, nat_tests)
below_cons false i n = grind (arith, nat_tests)

module _ {A : Type 0} (alike : A → A → Bool) (x : A) where
  place_is : (xs : List A) → position_or_len (λ y. alike y x) xs ≡ number_in alike xs x
  place_is [] = refl
  place_is (y ∷ ys) = one_more (alike y x) (position_or_len (λ z. alike z x) ys) (number_in alike ys x) (place_is ys)

  place_below : (xs : List A) → nat_lt (position_or_len (λ y. alike y x) xs) (length xs) ≡ is_listed alike xs x
  place_below [] = refl
  place_below (y ∷ ys) = below_cons (alike y x) (position_or_len (λ z. alike z x) ys) (length ys) ∙ ap (λ b. alike y x || b) (place_below ys)

  pub position_found : (xs : List A) → position (λ y. alike y x) xs ≡ found_in alike xs x
  position_found xs =
      ap (λ b. cond b (Some (position_or_len (λ y. alike y x) xs)) None) (place_below xs)
      ∙ ap (λ n. if is_listed alike xs x then Some n else None) (place_is xs)

-- ---- one sighting more
listed_if : (b : Bool) (m n : ℕ) → Some n ≡ (if b then Some m else None) → b ≡ true
listed_if true m n e = refl
listed_if false m n e = cc

not_listed_if : (b : Bool) (m : ℕ) → (if b then Some m else None) ≡ None → b ≡ false
not_listed_if true m e = cc
not_listed_if false m e = refl

pub seen_there : (things : List Named) (k : Named) (n : ℕ) → Some n ≡ found_in same things k → IsSeen things things k n
seen_there things k n e = record {
  after = sym (ap (λ b. if b then things else things ++ k ∷ []) (listed_if (is_listed same things k) (number_in same things k) n e));
  number = sym e;
}

false_parts : (a b : Bool) → (a || b) ≡ false → (a ≡ false) × (b ≡ false)
false_parts true b e = cc
false_parts false b e = (refl, e)

pass : (b : Bool) (m n : ℕ) → b ≡ false → m ≡ n → (if b then zero else suc m) ≡ suc n
pass true m n e f = cc
pass false m n e f = ap suc f

number_last : (things : List Named) (k : Named) → is_listed same things k ≡ false → number_in same (things ++ k ∷ []) k ≡ length things
number_last [] k e = ap (λ b. if b then zero else suc zero) (same_itself k)
number_last (y ∷ ys) k e =
    let parts = false_parts (same y k) (is_listed same ys k) e in
    pass (same y k) (number_in same (ys ++ k ∷ []) k) (length ys) parts.0 (number_last ys k parts.1)

or_last : (a b : Bool) → b ≡ true → (a || (b || false)) ≡ true
or_last true b e = refl
or_last false b e = ap (λ c. c || false) e

listed_last : (things : List Named) (k : Named) → is_listed same (things ++ k ∷ []) k ≡ true
listed_last things k = list_any-append (λ y. same y k) things (k ∷ []) ∙ or_last (is_listed same things k) (same k k) (same_itself k)

list_any_turned : (things : List Named) (k : Named) → list_any (same k) things ≡ is_listed same things k
list_any_turned [] k = refl
list_any_turned (y ∷ ys) k = ap (λ b. b || list_any (same k) ys) (same_symm k y) ∙ ap (λ b. same y k || b) (list_any_turned ys k)

pub seen_new : (keys old new : List Named) (k : Named) (n : ℕ) → keys ≡ old → found_in same old k ≡ None → new ≡ insert_key same keys k → n ≡ length old → IsSeen old new k n
seen_new keys old new k n seen absent inserted next =
    let gone : is_listed same old k ≡ false = not_listed_if (is_listed same old k) (number_in same old k) absent in
    let none : list_any (same k) keys ≡ false = ap (list_any (same k)) seen ∙ list_any_turned old k ∙ gone in
    let last : new ≡ old ++ k ∷ [] = inserted ∙ ap (λ b. if b then keys else keys ++ k ∷ []) none ∙ ap (λ l. l ++ k ∷ []) seen in
    record {
      after = last ∙ sym (ap (λ b. if b then old else old ++ k ∷ []) gone);
      number =
          ap (λ l. found_in same l k) last ∙ ap (λ b. if b then Some (number_in same (old ++ k ∷ []) k) else None) (listed_last old k)
          ∙ ap Some (number_last old k gone ∙ sym next);
    }

-- ---- no thing stands twice
apart_at : (x : Named) (xs : List Named) (n : ℕ) (k : Named) → AllByRecursion (λ y. same x y ≡ false) xs → slice_get xs n ≡ Some k → same x k ≡ false
apart_at x [] n k all e = cc
apart_at x (y ∷ ys) zero k all e = let is : y ≡ k = cc in subst (λ z. same x z ≡ false) is all.0
apart_at x (y ∷ ys) (suc n) k all e = apart_at x ys n k all.1 e

here : (x k : Named) (rest : Bool) (m : ℕ) → x ≡ k → (if same x k || rest then Some (if same x k then zero else suc m) else None) ≡ Some 0
here x k rest m e = ap (λ b. if b || rest then Some (if b then zero else suc m) else None) (ap (λ y. same y k) e ∙ same_itself k)

further : (b rest : Bool) (m n : ℕ) → b ≡ false → (if rest then Some m else None) ≡ Some n → (if b || rest then Some (if b then zero else suc m) else None) ≡ Some (suc n)
further true rest m n e f = cc
further false true m n e f = cc
further false false m n e f = cc

own_number_of : (things : List Named) → IsDistinct same things → (n : ℕ) (k : Named) → slice_get things n ≡ Some k → found_in same things k ≡ Some n
unfolding IsDistinct
own_number_of [] distinct n k e = cc
own_number_of (x ∷ xs) distinct zero k e = let is : x ≡ k = cc in here x k (is_listed same xs k) (number_in same xs k) is
own_number_of (x ∷ xs) distinct (suc n) k e =
    further (same x k) (is_listed same xs k) (number_in same xs k) n (apart_at x xs n k distinct.0 e) (own_number_of xs distinct.1 n k e)

pub AreDistinct-keys : (keys things : List Named) → keys ≡ things → IsDistinct same keys → AreDistinct things
AreDistinct-keys keys things seen distinct = subst AreDistinct seen (record { own_number = own_number_of keys distinct })
