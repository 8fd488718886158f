-- For callers: what stays, and what is new, after a name more.
use Rattle.std.proofs.Common.{◌≡◌, ℕ, suc, ◌+◌, ◌<◌, ◌≤◌, Bool, true, false, not, cond, nat_lt, nat_eq, zero, List, [], ◌∷◌, ◌++◌, length, position, Option, Some, None, is_some, slice_get, if◌then◌else◌, ⊎_elim, refl, sym, ap, subst, ◌∙◌, arith}
use Rattle.std.proofs.lemmas.List.{length-append}
use Rattle.std.proofs.lemmas.List.Sums.{prefix_len-le-length}
use Rattle.std.proofs.lemmas.Bool.{cases_Bool}
use Rattle.std.proofs.lemmas.List.Folds.{position_or_len_push}
use Rattle.std.proofs.lemmas.Bool.Decides.{nat_tests}
use Rattle.std.specs.Cmp.Lexicographic.{nat_list_eq_equiv}
use Rattle.std.specs.List.{position_or_len}
use Rattle.std.specs.Str.{bytes_eq}
use Rattle.name_table.specs.NameTable.{number_in, with_name}

-- what with_name makes, by whether the name is there
by_presence : (P : List (List ℕ) → Type 0) (names : List (List ℕ)) (name : List ℕ) → P names → (number_in names name ≡ None → P (names ++ name ∷ [])) → P (with_name names name)
by_presence P names name there new = choose (number_in names name) refl
  where
    choose : (found : Option ℕ) → number_in names name ≡ found → P (if is_some found then names else names ++ name ∷ [])
    choose (Some _) e = there
    choose None e = new e

step : (b : Bool) (m n l : ℕ) → (n < l → m ≡ n) → cond (not b) (1 + n) 0 < suc l → cond (not b) (1 + m) 0 ≡ cond (not b) (1 + n) 0
step true m n l same within = refl
step false m n l same within = ap (λ k. 1 + k) (same (omega arith))

place-append : {A : Type 0} (p : A → Bool) (xs ys : List A) → position_or_len p xs < length xs → position_or_len p (xs ++ ys) ≡ position_or_len p xs
place-append p [] ys within = absurd (omega arith)
place-append p (x ∷ xs) ys within = step (p x) (position_or_len p (xs ++ ys)) (position_or_len p xs) (length xs) (place-append p xs ys) within

at_place : {A : Type 0} (p : A → Bool) (xs : List A) (k : ℕ) → position_or_len p xs ≡ k → k < length xs → position p xs ≡ Some k
at_place p xs k place within =
    let below : nat_lt k (length xs) ≡ true = grind (arith, nat_tests) in
    ap (λ i. cond (nat_lt i (length xs)) (Some i) None) place ∙ ap (λ b. cond b (Some k) None) below

-- where a place is found, it is the first, and where none is, all are passed
place_found : {A : Type 0} (p : A → Bool) (xs : List A) (k : ℕ) → position p xs ≡ Some k → (position_or_len p xs ≡ k) × (k < length xs)
place_found p xs k e =
    ⊎_elim
    (λ y. let place : position_or_len p xs ≡ k = some_inj (ap (λ b. cond b (Some (position_or_len p xs)) None) (sym y) ∙ e) in
    (place, subst (λ i. i < length xs) place (below_from (position_or_len p xs) (length xs) y)))
    (λ n. let never : None ≡ Some k = ap (λ b. cond b (Some (position_or_len p xs)) None) (sym n) ∙ e in cc)
    (cases_Bool (nat_lt (position_or_len p xs) (length xs)))
  where
    some_inj : {i j : ℕ} → Some i ≡ Some j → i ≡ j
    some_inj h = cc

    below_from : (i n : ℕ) → nat_lt i n ≡ true → i < n
    below_from i n y = grind (arith, nat_tests)

none_found : {A : Type 0} (p : A → Bool) (xs : List A) → position p xs ≡ None → position_or_len p xs ≡ length xs
none_found p xs e =
    ⊎_elim
    (λ y. let never : Some (position_or_len p xs) ≡ None = ap (λ b. cond b (Some (position_or_len p xs)) None) (sym y) ∙ e in cc)
    (λ n. not_below (position_or_len p xs) (length xs) (prefix_len-le-length (λ x. not (p x)) xs) n)
    (cases_Bool (nat_lt (position_or_len p xs) (length xs)))
  where
    not_below : (i n : ℕ) → i ≤ n → nat_lt i n ≡ false → i ≡ n
    not_below i n at_most test = grind (arith, nat_tests)

-- a name keeps its number
pub number_in-kept : (names : List (List ℕ)) (added name : List ℕ) (k : ℕ) → number_in names name ≡ Some k → number_in (with_name names added) name ≡ Some k
number_in-kept names added name k found =
    by_presence (λ l. number_in l name ≡ Some k) names added found
    (λ _. let p = bytes_eq name in
    let first : (position_or_len p names ≡ k) × (k < length names) = place_found p names k found in
    at_place p (names ++ added ∷ []) k
    (place-append p names (added ∷ []) (subst (λ i. i < length names) (sym first.0) first.1) ∙ first.0)
    (omega (arith, length-append names (added ∷ []), first.1)))

-- a new name has the next number
pub number_in-new : (names : List (List ℕ)) (name : List ℕ) → number_in names name ≡ None → number_in (with_name names name) name ≡ Some (length names)
number_in-new names name absent =
    let p = bytes_eq name in
    let all : position_or_len p names ≡ length names = none_found p names absent in
    let own : p name ≡ true = nat_list_eq_equiv.refl name in
    let last : with_name names name ≡ names ++ name ∷ [] = ap (λ o. if is_some o then names else names ++ name ∷ []) absent in
    let same : nat_eq (position_or_len p names) (length names) ≡ true = grind (arith, nat_tests, all) in
    let place : position_or_len p (names ++ name ∷ []) ≡ length names =
    position_or_len_push p names name ∙ ap (λ b. cond b (length names + cond (p name) 0 1) (position_or_len p names)) same
    ∙ ap (λ b. length names + cond b 0 1) own ∙ omega arith in
    ap (λ l. number_in l name) last ∙ at_place p (names ++ name ∷ []) (length names) place (omega (arith, length-append names (name ∷ [])))

-- the names so far stay in their places
pub slice_get-kept : (names : List (List ℕ)) (added name : List ℕ) (k : ℕ) → slice_get names k ≡ Some name → slice_get (with_name names added) k ≡ Some name
slice_get-kept names added name k there = by_presence (λ l. slice_get l k ≡ Some name) names added there (λ _. kept names k there)
  where
    kept : (ns : List (List ℕ)) (i : ℕ) → slice_get ns i ≡ Some name → slice_get (ns ++ added ∷ []) i ≡ Some name
    kept [] i h = cc
    kept (n ∷ ns) zero h = h
    kept (n ∷ ns) (suc i) h = kept ns i h

-- and there are no fewer
pub length-le-with_name : (names : List (List ℕ)) (added : List ℕ) → length names ≤ length (with_name names added)
length-le-with_name names added = by_presence (λ l. length names ≤ length l) names added (omega arith) (λ _. omega (arith, length-append names (added ∷ [])))
