-- Numbers of names, by the keys of the program's set.
use Rattle.std.proofs.Common.{◌≡◌, ℕ, suc, ◌+◌, ◌<◌, Bool, true, false, not, cond, ◌||◌, nat_lt, List, [], ◌∷◌, ◌++◌, length, map, get_or, position, Option, Some, None, is_some, slice_get, if◌then◌else◌, String, string_bytes, refl, sym, ap, subst, ◌∙◌, arith}
use Rattle.std.proofs.lemmas.Option.{slice_get_within, get_or_from_slice_get}
use Rattle.std.proofs.lemmas.List.{map-append}
use Rattle.std.proofs.lemmas.List.Sums.{position_or_len_is}
use Rattle.std.proofs.lemmas.Map.Keys.{apart_from_distinct}
use Rattle.std.proofs.lemmas.Bool.Decides.{nat_tests}
use Rattle.std.specs.Cmp.Lexicographic.{nat_list_eq_equiv}
use Rattle.std.specs.List.{AllByRecursion, IsDistinct, list_any, position_or_len}
use Rattle.std.specs.String.{string_eq}
use Rattle.std.specs.Str.{bytes_eq}
use Rattle.indexmap.specs.IndexSet.{insert_key}
use Rattle.name_table.specs.NameTable.{number_in, with_name, AreDistinct}

-- the first place that passes, of the images and of what they are images of
pub position_or_len-map : {A B : Type 0} (f : A → B) (p : B → Bool) (xs : List A) → position_or_len p (map f xs) ≡ position_or_len (λ x. p (f x)) xs
position_or_len-map f p [] = refl
position_or_len-map f p (x ∷ xs) = ap (λ n. cond (not (p (f x))) (1 + n) 0) (position_or_len-map f p xs)

pub length-map_of : {A B : Type 0} (f : A → B) (xs : List A) → length (map f xs) ≡ length xs
length-map_of f [] = refl
length-map_of f (x ∷ xs) = ap (λ n. suc n) (length-map_of f xs)

pub position-map : {A B : Type 0} (f : A → B) (p : B → Bool) (xs : List A) → position p (map f xs) ≡ position (λ x. p (f x)) xs
position-map f p xs = rw (position_or_len-map f p xs, length-map_of f xs) refl

-- a place passes exactly where an element does
below_cons : (b : Bool) (i n : ℕ) → nat_lt (cond (not b) (1 + i) 0) (suc n) ≡ (b || nat_lt i n)
below_cons true i n = grind (arith, nat_tests)
below_cons false i n = grind (arith, nat_tests)

is_some-cond : {A : Type 0} (b : Bool) (x : A) → is_some (cond b (Some x) None) ≡ b
is_some-cond true x = refl
is_some-cond false x = refl

place_below : {A : Type 0} (p : A → Bool) (xs : List A) → nat_lt (position_or_len p xs) (length xs) ≡ list_any p xs
place_below p [] = refl
place_below p (x ∷ xs) = below_cons (p x) (position_or_len p xs) (length xs) ∙ ap (λ b. p x || b) (place_below p xs)

pub is_some-position : {A : Type 0} (p : A → Bool) (xs : List A) → is_some (position p xs) ≡ list_any p xs
is_some-position p xs = is_some-cond (nat_lt (position_or_len p xs) (length xs)) (position_or_len p xs) ∙ place_below p xs

-- what a look-up by bytes among the keys of a set finds is the number among the names that it is seen as
pub number_in-keys : {Y : Type 0} (keys : List (String Y)) (names : List (List ℕ)) (name : List ℕ) (found : Option ℕ) → map string_bytes keys ≡ names
    → found ≡ position (λ k. bytes_eq name (string_bytes k)) keys → found ≡ number_in names name
number_in-keys keys names name found seen looked = looked ∙ sym (position-map string_bytes (bytes_eq name) keys) ∙ ap (λ ns. number_in ns name) seen

-- and there is one exactly where a key has the bytes
pub has_number-keys : {Y : Type 0} (keys : List (String Y)) (names : List (List ℕ)) (name : List ℕ) → map string_bytes keys ≡ names
    → list_any (λ k. bytes_eq name (string_bytes k)) keys ≡ is_some (number_in names name)
has_number-keys keys names name seen = sym (is_some-position (λ k. bytes_eq name (string_bytes k)) keys) ∙ ap is_some (number_in-keys keys names name _ seen refl)

-- a name that is there changes nothing
chosen-true : {A : Type 0} (b : Bool) (x y : A) → b ≡ true → x ≡ (if b then x else y)
chosen-true true x y e = refl
chosen-true false x y e = cc

chosen-false : {A : Type 0} (b : Bool) (x y : A) → b ≡ false → (if b then x else y) ≡ y
chosen-false true x y e = cc
chosen-false false x y e = refl

pub with_name-there : (names : List (List ℕ)) (name : List ℕ) → is_some (number_in names name) ≡ true → names ≡ with_name names name
with_name-there names name there = chosen-true (is_some (number_in names name)) names (names ++ name ∷ []) there

-- a new key goes last, with its bytes
pub with_name-new : {Y : Type 0} (keys new : List (String Y)) (names : List (List ℕ)) (name : List ℕ) (key : String Y) → map string_bytes keys ≡ names → string_bytes key ≡ name
    → list_any (λ k. bytes_eq name (string_bytes k)) keys ≡ false → new ≡ insert_key string_eq keys key → map string_bytes new ≡ with_name names name
with_name-new keys new names name key seen bytes absent inserted =
    let gone : list_any (string_eq key) keys ≡ false = subst (λ bs. list_any (λ k. bytes_eq bs (string_bytes k)) keys ≡ false) (sym bytes) absent in
    let last : new ≡ keys ++ key ∷ [] = inserted ∙ chosen-false (list_any (string_eq key) keys) keys (keys ++ key ∷ []) gone in
    let added : map string_bytes new ≡ names ++ name ∷ [] = ap (map string_bytes) last ∙ map-append string_bytes keys (key ∷ []) ∙ ap (λ ns. ns ++ string_bytes key ∷ []) seen ∙ ap (λ bs. names ++ bs ∷ []) bytes in
    added ∙ sym (chosen-false (is_some (number_in names name)) names (names ++ name ∷ []) (sym (has_number-keys keys names name seen) ∙ absent))

-- no name equals a later one
all_bytes : {Y : Type 0} (key : String Y) (keys : List (String Y)) → AllByRecursion (λ k. string_eq key k ≡ false) keys → AllByRecursion (λ bs. bytes_eq (string_bytes key) bs ≡ false) (map string_bytes keys)
all_bytes key [] all = all
all_bytes key (k ∷ keys) all = (all.0, all_bytes key keys all.1)

distinct_bytes : {Y : Type 0} (keys : List (String Y)) → IsDistinct string_eq keys → IsDistinct bytes_eq (map string_bytes keys)
unfolding IsDistinct
distinct_bytes [] distinct = distinct
distinct_bytes (key ∷ keys) distinct = (all_bytes key keys distinct.0, distinct_bytes keys distinct.1)

-- each of distinct names has its own place as its number
own_place : (names : List (List ℕ)) → IsDistinct bytes_eq names → (k : ℕ) (name : List ℕ) → slice_get names k ≡ Some name → position_or_len (bytes_eq name) names ≡ k
own_place names distinct k name there =
    let within : k < length names = slice_get_within names k name there in
    let read : get_or names k name ≡ name = get_or_from_slice_get names k name name there in
    position_or_len_is (bytes_eq name) names k name (omega arith)
    (λ j below. nat_list_eq_equiv.symm name (get_or names j name) ∙ subst (λ bs. bytes_eq (get_or names j name) bs ≡ false) read (apart_from_distinct bytes_eq names j k name distinct below within))
    (λ _. subst (λ bs. bytes_eq name bs ≡ true) (sym read) (nat_list_eq_equiv.refl name))

own_number_of : (names : List (List ℕ)) → IsDistinct bytes_eq names → (k : ℕ) (name : List ℕ) → slice_get names k ≡ Some name → number_in names name ≡ Some k
own_number_of names distinct k name there =
    let place : position_or_len (bytes_eq name) names ≡ k = own_place names distinct k name there in
    let within : k < length names = slice_get_within names k name there in
    rw place (at_place (nat_lt k (length names)) k (grind (arith, nat_tests)))
  where
    at_place : (b : Bool) (i : ℕ) → b ≡ true → cond b (Some i) None ≡ Some i
    at_place b i e = rw e refl

pub AreDistinct-keys : {Y : Type 0} (keys : List (String Y)) (names : List (List ℕ)) → map string_bytes keys ≡ names → IsDistinct string_eq keys → AreDistinct names
AreDistinct-keys keys names seen distinct = subst AreDistinct seen (record { own_number = own_number_of (map string_bytes keys) (distinct_bytes keys distinct) })
