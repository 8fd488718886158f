-- Names with their first places, one more at a time.
use Rattle.std.proofs.Common.{◌≡◌, ℕ, ◌+◌, ◌<◌, ◌≤◌, ◌==◌, nat_lt, inl, inr, Bool, true, false, not, cond, List, [], ◌∷◌, ◌++◌, length, get_or, take, map, Option, Some, None, is_some, slice_get, if◌then◌else◌, refl, sym, ◌∙◌, ap, subst, arith}
use Rattle.std.proofs.lemmas.Bool.{cases_lt}
use Rattle.std.proofs.lemmas.Bool.Decides.{nat_tests}
use Rattle.std.proofs.lemmas.List.{length_push, get_or_append_left, get_or_push, map_more, length-map, length-take-le}
use Rattle.std.proofs.lemmas.List.Folds.{position_or_len_push}
use Rattle.std.proofs.lemmas.List.Sums.{prefix_len-le-length}
use Rattle.std.proofs.lemmas.List.Quantifiers.{position-Some}
use Rattle.std.proofs.lemmas.Option.{same_Some, slice_get_cases, slice_get-get_or, slice_get_within}
use Rattle.std.proofs.lemmas.Slice.Eq.{bytes_eq-Decides}
use Rattle.std.specs.List.{position_or_len}
use Rattle.std.specs.Option.{option_map}
use Rattle.std.specs.Str.{bytes_eq}
use Rattle.name_table.specs.NameTable.{number_in, with_name}
use Rattle.pddl_form.specs.Gather.{push}
use Rattle.plan_text.specs.declared.numbers.Numbers.{Numbers}
use Rattle.plan_text.specs.inside.Numbering.{place_by, place_in, IsNumbering}

-- where no name in front is the one, a further name that is has the number
abbrev or_last : Option ℕ → Bool → ℕ → Option ℕ
or_last q b n = if is_some q then q else (if b then Some n else None)

abbrev found_at : ℕ → ℕ → Option ℕ
found_at i n = cond (nat_lt i n) (Some i) None

found_push : (i n : ℕ) (b : Bool) → i ≤ n → found_at (cond (i == n) (n + cond b 0 1) i) (n + 1) ≡ or_last (found_at i n) b n
found_push i n true most = elim (cases_lt i n) [
  | inl below ↦ grind (arith, nat_tests)
  | inr same ↦ grind (arith, nat_tests)
]
found_push i n false most = elim (cases_lt i n) [
  | inl below ↦ grind (arith, nat_tests)
  | inr same ↦ grind (arith, nat_tests)
]

pub number_in-push : (names : List (List ℕ)) (last name : List ℕ) → number_in (push names last) name ≡ or_last (number_in names name) (bytes_eq name last) (length names)
number_in-push names last name =
    let p : List ℕ → Bool = bytes_eq name in
    ap (λ (i : ℕ). found_at i (length (names ++ last ∷ []))) (position_or_len_push p names last)
    ∙ ap (λ (n : ℕ). found_at (cond (position_or_len p names == length names) (length names + cond (p last) 0 1) (position_or_len p names)) n) (length_push names last)
    ∙ found_push (position_or_len p names) (length names) (p last) (prefix_len-le-length (λ x. not (p x)) names)

slice_get-push : (xs : List ℕ) (y k f : ℕ) → slice_get xs k ≡ Some f → slice_get (xs ++ y ∷ []) k ≡ Some f
slice_get-push xs y k f is =
    let within = slice_get_within xs k f is in
    slice_get-get_or (xs ++ y ∷ []) k 0 (omega (arith, within, length_push xs y)) ∙ ap Some (get_or_append_left xs (y ∷ []) 0 k within) ∙ sym (slice_get-get_or xs k 0 within) ∙ is

slice_get-last : (xs : List ℕ) (y : ℕ) → slice_get (xs ++ y ∷ []) (length xs) ≡ Some y
slice_get-last xs y = slice_get-get_or (xs ++ y ∷ []) (length xs) 0 (omega (arith, length_push xs y)) ∙ ap Some (get_or_push xs y 0 (length xs) refl)

-- a name that the table has keeps its place
known_place : (firsts : List ℕ) (o q : Option ℕ) (b : Bool) (n : ℕ) → place_by firsts o ≡ q → ((k : ℕ) → o ≡ Some k → k < length firsts) → (b ≡ true → is_some o ≡ true) → place_by firsts o ≡ or_last q b n
known_place firsts None q true n same within known = absurd (cc (known refl))
known_place firsts None q false n same within known = ap (λ (x : Option ℕ). or_last x false n) same
known_place firsts (Some k) q b n same within known =
    let f : ℕ = get_or firsts k 0 in
    let there : slice_get firsts k ≡ Some f = slice_get-get_or firsts k 0 (within k refl) in
    there ∙ ap (λ (x : Option ℕ). or_last x b n) (sym there ∙ same)

-- a name that is new has the next
new_place : (firsts : List ℕ) (o q : Option ℕ) (b : Bool) (n l : ℕ) → place_by firsts o ≡ q → ((k : ℕ) → o ≡ Some k → k < length firsts) → l ≡ length firsts
    → place_by (firsts ++ n ∷ []) (or_last o b l) ≡ or_last q b n
new_place firsts None q true n l same within last = ap (λ (i : ℕ). slice_get (firsts ++ n ∷ []) i) last ∙ slice_get-last firsts n ∙ ap (λ (x : Option ℕ). or_last x true n) same
new_place firsts None q false n l same within last = ap (λ (x : Option ℕ). or_last x false n) same
new_place firsts (Some k) q b n l same within last =
    let f : ℕ = get_or firsts k 0 in
    let there : slice_get firsts k ≡ Some f = slice_get-get_or firsts k 0 (within k refl) in
    slice_get-push firsts n k f there ∙ ap (λ (x : Option ℕ). or_last x b n) (sym there ∙ same)

number_within : (names : List (List ℕ)) (firsts : List ℕ) (name : List ℕ) → length names ≡ length firsts → (k : ℕ) → number_in names name ≡ Some k → k < length firsts
number_within names firsts name same k is = let found = position-Some (bytes_eq name) names k [] is in omega (arith, found.0, same)

known_first : (names : List (List ℕ)) (old : Numbers) (last : List ℕ) → is_some (number_in old.names last) ≡ true → IsNumbering names old → (name : List ℕ) → place_in old name ≡ number_in (push names last) name
known_first names old last known n name =
    known_place old.firsts (number_in old.names name) (number_in names name) (bytes_eq name last) (length names) (n.first name)
    (number_within old.names old.firsts name n.same_len)
    (λ same. ap (λ (l : List ℕ). is_some (number_in old.names l)) ((bytes_eq-Decides name last).0 same) ∙ known)
    ∙ sym (number_in-push names last name)

pub numbering_known : (names : List (List ℕ)) (old new : Numbers) (last : List ℕ) → is_some (number_in old.names last) ≡ true → new.names ≡ with_name old.names last → new.firsts ≡ old.firsts
    → IsNumbering names old → IsNumbering (push names last) new
numbering_known names old new last known same_names same_firsts n =
    let kept : new.names ≡ old.names = same_names ∙ ap (λ (b : Bool). if b then old.names else old.names ++ last ∷ []) known in
    record {
      same_len = ap length kept ∙ n.same_len ∙ sym (ap length same_firsts);
      few = omega (arith, ap length kept, n.few, length_push names last);
      first = λ name.
          ap (λ (firsts : List ℕ). place_by firsts (number_in new.names name)) same_firsts
          ∙ ap (λ (table : List (List ℕ)). place_by old.firsts (number_in table name)) kept
          ∙ known_first names old last known n name;
    }

pub numbering_new : (names : List (List ℕ)) (old new : Numbers) (last : List ℕ) (place : ℕ) → is_some (number_in old.names last) ≡ false → new.names ≡ with_name old.names last → new.firsts ≡ old.firsts ++ place ∷ []
    → place ≡ length names → IsNumbering names old → IsNumbering (push names last) new
numbering_new names old new last place unknown more_names more_firsts is n =
    let grown : new.names ≡ push old.names last = more_names ∙ ap (λ (b : Bool). if b then old.names else old.names ++ last ∷ []) unknown in
    let longer : length new.names ≡ length old.names + 1 = ap length grown ∙ length_push old.names last in
    record {
      same_len = omega (arith, longer, n.same_len, ap length more_firsts, length_push old.firsts place);
      few = omega (arith, longer, n.few, length_push names last);
      first = λ name.
          ap (λ (firsts : List ℕ). place_by firsts (number_in new.names name)) more_firsts
          ∙ ap (λ (table : List (List ℕ)). place_by (old.firsts ++ place ∷ []) (number_in table name)) grown
          ∙ ap (place_by (old.firsts ++ place ∷ [])) (number_in-push old.names last name)
          ∙ new_place old.firsts (number_in old.names name) (number_in names name) (bytes_eq name last) place (length old.names) (n.first name) (number_within old.names old.firsts name n.same_len) n.same_len
          ∙ ap (or_last (number_in names name) (bytes_eq name last)) is
          ∙ sym (number_in-push names last name);
    }

-- the names of the first i of some things, and of one more
names_next : {X : Type 0} (name_of : X → List ℕ) (all : List X) (i : ℕ) (name : List ℕ) → option_map name_of (slice_get all i) ≡ Some name → map name_of (take (i + 1) all) ≡ push (map name_of (take i all)) name
names_next name_of all i name is = elim (slice_get_cases all i).1 [
  | inl (x, within, there, got) ↦
      let named : name_of x ≡ name = same_Some (name_of x) name (ap (option_map name_of) (sym there) ∙ is) in
      map_more name_of all i x within ∙ ap (λ (l : List ℕ). map name_of (take i all) ++ l ∷ []) (ap name_of got ∙ named)
  | inr (past, none) ↦ let never : None ≡ Some name = ap (option_map name_of) (sym none) ∙ is in cc
]

pub numbering_next : {X : Type 0} (name_of : X → List ℕ) (all : List X) (i : ℕ) (name : List ℕ) (new : Numbers) → i < length all → option_map name_of (slice_get all i) ≡ Some name
    → (i ≡ length (map name_of (take i all)) → IsNumbering (push (map name_of (take i all)) name) new) → IsNumbering (map name_of (take (i + 1) all)) new
numbering_next name_of all i name new within is more =
    subst (λ (names : List (List ℕ)). IsNumbering names new) (sym (names_next name_of all i name is))
    (more (sym (length-map (take i all) name_of ∙ length-take-le i all (omega (arith, within)))))
