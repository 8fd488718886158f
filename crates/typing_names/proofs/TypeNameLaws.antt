-- The names of types one after another, and the types above them from the last that is listed to the first.
use Rattle.std.proofs.Common.{◌≡◌, ◌≢◌, ℕ, ◌+◌, ◌-◌, ◌<◌, ◌≤◌, suc, Bool, true, false, List, [], ◌∷◌, ◌++◌, length, get_or, take, drop, set, map, replicate, Option, Some, None, arith, refl, sym, ◌∙◌, ap, subst}
use Rattle.std.specs.Prelude.{if◌then◌else◌, unwrap_or, bytes_eq, slice_get}
use Rattle.std.specs.List.{flat_map}
use Rattle.std.proofs.Math.Seq.{drop-cons}
use Rattle.std.proofs.lemmas.Simd.{map-map}
use Rattle.std.proofs.lemmas.List.{ext_get_or, get_or-map, length-set, get_or-set_same, get_or-set_other, length-map, take_more, take_all, map-append, append-nil}
use Rattle.std.proofs.lemmas.List.Concat.{flat_map-append}
use Rattle.std.proofs.lemmas.List.Quantifiers.{position-Some}
use Rattle.std.proofs.lemmas.Option.{slice_get-get_or, get_or_from_slice_get, slice_get_within}
use Rattle.std.proofs.lemmas.Slice.Eq.{bytes_eq-Decides}
use Rattle.name_table.specs.NameTable.{number_in, with_name, AreDistinct}
use Rattle.hierarchy.specs.Hierarchy.{IsHierarchy, parent_of}
use Rattle.pddl_form.specs.declared.spot.Spot.{Spot}
use Rattle.pddl_form.specs.declared.typed.Typed.{Typed}
use Rattle.pddl_form.proofs.Loops.{map-take}
use Rattle.pddl_task.specs.declared.declared.TypeName.{TypeName}
use Rattle.pddl_task.specs.Task.{names_of, parents}
use Rattle.typing_uses.specs.Scope.{texts, sighted}
use Rattle.typing_names.specs.Domain.{object_name, listed_under, supertype_of, type_called, type_names, types_in}
use Rattle.typing_names.specs.TypeNames.{number_above, parent_in}
use Rattle.typing_names.proofs.Declaring.{sighted-last}

-- ---- names one after another

pub one_more_sighted : (spots : List Spot) (i : ℕ) (s : Spot) (seen now next : List (List ℕ)) (text : List ℕ)
    → now ≡ sighted seen (texts (take i spots)) → i < length spots → s ≡ get_or spots i s → text ≡ s.text → next ≡ with_name now text → next ≡ sighted seen (texts (take (i + 1) spots))
one_more_sighted spots i s seen now next text is within at same added =
    added ∙ ap (with_name now) same ∙ ap (λ (names : List (List ℕ)). with_name names s.text) is ∙ sym (sighted-last seen (texts (take i spots)) s.text)
    ∙ ap (sighted seen) (sym (map-take (λ (x : Spot). x.text) spots i s within at))

sighted-append : (seen names more : List (List ℕ)) → sighted seen (names ++ more) ≡ sighted (sighted seen names) more
sighted-append seen [] more = refl
sighted-append seen (n ∷ names) more = sighted-append (with_name seen n) names more

-- the words of one that is listed
abbrev words : Typed → List (List ℕ)
words t = t.name.text ∷ texts t.types

words-take : (types : List Typed) (i : ℕ) (t : Typed) → i < length types → t ≡ get_or types i t → flat_map words (take (i + 1) types) ≡ flat_map words (take i types) ++ words t
words-take types i t within at =
    ap (flat_map words) (take_more types i t within) ∙ flat_map-append words (take i types) (get_or types i t ∷ []) ∙ ap (λ (s : Typed). flat_map words (take i types) ++ flat_map words (s ∷ [])) (sym at)
    ∙ ap (λ (l : List (List ℕ)). flat_map words (take i types) ++ l) (flat_single t)
  where
    flat_single : (s : Typed) → flat_map words (s ∷ []) ≡ words s
    flat_single s = append-nil (words s)

-- the types by first sight, of the first i that are listed
abbrev pub names_so_far : List Typed → ℕ → List (List ℕ)
names_so_far types i = sighted (object_name ∷ []) (flat_map (λ t. t.name.text ∷ texts t.types) (take i types))

pub one_more_type : (types : List Typed) (i : ℕ) (t : Typed) (now mid next : List (List ℕ)) (text : List ℕ) (spots : List Spot)
    → now ≡ names_so_far types i → i < length types → t ≡ get_or types i t → text ≡ t.name.text → mid ≡ with_name now text → spots ≡ t.types → next ≡ sighted mid (texts spots)
    → next ≡ names_so_far types (i + 1)
one_more_type types i t now mid next text spots is within at same added same_spots more =
    more ∙ ap (λ (ss : List Spot). sighted mid (texts ss)) same_spots
    ∙ ap (λ (names : List (List ℕ)). sighted names (texts t.types)) (added ∙ ap (with_name now) same ∙ ap (λ (names : List (List ℕ)). with_name names t.name.text) is)
    ∙ sym (sighted-append (object_name ∷ []) (flat_map words (take i types)) (words t))
    ∙ ap (sighted (object_name ∷ [])) (sym (words-take types i t within at))

pub all_types : (types : List Typed) (i : ℕ) (now : List (List ℕ)) → now ≡ names_so_far types i → length types ≤ i → now ≡ type_names types
all_types types i now is whole = is ∙ ap (λ (ts : List Typed). sighted (object_name ∷ []) (flat_map words ts)) (take_all i types whole)

-- ---- the number of the type above

same_map : {A B : Type 0} (f g : A → B) (xs : List A) → ((x : A) → f x ≡ g x) → map f xs ≡ map g xs
same_map f g [] same = refl
same_map {B = B} f g (x ∷ xs) same = ap (λ (y : B). y ∷ map f xs) (same x) ∙ ap (λ (ys : List B). g x ∷ ys) (same_map f g xs same)

-- in a list of distinct names, the place of a name is its number
place_is_number : (names : List (List ℕ)) (name : List ℕ) (k : ℕ) → AreDistinct names → k < length names → bytes_eq name (get_or names k []) ≡ true → number_in names name ≡ Some k
place_is_number names name k distinct within same =
    ap (number_in names) ((bytes_eq-Decides name (get_or names k [])).0 same) ∙ distinct.own_number k (get_or names k []) (slice_get-get_or names k [] within)

-- what is written for one name, and kept for the others
abbrev written : List ℕ → ℕ → (List ℕ → ℕ) → List ℕ → ℕ
written name v f other = if bytes_eq name other then v else f other

kept : (names : List (List ℕ)) (name : List ℕ) (f : List ℕ → ℕ) (v : ℕ) → AreDistinct names → number_in names name ≡ None → map f names ≡ map (written name v f) names
kept names name f v distinct none =
    ext_get_or 0 (map f names) (map (written name v f) names) (length-map names f ∙ sym (length-map names (written name v f)))
    (λ k within. let here : k < length names = subst (λ n. k < n) (length-map names f) within in
    get_or-map f names k [] 0 here ∙ by_test k here (bytes_eq name (get_or names k [])) refl ∙ sym (get_or-map (written name v f) names k [] 0 here))
  where
    by_test : (k : ℕ) → k < length names → (b : Bool) → bytes_eq name (get_or names k []) ≡ b → f (get_or names k []) ≡ written name v f (get_or names k [])
    by_test k here true same = absurd (cc (sym none ∙ place_is_number names name k distinct here same))
    by_test k here false other = ap (λ (b : Bool). if b then v else f (get_or names k [])) (sym other)

put : (names : List (List ℕ)) (name : List ℕ) (f : List ℕ → ℕ) (v n : ℕ) → AreDistinct names → number_in names name ≡ Some n → set (map f names) n v ≡ map (written name v f) names
put names name f v n distinct found =
    ext_get_or 0 (set (map f names) n v) (map (written name v f) names) (length-set (map f names) n v ∙ length-map names f ∙ sym (length-map names (written name v f)))
    (λ k within. let here : k < length names = subst (λ m. k < m) (length-set (map f names) n v ∙ length-map names f) within in
    by_test k here (bytes_eq name (get_or names k [])) refl ∙ sym (get_or-map (written name v f) names k [] 0 here))
  where
    by_test : (k : ℕ) → k < length names → (b : Bool) → bytes_eq name (get_or names k []) ≡ b → get_or (set (map f names) n v) k 0 ≡ written name v f (get_or names k [])
    by_test k here true same =
        let at : n ≡ k = cc (sym found ∙ place_is_number names name k distinct here same) in
        ap (λ (m : ℕ). get_or (set (map f names) m v) k 0) at ∙ get_or-set_same (map f names) k v 0 (subst (λ m. k < m) (sym (length-map names f)) here)
        ∙ ap (λ (b : Bool). if b then v else f (get_or names k [])) (sym same)
    by_test k here false other =
        let elsewhere : k ≢ n = λ at. cc (sym other ∙ ap (λ (m : ℕ). bytes_eq name (get_or names m [])) at ∙ (position-Some (bytes_eq name) names n [] found).1) in
        get_or-set_other (map f names) n k v 0 elsewhere ∙ get_or-map f names k [] 0 here ∙ ap (λ (b : Bool). if b then v else f (get_or names k [])) (sym other)

-- a type more, in front of those that are listed
one_more_parent : (t : Typed) (types : List Typed) (names : List (List ℕ)) (name : List ℕ) → written t.name.text (number_above names t.types) (parent_in types names) name ≡ parent_in (t ∷ types) names name
one_more_parent t types names name = by_test (bytes_eq t.name.text name)
  where
    by_test : (b : Bool) → (if b then number_above names t.types else parent_in types names name) ≡ unwrap_or (number_in names (if b then listed_under t.types else supertype_of types name)) 0
    by_test true = refl
    by_test false = refl

pub parent_kept : (names : List (List ℕ)) (t : Typed) (text : List ℕ) (found : Option ℕ) (old : List ℕ) → AreDistinct names → text ≡ t.name.text → found ≡ number_in names text → found ≡ None
    → (types : List Typed) → old ≡ map (parent_in types names) names → old ≡ map (parent_in (t ∷ types) names) names
parent_kept names t text found old distinct same looked none types is =
    is ∙ kept names t.name.text (parent_in types names) (number_above names t.types) distinct (sym (looked ∙ ap (number_in names) same) ∙ none)
    ∙ same_map (written t.name.text (number_above names t.types) (parent_in types names)) (parent_in (t ∷ types) names) names (one_more_parent t types names)

pub parent_put : (names : List (List ℕ)) (t : Typed) (text : List ℕ) (spots : List Spot) (found : Option ℕ) (old new : List ℕ) (n v : ℕ)
    → AreDistinct names → text ≡ t.name.text → found ≡ number_in names text → found ≡ Some n → spots ≡ t.types → v ≡ number_above names spots → new ≡ set old n v
    → (types : List Typed) → old ≡ map (parent_in types names) names → new ≡ map (parent_in (t ∷ types) names) names
parent_put names t text spots found old new n v distinct same looked some same_spots above stored types is =
    stored ∙ ap (λ (l : List ℕ). set l n v) is ∙ ap (set (map (parent_in types names) names) n) (above ∙ ap (number_above names) same_spots)
    ∙ put names t.name.text (parent_in types names) (number_above names t.types) n distinct (sym (looked ∙ ap (number_in names) same) ∙ some)
    ∙ same_map (written t.name.text (number_above names t.types) (parent_in types names)) (parent_in (t ∷ types) names) names (one_more_parent t types names)

-- ---- from the last to the first

replicate-map : {A : Type 0} (xs : List A) (v : ℕ) → replicate (length xs) v ≡ map (λ x. v) xs
replicate-map [] v = refl
replicate-map (x ∷ xs) v = ap (λ l. v ∷ l) (replicate-map xs v)

-- the parents by the last so many that are listed
pub record AreParents (types : List Typed) (passed : ℕ) (names : List (List ℕ)) (now : List ℕ) : Type 0 where
  pub are : now ≡ map (parent_in (drop (length types - passed) types) names) names

drop-whole : (types : List Typed) → drop (length types) types ≡ []
drop-whole [] = refl
drop-whole (t ∷ types) = drop-whole types

pub no_parents : (types : List Typed) (names : List (List ℕ)) (spots : List Spot) (root count : ℕ) (now : List ℕ)
    → spots ≡ [] → root ≡ number_above names spots → count ≡ length names → now ≡ replicate count root → AreParents types 0 names now
no_parents types names spots root count now none is many made = record {
  are =
      made ∙ ap (λ (n : ℕ). replicate n root) many ∙ replicate-map names root
      ∙ same_map (λ _. root) (parent_in (drop (length types - 0) types) names) names
      (λ name. is ∙ ap (number_above names) none ∙ ap (λ (ts : List Typed). parent_in ts names name) (sym (ap (λ (n : ℕ). drop n types) (omega arith) ∙ drop-whole types)));
}

pub one_more_passed : (types : List Typed) (passed at : ℕ) (t : Typed) (names : List (List ℕ)) (old new : List ℕ)
    → AreParents types passed names old → passed < length types → at ≡ length types - passed - 1 → t ≡ get_or types at t
    → ((ts : List Typed) → old ≡ map (parent_in ts names) names → new ≡ map (parent_in (t ∷ ts) names) names) → AreParents types (passed + 1) names new
one_more_passed types passed at t names old new h within place is step =
    let here : at < length types = omega arith in
    let first : drop (length types - (passed + 1)) types ≡ t ∷ drop (length types - passed) types =
    ap (λ (n : ℕ). drop n types) (let e : length types - (passed + 1) ≡ at = omega arith in e) ∙ drop-cons types at t here ∙ ap (λ (x : Typed). x ∷ drop (suc at) types) (sym is)
    ∙ ap (λ (n : ℕ). t ∷ drop n types) (let e : suc at ≡ length types - passed = omega arith in e) in
    record { are = step (drop (length types - passed) types) h.are ∙ ap (λ (ts : List Typed). map (parent_in ts names) names) (sym first) }

pub all_passed : (types : List Typed) (passed : ℕ) (names : List (List ℕ)) (now : List ℕ) → AreParents types passed names now → length types ≤ passed → now ≡ map (parent_in types names) names
all_passed types passed names now h whole =
    h.are ∙ ap (λ (n : ℕ). map (parent_in (drop n types) names) names) (let e : length types - passed ≡ 0 = omega arith in e)

-- ---- types from their names and parents

types_from : (types : List TypeName) (f : List ℕ → ℕ) (g : List ℕ → TypeName) → ((name : List ℕ) → record { name = name; parent = f name } ≡ g name)
    → parents types ≡ map f (names_of types) → types ≡ map g (names_of types)
types_from [] f g same is = refl
types_from (t ∷ types) f g same is =
    let head : t.parent ≡ f t.name = cc is in
    let rest : parents types ≡ map f (names_of types) = cc is in
    let first : t ≡ g t.name = ap (λ (p : ℕ). let s : TypeName = record { name = t.name; parent = p } in s) head ∙ same t.name in
    ap (λ (s : TypeName). s ∷ types) first ∙ ap (λ (l : List TypeName). g t.name ∷ l) (types_from types f g same rest)

pub are_types : (types : List Typed) (names : List (List ℕ)) (above : List ℕ) (made : List TypeName)
    → names ≡ type_names types → above ≡ map (parent_in types names) names → names_of made ≡ names → parents made ≡ above → made ≡ types_in types
are_types types names above made is found named parented =
    types_from made (parent_in types names) (type_called types names) (λ name. refl) (parented ∙ found ∙ ap (map (parent_in types names)) (sym named))
    ∙ ap (map (type_called types names)) named ∙ ap (λ (ns : List (List ℕ)). map (type_called types ns) ns) is

pub are_parents : (types : List Typed) (names : List (List ℕ)) (above : List ℕ) → names ≡ type_names types → above ≡ map (parent_in types names) names → above ≡ parents (types_in types)
are_parents types names above is found =
    found ∙ ap (λ (ns : List (List ℕ)). map (parent_in types ns) ns) is ∙ sym (map-map (λ (t : TypeName). t.parent) (type_called types (type_names types)) (type_names types))

-- ---- a hierarchy

pub number_within : (names : List (List ℕ)) (name : List ℕ) → 0 < length names → unwrap_or (number_in names name) 0 < length names
number_within names name some = by_case (number_in names name) refl
  where
    by_case : (found : Option ℕ) → number_in names name ≡ found → unwrap_or found 0 < length names
    by_case None is = some
    by_case (Some n) is = (position-Some (bytes_eq name) names n [] is).0

pub is_hierarchy : (types : List Typed) (names : List (List ℕ)) (above : List ℕ) → above ≡ map (parent_in types names) names → IsHierarchy above
is_hierarchy types names above is k within =
    let same : length above ≡ length names = ap length is ∙ length-map names (parent_in types names) in
    let here : k < length names = omega arith in
    let value : parent_of above k ≡ parent_in types names (get_or names k []) = ap (λ (l : List ℕ). get_or l k 0) is ∙ get_or-map (parent_in types names) names k [] 0 here in
    let small : parent_in types names (get_or names k []) < length names = number_within names (supertype_of types (get_or names k [])) (omega arith) in
    omega arith

-- ---- the list of types

-- one more of each
pub one_more_named : (types : List TypeName) (names : List (List ℕ)) (above : List ℕ) (t : ℕ) (name said : List ℕ) (parent : ℕ) (one : TypeName) (new : List TypeName)
    → names_of types ≡ take t names → parents types ≡ take t above → slice_get names t ≡ Some name → t < length above → parent ≡ get_or above t 0
    → one ≡ (record { name = said; parent = parent }) → said ≡ name → new ≡ types ++ one ∷ [] → (names_of new ≡ take (t + 1) names) × (parents new ≡ take (t + 1) above)
one_more_named types names above t name said parent one new named parented at within under is same added = (
  ap names_of added ∙ map-append (λ (x : TypeName). x.name) types (one ∷ []) ∙ ap (λ (l : List (List ℕ)). l ++ one.name ∷ []) named
      ∙ ap (λ (n : List ℕ). take t names ++ n ∷ []) (ap (λ (x : TypeName). x.name) is ∙ same ∙ sym (get_or_from_slice_get names t name [] at)) ∙ sym (take_more names t [] (slice_get_within names t name at)),
  ap parents added ∙ map-append (λ (x : TypeName). x.parent) types (one ∷ []) ∙ ap (λ (l : List ℕ). l ++ one.parent ∷ []) parented
      ∙ ap (λ (n : ℕ). take t above ++ n ∷ []) (ap (λ (x : TypeName). x.parent) is ∙ under) ∙ sym (take_more above t 0 within),
)
