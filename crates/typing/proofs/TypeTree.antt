-- Where no listed type is on a circle, and `object` is under no other, the types are a tree.
use Rattle.std.proofs.Common.{◌≡◌, ℕ, zero, suc, ◌<◌, ◌≤◌, Bool, true, false, List, [], ◌∷◌, ◌++◌, length, get_or, map, Option, Some, None, ◌⊎◌, inl, inr, arith, refl, sym, ◌∙◌, ap, subst}
use Rattle.std.proofs.lemmas.List.{length-map, get_or-map}
use Rattle.std.proofs.lemmas.Option.{slice_get-get_or, get_or_from_slice_get}
use Rattle.std.proofs.lemmas.Simd.{map-map}
use Rattle.std.proofs.lemmas.Slice.Eq.{bytes_eq-Decides}
use Rattle.std.proofs.lemmas.Bool.Decides.{nat_tests}
use Rattle.std.specs.Prelude.{not, ◌==◌, ◌||◌, bytes_eq, slice_get, is_some, unwrap_or, if◌then◌else◌}
use Rattle.std.specs.List.{list_any, flat_map}
use Rattle.name_table.specs.NameTable.{number_in, with_name, AreDistinct}
use Rattle.name_table.proofs.Growing.{number_in-kept, number_in-new, slice_get-kept}
use Rattle.hierarchy.specs.Hierarchy.{parent_of, chain, is_below, is_own_ancestor}
use Rattle.pddl_form.specs.declared.typed.Typed.{Typed}
use Rattle.pddl_task.specs.declared.declared.TypeName.{TypeName}
use Rattle.pddl_task.specs.Task.{parents}
use Rattle.pddl_task.specs.WellFormed.{IsTypeTree}
use Rattle.typing_uses.specs.Scope.{sighted, texts}
use Rattle.typing_uses.proofs.Good.{front_empty, rest_empty}
use Rattle.typing_names.specs.Domain.{object_name, listed_under, supertype_of, type_called, type_names, types_in}
use Rattle.typing_names.specs.TypeNames.{parent_in}
use Rattle.typing_types.specs.Types.{misfit, is_on_circle, type_faults}

-- ---- names of types: each is there once, and `object` is the first

at_last : (seen : List (List ℕ)) (added name : List ℕ) (k : ℕ) → slice_get (seen ++ added ∷ []) k ≡ Some name → (slice_get seen k ≡ Some name) ⊎ ((k ≡ length seen) × (added ≡ name))
at_last [] added name zero at = inr (refl, cc at)
at_last [] added name (suc k) at = absurd (cc at)
at_last (s ∷ seen) added name zero at = inl at
at_last (s ∷ seen) added name (suc k) at = elim (at_last seen added name k at) [ inl there ↦ inl there | inr last ↦ inr (ap suc last.0, last.1) ]

distinct_behind : (seen : List (List ℕ)) (added : List ℕ) (o : Option ℕ) → number_in seen added ≡ o → AreDistinct seen → AreDistinct (if is_some o then seen else seen ++ added ∷ [])
distinct_behind seen added (Some j) found h = h
distinct_behind seen added None none h = record {
  own_number = λ k name at.
      let grown : with_name seen added ≡ seen ++ added ∷ [] = ap (λ (o : Option ℕ). if is_some o then seen else seen ++ added ∷ []) none in
      elim (at_last seen added name k at) [
        | inl there ↦ ap (λ (names : List (List ℕ)). number_in names name) (sym grown) ∙ number_in-kept seen added name k (h.own_number k name there)
        | inr last ↦ ap (λ (names : List (List ℕ)). number_in names name) (sym grown) ∙ ap (number_in (with_name seen added)) (sym last.1) ∙ number_in-new seen added none ∙ ap Some (sym last.0)
      ];
}

distinct_sighted : (seen names : List (List ℕ)) → AreDistinct seen → AreDistinct (sighted seen names)
distinct_sighted seen [] h = h
distinct_sighted seen (name ∷ names) h = distinct_sighted (with_name seen name) names (distinct_behind seen name (number_in seen name) refl h)

object_alone : AreDistinct (object_name ∷ [])
object_alone = record { own_number = λ k name at. own k name at }
  where
    own : (k : ℕ) (name : List ℕ) → slice_get (object_name ∷ []) k ≡ Some name → number_in (object_name ∷ []) name ≡ Some k
    own zero name at = let same : object_name ≡ name = cc at in subst (λ (n : List ℕ). number_in (object_name ∷ []) n ≡ Some 0) same refl
    own (suc k) name at = absurd (cc at)

sighted_kept : (seen names : List (List ℕ)) (name : List ℕ) (k : ℕ) → number_in seen name ≡ Some k → number_in (sighted seen names) name ≡ Some k
sighted_kept seen [] name k found = found
sighted_kept seen (n ∷ names) name k found = sighted_kept (with_name seen n) names name k (number_in-kept seen n name k found)

sighted_there : (seen names : List (List ℕ)) (name : List ℕ) (k : ℕ) → slice_get seen k ≡ Some name → slice_get (sighted seen names) k ≡ Some name
sighted_there seen [] name k at = at
sighted_there seen (n ∷ names) name k at = sighted_there (with_name seen n) names name k (slice_get-kept seen n name k at)

abbrev words : List Typed → List (List ℕ)
words types = flat_map (λ t. t.name.text ∷ texts t.types) types

names_distinct : (types : List Typed) → AreDistinct (type_names types)
names_distinct types = distinct_sighted (object_name ∷ []) (words types) object_alone

object_number : (types : List Typed) → number_in (type_names types) object_name ≡ Some 0
object_number types = sighted_kept (object_name ∷ []) (words types) object_name 0 refl

object_first : (types : List Typed) → slice_get (type_names types) 0 ≡ Some object_name
object_first types = sighted_there (object_name ∷ []) (words types) object_name 0 refl

-- ---- the type above one

parents_are : (types : List Typed) → parents (types_in types) ≡ map (parent_in types (type_names types)) (type_names types)
parents_are types = map-map (λ (t : TypeName). t.parent) (type_called types (type_names types)) (type_names types)

parent_at : (types : List Typed) (t : ℕ) (name : List ℕ) → t < length (type_names types) → get_or (type_names types) t [] ≡ name → parent_of (parents (types_in types)) t ≡ parent_in types (type_names types) name
parent_at types t name within is =
    ap (λ (l : List ℕ). get_or l t 0) (parents_are types) ∙ get_or-map (parent_in types (type_names types)) (type_names types) t [] 0 within ∙ ap (parent_in types (type_names types)) is

under_object : (types : List Typed) (name : List ℕ) → supertype_of types name ≡ object_name → parent_in types (type_names types) name ≡ 0
under_object types name is = ap (λ (above : List ℕ). unwrap_or (number_in (type_names types) above) 0) is ∙ ap (λ (o : Option ℕ). unwrap_or o 0) (object_number types)

not_noted : (b : Bool) (place : ℕ) → (if b then misfit place ∷ [] else []) ≡ [] → b ≡ false
not_noted true place none = absurd (cc none)
not_noted false place none = refl

-- a type is listed, and then it is on no circle, or it is under `object`
listed_or_not : (names : List (List ℕ)) (above : List ℕ) (types : List Typed) (name : List ℕ) → flat_map (type_faults names above) types ≡ [] → (is_on_circle above (number_in names name) ≡ false) ⊎ (supertype_of types name ≡ object_name)
listed_or_not names above [] name none = inr refl
listed_or_not names above (t ∷ types) name none =
    by_test (bytes_eq t.name.text name) refl (listed_or_not names above types name (rest_empty (type_faults names above t) (flat_map (type_faults names above) types) none))
  where
    by_test : (b : Bool) → bytes_eq t.name.text name ≡ b → (is_on_circle above (number_in names name) ≡ false) ⊎ (supertype_of types name ≡ object_name)
        → (is_on_circle above (number_in names name) ≡ false) ⊎ ((if b then listed_under t.types else supertype_of types name) ≡ object_name)
    by_test true same later =
        let own : is_on_circle above (number_in names t.name.text) ≡ false =
        not_noted (is_on_circle above (number_in names t.name.text)) t.name.place (front_empty (type_faults names above t) (flat_map (type_faults names above) types) none) in
        inl (ap (λ (n : List ℕ). is_on_circle above (number_in names n)) (sym ((bytes_eq-Decides t.name.text name).0 same)) ∙ own)
    by_test false other later = later

-- ---- from `object` upwards there is nothing but `object`

chain_of_object : (above : List ℕ) (n t : ℕ) → parent_of above 0 ≡ 0 → 0 < t → list_any (λ a. a == t) (chain above n 0) ≡ false
unfolding chain
chain_of_object above zero t root below = grind (arith, nat_tests)
chain_of_object above (suc n) t root below =
    ap (λ (u : ℕ). (0 == t) || list_any (λ a. a == t) (chain above n u)) root ∙ ap (λ (b : Bool). (0 == t) || b) (chain_of_object above n t root below) ∙ other
  where
    other : ((0 == t) || false) ≡ false
    other = grind (arith, nat_tests)

not_above : (above : List ℕ) (t : ℕ) → parent_of above 0 ≡ 0 → 0 < t → parent_of above t ≡ 0 → is_own_ancestor above t ≡ false
unfolding is_own_ancestor is_below
not_above above t root below is = ap (λ (u : ℕ). list_any (λ a. a == t) (chain above (length above) u)) is ∙ chain_of_object above (length above) t root below

same_zero : (n : ℕ) → not (n == 0) ≡ false → n ≡ 0
same_zero n is = by_test (n == 0) refl
  where
    by_test : (b : Bool) → (n == 0) ≡ b → n ≡ 0
    by_test true p = grind (arith, nat_tests)
    by_test false p = absurd (cc (sym (ap not p) ∙ is))

not_zero : (t : ℕ) → (suc t == 0) ≡ false
not_zero t = grind (arith, nat_tests)

circle_is : (above : List ℕ) (t : ℕ) → is_on_circle above (Some (suc t)) ≡ is_own_ancestor above (suc t)
circle_is above t = ap (λ (b : Bool). if b then not (parent_of above 0 == 0) else is_own_ancestor above (suc t)) (not_zero t)

pub type_tree : (types : List Typed) → flat_map (type_faults (type_names types) (parents (types_in types))) types ≡ [] → IsTypeTree (types_in types)
type_tree types none = record { root = root; others = others }
  where
    some : 0 < length (type_names types)
    some = within (type_names types) (object_first types)
      where
        within : (names : List (List ℕ)) → slice_get names 0 ≡ Some object_name → 0 < length names
        within [] at = absurd (cc at)
        within (n ∷ names) at = omega arith

    object_parent : parent_of (parents (types_in types)) 0 ≡ parent_in types (type_names types) object_name
    object_parent = parent_at types 0 object_name some (get_or_from_slice_get (type_names types) 0 object_name [] (object_first types))

    root : parent_of (parents (types_in types)) 0 ≡ 0
    root = elim (listed_or_not (type_names types) (parents (types_in types)) types object_name none) [
      | inl free ↦ same_zero (parent_of (parents (types_in types)) 0) (ap (is_on_circle (parents (types_in types))) (sym (object_number types)) ∙ free)
      | inr under ↦ object_parent ∙ under_object types object_name under
    ]

    others : (t : ℕ) → 0 < t → t < length (types_in types) → is_own_ancestor (parents (types_in types)) t ≡ false
    others zero positive within = absurd (omega arith)
    others (suc t) positive within =
        let here : suc t < length (type_names types) = subst (λ (n : ℕ). suc t < n) (length-map (type_names types) (type_called types (type_names types))) within in
        let name : List ℕ = get_or (type_names types) (suc t) [] in
        let number : number_in (type_names types) (get_or (type_names types) (suc t) []) ≡ Some (suc t) =
        (names_distinct types).own_number (suc t) (get_or (type_names types) (suc t) []) (slice_get-get_or (type_names types) (suc t) [] here) in
        elim (listed_or_not (type_names types) (parents (types_in types)) types (get_or (type_names types) (suc t) []) none) [
          | inl free ↦ sym (circle_is (parents (types_in types)) t) ∙ ap (is_on_circle (parents (types_in types))) (sym number) ∙ free
          | inr under ↦ not_above (parents (types_in types)) (suc t) root positive (parent_at types (suc t) (get_or (type_names types) (suc t) []) here refl ∙ under_object types (get_or (type_names types) (suc t) []) under)
        ]
