-- Names that are declared once each can be told apart.
use Rattle.std.proofs.Common.{◌≡◌, ◌⊎◌, inl, inr, ℕ, zero, suc, List, [], ◌∷◌, ◌++◌, length, Option, Some, None, refl, sym, ◌∙◌, ap, subst, append_assoc}
use Rattle.std.specs.Prelude.{is_some, slice_get, if◌then◌else◌}
use Rattle.std.proofs.lemmas.List.{append-nil}
use Rattle.name_table.specs.NameTable.{number_in, with_name, AreDistinct}
use Rattle.name_table.proofs.Growing.{number_in-kept, number_in-new}
use Rattle.pddl_form.specs.declared.spot.Spot.{Spot}
use Rattle.pddl_form.specs.declared.fault.Fault.{Fault}
use Rattle.typing_uses.specs.Scope.{texts, sighted, again, again_behind, declared_again}
use Rattle.typing_uses.proofs.Good.{front_empty, rest_empty}

-- ---- names in the order of first sight are there once

at_last : (seen : List (List ℕ)) (added name : List ℕ) (k : ℕ) → slice_get (seen ++ added ∷ []) k ≡ Some name → (slice_get seen k ≡ Some name) ⊎ ((k ≡ length seen) × (added ≡ name))
at_last [] added name zero at = inr (refl, cc at)
at_last [] added name (suc k) at = absurd (cc at)
at_last (s ∷ seen) added name zero at = inl at
at_last (s ∷ seen) added name (suc k) at = elim (at_last seen added name k at) [ inl there ↦ inl there | inr last ↦ inr (ap suc last.0, last.1) ]

one_more : (seen : List (List ℕ)) (added : List ℕ) (o : Option ℕ) → number_in seen added ≡ o → AreDistinct seen → AreDistinct (if is_some o then seen else seen ++ added ∷ [])
one_more seen added (Some j) found h = h
one_more seen added None none h = record {
  own_number = λ k name at.
      let grown : with_name seen added ≡ seen ++ added ∷ [] = ap (λ (o : Option ℕ). if is_some o then seen else seen ++ added ∷ []) none in
      elim (at_last seen added name k at) [
        | inl there ↦ ap (λ (names : List (List ℕ)). number_in names name) (sym grown) ∙ number_in-kept seen added name k (h.own_number k name there)
        | inr last ↦ ap (λ (names : List (List ℕ)). number_in names name) (sym grown) ∙ ap (number_in (with_name seen added)) (sym last.1) ∙ number_in-new seen added none ∙ ap Some (sym last.0)
      ];
}

sighted_once : (seen names : List (List ℕ)) → AreDistinct seen → AreDistinct (sighted seen names)
sighted_once seen [] h = h
sighted_once seen (name ∷ names) h = sighted_once (with_name seen name) names (one_more seen name (number_in seen name) refl h)

no_names : AreDistinct []
no_names = record { own_number = λ k name at. absurd (cc at) }

-- ---- where none is declared again, all are sighted

is_new : (seen : List (List ℕ)) (name : List ℕ) (place : ℕ) (o : Option ℕ) → (if is_some o then again place ∷ [] else []) ≡ [] → (if is_some o then seen else seen ++ name ∷ []) ≡ seen ++ name ∷ []
is_new seen name place None none = refl
is_new seen name place (Some k) none = absurd (cc none)

pub all_sighted : (seen : List (List ℕ)) (spots : List Spot) → declared_again seen spots ≡ [] → sighted seen (texts spots) ≡ seen ++ texts spots
all_sighted seen [] none = sym (append-nil seen)
all_sighted seen (spot ∷ more) none =
    let later : List Fault = declared_again (with_name seen spot.text) more in
    let new : with_name seen spot.text ≡ seen ++ spot.text ∷ [] = is_new seen spot.text spot.place (number_in seen spot.text) (front_empty (again_behind seen spot) later none) in
    all_sighted (with_name seen spot.text) more (rest_empty (again_behind seen spot) later none)
    ∙ ap (λ (names : List (List ℕ)). names ++ texts more) new ∙ append_assoc seen (spot.text ∷ []) (texts more)

-- names of one list
pub once : (spots : List Spot) → declared_again [] spots ≡ [] → AreDistinct (texts spots)
once spots none = subst AreDistinct (all_sighted [] spots none) (sighted_once [] (texts spots) no_names)

-- names of two lists in one space
pub once_in_both : (first second : List Spot) → declared_again [] first ≡ [] → declared_again (sighted [] (texts first)) second ≡ [] → AreDistinct (texts first ++ texts second)
once_in_both first second none also =
    let all : sighted (sighted [] (texts first)) (texts second) ≡ texts first ++ texts second =
    all_sighted (sighted [] (texts first)) second also ∙ ap (λ (names : List (List ℕ)). names ++ texts second) (all_sighted [] first none) in
    subst AreDistinct all (sighted_once (sighted [] (texts first)) (texts second) (sighted_once [] (texts first) no_names))
