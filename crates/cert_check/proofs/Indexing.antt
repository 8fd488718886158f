-- An index of clauses that keeps what it has, and one of one clause more.
use Rattle.std.proofs.Common.{◌≡◌, ◌↔◌, ◌⊎◌, inl, inr, ℕ, ◌<◌, ◌≤◌, ◌+◌, Bool, true, false, get_or, List, [], ◌∷◌, ◌++◌, length, Some, refl, sym, ap, subst, ◌∙◌, arith}
use Rattle.std.specs.Prelude.{IsTrue, slice_get}
use Rattle.std.specs.List.{Contains}
use Rattle.std.proofs.lemmas.List.Elements.{Contains-append_left, Contains-push, Contains-push_cases}
use Rattle.std.proofs.lemmas.Bool.{cases_eq}
use Rattle.std.proofs.lemmas.Option.{slice_get-get_or, slice_get_within, same_Some}
use Rattle.formula.specs.declared.atom.Lit.{Lit}
use Rattle.clause_units.proofs.Tables.{get-push_cases}
use Rattle.clause_index.specs.Places.{Places, IsListed, Keeps, with_empty}
use Rattle.cert_check.specs.inside.Indexed.{IsIndexed}

pub indexed_still : (clauses : List (List Lit)) (old new : Places) → IsIndexed clauses old → Keeps old new → new.empty ≡ old.empty → IsIndexed clauses new
indexed_still clauses old new indexed keeps e = record {
  flag = (λ t. indexed.flag.0 (sym e ∙ t), λ has. e ∙ indexed.flag.1 has);
  listed = λ n c at. keeps n c (indexed.listed n c at);
}

pub indexed_more : (clauses : List (List Lit)) (c : List Lit) (old new : Places) → IsIndexed clauses old → Keeps old new → IsListed new (length clauses) c → IsTrue new.empty ↔ (IsTrue old.empty ⊎ (c ≡ [])) → IsIndexed (clauses ++ c ∷ []) new
indexed_more clauses c old new indexed keeps there flag = record {
  flag = (λ t. told (flag.0 t), λ has. flag.1 (telling (Contains-push_cases clauses c [] has)));
  listed = λ n d at. by_place n d (get-push_cases clauses c n d at);
}
  where
    told : IsTrue old.empty ⊎ (c ≡ []) → Contains (clauses ++ c ∷ []) []
    told (inl t) = Contains-append_left clauses (c ∷ []) [] (indexed.flag.0 t)
    told (inr e) = subst (λ (x : List Lit). Contains (clauses ++ c ∷ []) x) e (Contains-push clauses c)

    telling : Contains clauses [] ⊎ (c ≡ []) → IsTrue old.empty ⊎ (c ≡ [])
    telling (inl has) = inl (indexed.flag.1 has)
    telling (inr e) = inr e

    by_place : (n : ℕ) (d : List Lit) → (slice_get clauses n ≡ Some d) ⊎ ((n ≡ length clauses) × (d ≡ c)) → IsListed new n d
    by_place n d (inl at) = keeps n d (indexed.listed n d at)
    by_place n d (inr is) = subst (λ (k : ℕ). IsListed new k d) (sym is.0) (subst (λ (x : List Lit). IsListed new (length clauses) x) (sym is.1) there)

-- ---- clause after clause

-- the clause at a place, as it is named
pub item_at : {A : Type 0} (xs ys : List A) (n : ℕ) (x y : A) → ys ≡ xs → n < length ys → x ≡ get_or ys n x → y ≡ x → slice_get xs n ≡ Some y
item_at xs ys n x y e lt is same = subst (λ (zs : List _). slice_get zs n ≡ Some y) e (slice_get-get_or ys n x lt ∙ ap (λ z. Some z) (sym is ∙ sym same))

pub listed_more : (clauses : List (List Lit)) (old new : Places) (n : ℕ) (c : List Lit) → ((k : ℕ) (d : List Lit) → k < n → slice_get clauses k ≡ Some d → IsListed old k d) → Keeps old new → slice_get clauses n ≡ Some c → IsListed new n c
    → (k : ℕ) (d : List Lit) → k < n + 1 → slice_get clauses k ≡ Some d → IsListed new k d
listed_more clauses old new n c before keeps at there k d less e = by_place (cases_eq k n)
  where
    by_place : (k ≡ n) ⊎ (k ≡ n → ⊥) → IsListed new k d
    by_place (inl same) = subst (λ (i : ℕ). IsListed new i d) (sym same) (subst (λ (x : List Lit). IsListed new n x) (same_Some c d (sym at ∙ ap (λ (i : ℕ). slice_get clauses i) (sym same) ∙ e)) there)
    by_place (inr other) = keeps k d (before k d (omega arith) e)

module _ (clauses : List (List Lit)) (index : Places) (n : ℕ) (listed : (k : ℕ) (d : List Lit) → k < n → slice_get clauses k ≡ Some d → IsListed index k d) (whole : length clauses ≤ n) where
  listed_all : (k : ℕ) (d : List Lit) → slice_get clauses k ≡ Some d → IsListed index k d
  listed_all k d at = let lt = slice_get_within clauses k d at in listed k d (omega (arith, lt, whole)) at

  pub indexed_without : index.empty ≡ false → (Contains clauses [] → ⊥) → IsIndexed clauses index
  indexed_without e none = record { flag = (λ t. absurd (cc), λ has. absurd (none has)); listed = listed_all }

  with_flag : (k : ℕ) (d : List Lit) → IsListed index k d → IsListed (with_empty index) k d
  with_flag k [] h = tt
  with_flag k (l ∷ ls) h = h

  pub indexed_with : Contains clauses [] → (full : Places) → full ≡ with_empty index → IsIndexed clauses full
  indexed_with has full is = subst (λ (i : Places). IsIndexed clauses i) (sym is) (record { flag = (λ t. has, λ h. refl); listed = λ k d at. with_flag k d (listed_all k d at) })
