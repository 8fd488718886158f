-- A clause scanned one literal further.
use Rattle.std.proofs.Common.{◌≡◌, ◌⊎◌, ℕ, ◌<◌, ◌+◌, Option, Some, Bool, false, get_or, List, length, sym, ap, subst, ◌∙◌, arith, inl, inr}
use Rattle.std.proofs.lemmas.Bool.{cases_eq}
use Rattle.std.proofs.lemmas.Option.{slice_get-get_or, same_Some}
use Rattle.formula.specs.declared.atom.Lit.{Lit}
use Rattle.clause_units.specs.Truth.{truth_of}

-- each literal before the place is false, or the one that is kept
abbrev pub Seen : List (Option Bool) → List Lit → ℕ → Option Lit → Type 0
Seen table clause n unit = (k : ℕ) (d : Lit) → k < n → (truth_of table (get_or clause k d) ≡ Some false) ⊎ (unit ≡ Some (get_or clause k d))

pub any_default : {A : Type 0} (xs : List A) (i : ℕ) (d e : A) → i < length xs → get_or xs i d ≡ get_or xs i e
any_default xs i d e lt = same_Some _ _ (sym (slice_get-get_or xs i d lt) ∙ slice_get-get_or xs i e lt)

same_place : (clause : List Lit) (k n : ℕ) (d e : Lit) → n < length clause → k ≡ n → get_or clause n e ≡ get_or clause k d
same_place clause k n d e lt same = any_default clause n e d lt ∙ ap (λ (i : ℕ). get_or clause i d) (sym same)

pub seen_false : (table : List (Option Bool)) (clause : List Lit) (n : ℕ) (unit now : Option Lit) (e : Lit) → Seen table clause n unit → n < length clause → now ≡ unit
    → truth_of table (get_or clause n e) ≡ Some false → Seen table clause (n + 1) now
seen_false table clause n unit now e seen lt is false_here k d less = by_place (cases_eq k n)
  where
    by_place : (k ≡ n) ⊎ (k ≡ n → ⊥) → (truth_of table (get_or clause k d) ≡ Some false) ⊎ (now ≡ Some (get_or clause k d))
    by_place (inl same) = inl (subst (λ (x : Lit). truth_of table x ≡ Some false) (same_place clause k n d e lt same) false_here)
    by_place (inr other) = subst (λ (u : Option Lit). (truth_of table (get_or clause k d) ≡ Some false) ⊎ (u ≡ Some (get_or clause k d))) (sym is) (seen k d (omega arith))

pub seen_open : (table : List (Option Bool)) (clause : List Lit) (n : ℕ) (unit now : Option Lit) (e : Lit) → Seen table clause n unit → n < length clause
    → ((m : Lit) → unit ≡ Some m → m ≡ get_or clause n e) → now ≡ Some (get_or clause n e) → Seen table clause (n + 1) now
seen_open table clause n unit now e seen lt one is k d less = by_place (cases_eq k n)
  where
    by_seen : (truth_of table (get_or clause k d) ≡ Some false) ⊎ (unit ≡ Some (get_or clause k d)) → (truth_of table (get_or clause k d) ≡ Some false) ⊎ (now ≡ Some (get_or clause k d))
    by_seen (inl f) = inl f
    by_seen (inr u) = inr (is ∙ ap (λ (x : Lit). Some x) (sym (one (get_or clause k d) u)))

    by_place : (k ≡ n) ⊎ (k ≡ n → ⊥) → (truth_of table (get_or clause k d) ≡ Some false) ⊎ (now ≡ Some (get_or clause k d))
    by_place (inl same) = inr (is ∙ ap (λ (x : Lit). Some x) (same_place clause k n d e lt same))
    by_place (inr other) = by_seen (seen k d (omega arith))
