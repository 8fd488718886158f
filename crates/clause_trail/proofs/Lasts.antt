-- The last decision of a front of the trail.
use Rattle.std.proofs.Common.{◌≡◌, ℕ, ◌<◌, ◌≤◌, ◌+◌, List, arith, sym, ◌∙◌, inl, inr, Option, Some, None, ap, length}
use Rattle.std.specs.List.{slice_get}
use Rattle.std.specs.Option.{MatchOption}
use Rattle.std.proofs.lemmas.Option.{same_Some}
use Rattle.std.proofs.lemmas.Bool.{cases_eq}
use Rattle.clause_trail.specs.declared.trail.Entry.{Entry}
use Rattle.clause_trail.specs.Decisions.{HasDecisionAt, IsLastDecision}
use Rattle.clause_trail.proofs.Gets.{get-within}

abbrev pub LastBelow : List Entry → ℕ → Option ℕ → Type 0
LastBelow entries n o = MatchOption o ((j : ℕ) → j < n → HasDecisionAt entries j → ⊥) (λ d. HasDecisionAt entries d × ((j : ℕ) → d < j → j < n → HasDecisionAt entries j → ⊥))

pub last_here : (entries : List Entry) (i : ℕ) (e : Entry) → slice_get entries i ≡ Some e → e.reason ≡ None → LastBelow entries (i + 1) (Some i)
last_here entries i e at none = ((e.lit, at ∙ ap (λ (r : Option ℕ). let x : Entry = record { lit = e.lit; reason = r } in Some x) none), λ j lt lt2 h. omega arith)

pub last_skip : (entries : List Entry) (i : ℕ) (o : Option ℕ) (e : Entry) (k : ℕ) → slice_get entries i ≡ Some e → e.reason ≡ Some k → LastBelow entries i o → LastBelow entries (i + 1) o
last_skip entries i None e k at some h = λ j lt d. elim (cases_eq j i) [
  | inl same ↦ let r : e.reason ≡ None = ap (λ (x : Entry). x.reason) (same_Some _ _ (sym at ∙ ap (slice_get entries) (sym same) ∙ d.1)) in cc
  | inr other ↦ h j (omega arith) d
]
last_skip entries i (Some p) e k at some h = (
  h.0,
  λ j low lt d. elim (cases_eq j i) [
    | inl same ↦ let r : e.reason ≡ None = ap (λ (x : Entry). x.reason) (same_Some _ _ (sym at ∙ ap (slice_get entries) (sym same) ∙ d.1)) in cc
    | inr other ↦ h.1 j low (omega arith) d
  ],
)

pub last_all : (entries : List Entry) (n : ℕ) (o : Option ℕ) → length entries ≤ n → LastBelow entries n o → MatchOption o ((i : ℕ) → HasDecisionAt entries i → ⊥) (IsLastDecision entries)
last_all entries n None le h = λ i d. let lt = get-within entries i _ d.1 in h i (omega (arith, lt)) d
last_all entries n (Some p) le h = (h.0, λ i low d. let lt = get-within entries i _ d.1 in h.1 i low (omega (arith, lt)) d)

pub has_reason : (entries : List Entry) (i : ℕ) (e : Entry) (k : ℕ) → slice_get entries i ≡ Some e → e.reason ≡ Some k → HasDecisionAt entries i → ⊥
has_reason entries i e k at r d =
    let n : None ≡ e.reason = ap (λ (x : Entry). x.reason) (same_Some _ _ (sym d.1 ∙ at)) in
    cc
