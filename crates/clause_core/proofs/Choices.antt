-- The best of the Booleans so far that aren't assigned.
use Rattle.std.proofs.Common.{◌≡◌, ℕ, ◌<◌, ◌+◌, List, Option, Some, None, sym, arith, inl, inr, subst, ◌⊎◌}
use Rattle.std.specs.Option.{MatchOption}
use Rattle.std.proofs.lemmas.Option.{same_Some}
use Rattle.std.proofs.lemmas.Bool.{cases_eq}
use Rattle.std.specs.List.{Contains}
use Rattle.formula.specs.declared.atom.Lit.{Lit}
use Rattle.clause_trail.specs.declared.trail.Entry.{Entry}
use Rattle.clause_trail.specs.Standing.{Stands, IsFree}
use Rattle.clause_core.specs.inside.Asking.{IsFull}
use Rattle.clause_trail.specs.Decisions.{lits_of}
use Rattle.clause_trail.proofs.Bridge.{lits_stand, stand_lits}

abbrev pub IsAssigned : List Entry → ℕ → Type 0
IsAssigned entries b = (p : ℕ) × (l : Lit) × Stands entries p l × (l.boolean ≡ b)

-- none below b is free, or this one is
abbrev pub IsBest : List Entry → ℕ → ℕ → Option ℕ → Type 0
IsBest entries n b best = MatchOption best ((k : ℕ) → k < b → IsAssigned entries k) (λ x. (x < n) × IsFree entries x)

pub best_more : (entries : List Entry) (n b : ℕ) (best : Option ℕ) → IsBest entries n b best → IsAssigned entries b → IsBest entries n (b + 1) best
best_more entries n b None h a = λ k lt. elim (cases_eq k b) as (λ _. IsAssigned entries k) [ inl same ↦ subst (IsAssigned entries) (sym same) a | inr other ↦ h k (omega arith) ]
best_more entries n b (Some x) h a = h

pub best_next : (entries : List Entry) (n b r : ℕ) (best : Option ℕ) → IsBest entries n b best → b < n → IsFree entries b → (r ≡ b) ⊎ (best ≡ Some r) → IsBest entries n (b + 1) (Some r)
best_next entries n b r None h lt free (inl e) = (omega (arith, e), subst (IsFree entries) (sym e) free)
best_next entries n b r None h lt free (inr e) = absurd (cc)
best_next entries n b r (Some x) h lt free (inl e) = (omega (arith, e), subst (IsFree entries) (sym e) free)
best_next entries n b r (Some x) h lt free (inr e) = let is : x ≡ r = same_Some _ _ e in (omega (arith, is, h.0), subst (IsFree entries) is h.1)

pub best_all : (entries : List Entry) (n b : ℕ) (best : Option ℕ) → n ≡ b → IsBest entries n b best → IsBest entries n n best
best_all entries n b best e h = subst (λ (m : ℕ). IsBest entries n m best) (sym e) h

pub free_lits : (entries : List Entry) (n m : ℕ) (r : Option ℕ) → n ≡ m → MatchOption r ((b : ℕ) → b < n → (p : ℕ) × (l : Lit) × Stands entries p l × (l.boolean ≡ b)) (λ b. (b < n) × IsFree entries b) → MatchOption r (IsFull m (lits_of entries)) (λ b. (b < m) × ((l : Lit) → Contains (lits_of entries) l → l.boolean ≡ b → ⊥))
free_lits entries n m None e h = λ b lt. let s = h b (omega (arith, e)) in (s.1, lits_stand entries s.0 s.1 s.2, s.3)
free_lits entries n m (Some b) e h = (omega (arith, e, h.0), λ l c same. let s = stand_lits entries l c in h.1 s.0 l s.1 same)
