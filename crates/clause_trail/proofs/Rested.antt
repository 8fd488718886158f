-- A trail with another reason at one place.
use Rattle.std.proofs.Common.{◌≡◌, ℕ, List, length, set, length-set, Option, Some, sym, arith, inl, inr, subst, ◌∙◌}
use Rattle.std.proofs.lemmas.Bool.{cases_eq}
use Rattle.formula.specs.declared.atom.Lit.{Lit}
use Rattle.clause_trail.specs.declared.trail.Entry.{Entry}
use Rattle.clause_trail.specs.Standing.{Stands, IsTabled}
use Rattle.clause_trail.proofs.Gets.{get-within, get-set_same, get-set_other}
use Rattle.clause_trail.proofs.Lits.{same_stand}

-- the entry with another reason
abbrev pub rested : List Entry → ℕ → Lit → ℕ → List Entry
rested entries p l k = set entries p (record { lit = l; reason = Some k })

pub stands_in : (entries : List Entry) (p : ℕ) (m : Lit) (k : ℕ) → Stands entries p m → (q : ℕ) (l : Lit) → Stands entries q l → Stands (rested entries p m k) q l
stands_in entries p m k at q l s = elim (cases_eq q p) as (λ _. Stands (rested entries p m k) q l) [
  | inl same ↦
      let e : Entry = record { lit = m; reason = Some k } in
      let lt = get-within entries p _ at.1 in
      let is : m ≡ l = same_stand entries q m l (subst (λ (n : ℕ). Stands entries n m) (sym same) at) s in
      let here : Stands (rested entries p m k) p m = (Some k, get-set_same entries p e lt) in
      subst (λ (x : Lit). Stands (rested entries p m k) q x) is (subst (λ (n : ℕ). Stands (rested entries p m k) n m) (sym same) here)
  | inr other ↦ (s.0, get-set_other entries p q _ other ∙ s.1)
]

pub stands_out : (entries : List Entry) (p : ℕ) (m : Lit) (k : ℕ) → Stands entries p m → (q : ℕ) (l : Lit) → Stands (rested entries p m k) q l → Stands entries q l
stands_out entries p m k at q l s = elim (cases_eq q p) as (λ _. Stands entries q l) [
  | inl same ↦
      let e : Entry = record { lit = m; reason = Some k } in
      let lt = get-within entries p _ at.1 in
      let here : Stands (rested entries p m k) p m = (Some k, get-set_same entries p e lt) in
      let is : m ≡ l = same_stand (rested entries p m k) q m l (subst (λ (n : ℕ). Stands (rested entries p m k) n m) (sym same) here) s in
      subst (λ (x : Lit). Stands entries q x) is (subst (λ (n : ℕ). Stands entries n m) (sym same) at)
  | inr other ↦ (s.0, sym (get-set_other entries p q _ other) ∙ s.1)
]

pub tabled_rested : (place : List (Option ℕ)) (entries : List Entry) (p : ℕ) (m : Lit) (k : ℕ) → Stands entries p m → IsTabled place entries → IsTabled place (rested entries p m k)
tabled_rested place entries p m k at h = record {
  placed = record {
    holds = λ b q e. let f = h.placed.holds b q e in (f.0, stands_in entries p m k at q f.0 f.1, f.2);
    found = λ q l s. h.placed.found q l (stands_out entries p m k at q l s);
  };
  counted = let n = length-set entries p (let x : Entry = record { lit = m; reason = Some k } in x) in omega (arith, h.counted, n);
}
