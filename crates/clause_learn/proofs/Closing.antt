-- Marks that stay closed.
use Rattle.std.proofs.Common.{◌≡◌, ℕ, zero, suc, Bool, true, false, List, Some, set, replicate, refl, sym, inl, inr, subst, ◌∙◌}
use Rattle.std.specs.List.{slice_get, Contains}
use Rattle.std.proofs.lemmas.Option.{same_Some}
use Rattle.std.proofs.lemmas.Bool.{cases_eq}
use Rattle.formula.specs.declared.atom.Lit.{Lit}
use Rattle.formula.specs.Reading.{opposite}
use Rattle.clause_trail.specs.declared.trail.Entry.{Entry}
use Rattle.clause_trail.specs.Standing.{Stands, IsJustified}
use Rattle.clause_learn.specs.inside.Analysis.{IsResolved, IsClosed, IsAllMarked, Grows}
use Rattle.clause_trail.specs.Scanning.{IsFalseAmong}
use Rattle.clause_trail.proofs.Gets.{get-set_other}

pub resolved_grows : {clauses : List (List Lit)} {entries : List Entry} {old new : List Bool} {i : ℕ} → Grows old new → IsResolved clauses entries old i → IsResolved clauses entries new i
resolved_grows g r = record {
  lit = r.lit;
  reason = r.reason;
  clause = r.clause;
  entry = r.entry;
  at_reason = r.at_reason;
  within = r.within;
  others = λ m c ne. let b = r.others m c ne in (b.0, b.1, b.2, g b.0 b.3);
  itself = g _ r.itself;
}

pub closed_at : (clauses : List (List Lit)) (entries : List Entry) (old new resolved : List Bool) (i k : ℕ) (l : Lit) (c : List Lit) → IsClosed clauses entries old resolved → Grows old new → IsJustified clauses entries → slice_get entries i ≡ Some (record { lit = l; reason = Some k }) → slice_get clauses k ≡ Some c → slice_get old i ≡ Some true → ((m : Lit) → Contains c m → (p : ℕ) (q : Lit) → Stands entries p q → q.boolean ≡ m.boolean → slice_get new p ≡ Some true) → IsClosed clauses entries new (set resolved i true)
closed_at clauses entries old new resolved i k l c closed g j e ec here marks n h =
    elim (cases_eq n i) [
      | inl same ↦
          let f = j i l k e in
          let is : f.0 ≡ c = same_Some _ _ (sym f.1 ∙ ec) in
          subst (λ (x : ℕ). IsResolved clauses entries new x) (sym same) (record {
            lit = l;
            reason = k;
            clause = c;
            entry = e;
            at_reason = ec;
            within = subst (λ (x : List Lit). Contains x l) is f.2.within;
            others = λ m in' ne.
                let b = f.2.others m (subst (λ (x : List Lit). Contains x m) (sym is) in') ne in
                (b.0, b.1, b.2, marks m in' b.0 (opposite m) b.2 refl);
            itself = g i here;
          })
      | inr other ↦ resolved_grows g (closed n (sym (get-set_other resolved i n true other) ∙ h))
    ]

pub none_set : (n i : ℕ) → slice_get (replicate n false) i ≡ Some true → ⊥
none_set zero i h = cc
none_set (suc n) zero h = cc
none_set (suc n) (suc i) h = none_set n i h

pub closed_none : (clauses : List (List Lit)) (entries : List Entry) (marked : List Bool) (n : ℕ) → IsClosed clauses entries marked (replicate n false)
closed_none clauses entries marked n = λ i h. absurd (none_set n i h)

pub all_marked : (entries : List Entry) (marked : List Bool) (c : List Lit) → IsFalseAmong entries c → ((m : Lit) → Contains c m → (p : ℕ) (q : Lit) → Stands entries p q → q.boolean ≡ m.boolean → slice_get marked p ≡ Some true) → IsAllMarked entries marked c
all_marked entries marked c f marks m in' =
    let b = f m in' in
    (b.0, b.1, b.2, marks m in' b.0 (opposite m) b.2 refl)

pub all_marked_grows : (entries : List Entry) (old new : List Bool) (c : List Lit) → Grows old new → IsAllMarked entries old c → IsAllMarked entries new c
all_marked_grows entries old new c g h m in' = let b = h m in' in (b.0, b.1, b.2, g b.0 b.3)
