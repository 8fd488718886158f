-- What a literal at the start of the trail stands on, marked and resolved from its place back to the start.
use Rattle.std.proofs.Common.{◌≡◌, ◌≢◌, ℕ, ◌<◌, ◌≤◌, ◌+◌, Bool, true, false, List, length, set, length-set, Some, refl, sym, ap, arith, inl, inr, subst, ◌∙◌}
use Rattle.std.specs.List.{slice_get, Contains}
use Rattle.std.proofs.lemmas.Option.{same_Some}
use Rattle.std.proofs.lemmas.Bool.{cases_eq, cases_lt}
use Rattle.formula.specs.declared.atom.Lit.{Lit}
use Rattle.formula.specs.Reading.{opposite}
use Rattle.clause_trail.specs.declared.trail.Entry.{Entry}
use Rattle.clause_trail.specs.Standing.{Stands, IsApart, IsJustified, Forces}
use Rattle.clause_learn.specs.inside.Analysis.{IsClosed, IsChain, Grows}
use Rattle.clause_trail.proofs.Gets.{get-within, get-set_same, get-set_other}
use Rattle.clause_trail.proofs.Lits.{lit_or}

pub chain_start : (clauses : List (List Lit)) (entries : List Entry) (place : ℕ) (lit : Lit) (reason : ℕ) (c : List Lit) (marks resolves : List Bool) → IsApart entries → IsJustified clauses entries → slice_get entries place ≡ Some (record { lit = lit; reason = Some reason }) → slice_get clauses reason ≡ Some c → length marks ≡ length entries → length resolves ≡ length entries → ((p : ℕ) → slice_get resolves p ≡ Some true → ⊥) → ((m : Lit) → Contains c m → (p : ℕ) (l : Lit) → Stands entries p l → l.boolean ≡ m.boolean → slice_get marks p ≡ Some true) → ((p : ℕ) → slice_get marks p ≡ Some true → (m : Lit) × Contains c m × (l : Lit) × Stands entries p l × (l.boolean ≡ m.boolean)) → IsChain clauses entries place lit reason place (set marks place false) resolves
chain_start clauses entries place lit reason c marks resolves apart j at ec ml rl none here only =
    let f = j place lit reason at in
    let same : f.0 ≡ c = same_Some _ _ (sym f.1 ∙ ec) in
    let forces : Forces entries place c lit = subst (λ (x : List Lit). Forces entries place x lit) same f.2 in
    let in' : place < length marks = omega (arith, get-within entries place _ at, ml) in
    let low : (p : ℕ) → slice_get (set marks place false) p ≡ Some true → p < place = λ p is. elim (cases_eq p place) as (λ _. p < place) [
      | inl e ↦
          let off : Some true ≡ Some false = sym (subst (λ (n : ℕ). slice_get (set marks place false) n ≡ Some true) e is) ∙ get-set_same marks place false in' in
          absurd (cc)
      | inr other ↦
          let n = only p (sym (get-set_other marks place p false other) ∙ is) in
          elim (lit_or n.0 lit) as (λ _. p < place) [
            | inl e ↦ absurd (other (apart p place n.2 lit n.3 (Some reason, at) (n.4 ∙ ap (λ (x : Lit). x.boolean) e)))
            | inr ne ↦
                let b = forces.others n.0 n.1 ne in
                let is : p ≡ b.0 = apart p b.0 n.2 (opposite n.0) n.3 b.2 n.4 in
                let lt = b.1 in
                omega (arith, lt, is)
          ]
    ] in
    record {
      closed = λ i h. absurd (none i h);
      others = λ d e m in2 ne.
          let is : d ≡ c = same_Some _ _ (sym e ∙ ec) in
          let in3 = subst (λ (x : List Lit). Contains x m) is in2 in
          let b = forces.others m in3 ne in
          let lt = b.1 in
          let apart' : b.0 ≢ place = λ q. omega (arith, lt, q) in
          (b.0, get-within entries b.0 _ b.2.1, b.2, get-set_other marks place b.0 false apart' ∙ here m in3 b.0 (opposite m) b.2 refl);
      low = low;
      done = λ p le is. let lt = low p is in absurd (omega (arith, lt, le));
      marks = length-set marks place false ∙ ml;
      resolves = rl;
    }

pub chain_resolve : {clauses : List (List Lit)} {entries : List Entry} {place : ℕ} {lit : Lit} {reason : ℕ} (i : ℕ) (marks marks' resolves resolves' : List Bool) → IsChain clauses entries place lit reason (i + 1) marks resolves → i < place → IsClosed clauses entries marks' resolves' → Grows marks marks' → ((p : ℕ) → slice_get marks' p ≡ Some true → i ≤ p → slice_get marks p ≡ Some true) → resolves' ≡ set resolves i true → slice_get marks i ≡ Some true → length marks' ≡ length entries → length resolves' ≡ length entries → IsChain clauses entries place lit reason i marks' resolves'
chain_resolve {entries = entries} {place = place} i marks marks' resolves resolves' h lt closed grows below is here ml rl = record {
  closed = closed;
  others = λ d e m in' ne. let b = h.others d e m in' ne in (b.0, b.1, b.2, grows b.0 b.3);
  low = λ p at. elim (cases_lt p i) as (λ _. p < place) [ inl l ↦ omega (arith, l, lt) | inr ge ↦ h.low p (below p at ge) ];
  done = λ p le at. elim (cases_eq p i) as (λ _. slice_get resolves' p ≡ Some true) [
    | inl same ↦
        let in' : i < length resolves = omega (arith, get-within marks i true here, h.marks, h.resolves) in
        ap (λ (x : List Bool). slice_get x p) is ∙ ap (slice_get (set resolves i true)) same ∙ get-set_same resolves i true in'
    | inr other ↦ ap (λ (x : List Bool). slice_get x p) is ∙ get-set_other resolves i p true other ∙ h.done p (omega arith) (below p at le)
  ];
  marks = ml;
  resolves = rl;
}

pub chain_skip : {clauses : List (List Lit)} {entries : List Entry} {place : ℕ} {lit : Lit} {reason : ℕ} (i : ℕ) (marks resolves : List Bool) → IsChain clauses entries place lit reason (i + 1) marks resolves → (slice_get marks i ≡ Some true → ⊥) → IsChain clauses entries place lit reason i marks resolves
chain_skip i marks resolves h unset = record {
  closed = h.closed;
  others = h.others;
  low = h.low;
  done = λ p le at. elim (cases_eq p i) as (λ _. slice_get resolves p ≡ Some true) [
    | inl same ↦ absurd (unset (ap (slice_get marks) (sym same) ∙ at))
    | inr other ↦ h.done p (omega arith) at
  ];
  marks = h.marks;
  resolves = h.resolves;
}
