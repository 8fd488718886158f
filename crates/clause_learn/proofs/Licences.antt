-- A learned clause contains no earlier one.
use Rattle.std.proofs.Common.{◌≡◌, ℕ, ◌<◌, ◌≤◌, ◌+◌, Bool, true, false, List, [], ◌∷◌, length, take, set, length-set, Some, sym, ap, arith, inl, inr, subst, ◌∙◌, ◌⊎◌}
use Rattle.std.specs.List.{slice_get, Contains, All}
use Rattle.std.proofs.lemmas.Bool.{cases_eq, cases_lt}
use Rattle.std.proofs.lemmas.Option.{same_Some}
use Rattle.std.proofs.lemmas.List.Elements.{All-contains}
use Rattle.formula.specs.declared.atom.Lit.{Lit}
use Rattle.formula.specs.Reading.{opposite}
use Rattle.theory_law.specs.Licence.{IsNew}
use Rattle.clause_trail.specs.declared.trail.Entry.{Entry}
use Rattle.clause_trail.specs.Standing.{Stands, IsApart, IsJustified}
use Rattle.clause_learn.specs.inside.Analysis.{IsKept}
use Rattle.clause_trail.specs.Propagation.{IsComplete, IsQuiet, IsOpen}
use Rattle.clause_trail.specs.Decisions.{lits_of}
use Rattle.clause_learn.specs.inside.Leaving.{IsLeft, HasOneLeft}
use Rattle.clause_trail.proofs.Gets.{get-within, get-set_same, get-set_other}
use Rattle.clause_trail.proofs.Lits.{same_stand, opposite-opposite, cons_same, lit_or}
use Rattle.clause_trail.proofs.Bridge.{lits_stand, stand_lits, no_both}
use Rattle.clause_trail.proofs.Fronts.{get-take, get-take_in}

pub one_none : (base from i : ℕ) (marks resolves : List Bool) → length marks ≤ i → HasOneLeft base from i marks resolves
one_none base from i marks resolves le = record {
  one = λ p q ip iq fp fq lp lq. let lt = get-within marks p _ lp.marked in absurd (omega (arith, lt));
  top = λ p ip fp lp k fk ki m. let lt = get-within marks p _ lp.marked in omega (arith, lt);
  low = λ p ip pb lp. let lt = get-within marks p _ lp.marked in omega (arith, lt);
}

-- the place isn't resolved
pub one_skip : (base from j : ℕ) (marks resolves : List Bool) → HasOneLeft base from (j + 1) marks resolves → (slice_get marks j ≡ Some true → from ≤ j → (k : ℕ) → from ≤ k → k < j → slice_get marks k ≡ Some true → ⊥) → (slice_get marks j ≡ Some true → j < base → ⊥) → HasOneLeft base from j marks resolves
one_skip base from j marks resolves h top low =
    let at : (p : ℕ) → p ≡ j → IsLeft marks resolves p → slice_get marks j ≡ Some true = λ p e l. ap (slice_get marks) (sym e) ∙ l.marked in
    record {
      one = λ p q ip iq fp fq lp lq. elim (cases_eq p j) as (λ _. p ≡ q) [
        | inl pj ↦ elim (cases_eq q j) as (λ _. p ≡ q) [
          | inl qj ↦ pj ∙ sym qj
          | inr nq ↦ absurd (h.top q (omega arith) fq lq j (omega arith) (omega arith) (at p pj lp))
        ]
        | inr np ↦ elim (cases_eq q j) as (λ _. p ≡ q) [
          | inl qj ↦ absurd (h.top p (omega arith) fp lp j (omega arith) (omega arith) (at q qj lq))
          | inr nq ↦ h.one p q (omega arith) (omega arith) fp fq lp lq
        ]
      ];
      top = λ p ip fp lp k fk kj m. elim (cases_eq p j) as (λ _. ⊥) [
        | inl pj ↦ top (at p pj lp) (omega arith) k fk kj m
        | inr np ↦ h.top p (omega arith) fp lp k fk (omega arith) m
      ];
      low = λ p ip pb lp. elim (cases_eq p j) as (λ _. ⊥) [
        | inl pj ↦ low (at p pj lp) (omega arith)
        | inr np ↦ h.low p (omega arith) pb lp
      ];
    }

old_left : (j : ℕ) (marks marks' resolves resolves' : List Bool) → ((p : ℕ) → slice_get marks' p ≡ Some true → j ≤ p → slice_get marks p ≡ Some true) → resolves' ≡ set resolves j true → (p : ℕ) → j ≤ p → IsLeft marks' resolves' p → (j < p) × IsLeft marks resolves p
old_left j marks marks' resolves resolves' below is p jp l =
    let u : slice_get (set resolves j true) p ≡ Some false = ap (λ (x : List Bool). slice_get x p) (sym is) ∙ l.unresolved in
    elim (cases_eq p j) as (λ _. (j < p) × IsLeft marks resolves p) [
      | inl pj ↦
          let v : slice_get (set resolves j true) j ≡ Some false = ap (slice_get (set resolves j true)) (sym pj) ∙ u in
          let lt : j < length resolves = omega (arith, get-within (set resolves j true) j _ v, length-set resolves j true) in
          let w : Some true ≡ Some false = sym (get-set_same resolves j true lt) ∙ v in
          absurd (cc)
      | inr np ↦ (omega arith, record { marked = below p l.marked jp; unresolved = sym (get-set_other resolves j p true np) ∙ u })
    ]

-- the place is resolved, and only places below it are marked anew
pub one_resolve : (base from j : ℕ) (marks marks' resolves resolves' : List Bool) → HasOneLeft base from (j + 1) marks resolves → ((p : ℕ) → slice_get marks' p ≡ Some true → j ≤ p → slice_get marks p ≡ Some true) → resolves' ≡ set resolves j true → slice_get marks j ≡ Some true → HasOneLeft base from j marks' resolves'
one_resolve base from j marks marks' resolves resolves' h below is here = record {
  one = λ p q ip iq fp fq lp lq.
      let a = old_left j marks marks' resolves resolves' below is p ip lp in
      let b = old_left j marks marks' resolves resolves' below is q iq lq in
      h.one p q (omega (arith, a.0)) (omega (arith, b.0)) fp fq a.1 b.1;
  top = λ p ip fp lp k fk kj m.
      let a = old_left j marks marks' resolves resolves' below is p ip lp in
      h.top p (omega (arith, a.0)) fp a.1 j (omega arith) (omega arith) here;
  low = λ p ip pb lp.
      let a = old_left j marks marks' resolves resolves' below is p ip lp in
      h.low p (omega (arith, a.0)) pb a.1;
}

late : (entries : List Entry) (from p : ℕ) (l : Lit) → Stands entries p (opposite l) → IsOpen (lits_of (take from entries)) l → from ≤ p
late entries from p l s o = elim (cases_lt p from) as (λ _. from ≤ p) [
  | inl lt ↦ absurd (o.not_false (lits_stand (take from entries) p (opposite l) (s.0, get-take_in entries from p _ lt s.1)))
  | inr le ↦ omega arith
]

pub licensed : (clauses : List (List Lit)) (entries : List Entry) (marks resolves : List Bool) (clause : List Lit) (base from : ℕ) → IsApart entries → IsKept entries marks resolves clause → HasOneLeft base from 0 marks resolves → (IsComplete clauses (lits_of (take from entries)) ⊎ (length entries ≤ base)) → (Contains clauses [] → ⊥) → IsNew clauses clause
licensed clauses entries marks resolves clause base from apart kept left (inr all) none [] in' sub = none in'
licensed clauses entries marks resolves clause base from apart kept left (inr all) none (x ∷ d) in' sub =
    let s = kept.sound x (sub x (cons_same x d)) in
    let lt = get-within entries s.0 _ s.1.1 in
    left.low s.0 (omega arith) (omega (arith, lt)) (record { marked = s.2; unresolved = s.3 })
licensed clauses entries marks resolves clause base from apart kept left (inl quiet) none d in' sub =
    let q : IsQuiet (lits_of (take from entries)) d = All-contains (IsQuiet (lits_of (take from entries))) clauses d quiet in' in
    elim q as (λ _. ⊥) [
      | inl t ↦
          let a = stand_lits (take from entries) t.0 t.2 in
          let b = kept.sound t.0 (sub t.0 t.1) in
          no_both entries apart a.0 b.0 t.0 (a.1.0, get-take entries from a.0 _ a.1.1) b.1
      | inr t ↦
          let a = kept.sound t.first (sub t.first t.first_in) in
          let b = kept.sound t.second (sub t.second t.second_in) in
          let same : a.0 ≡ b.0 = left.one a.0 b.0 (omega arith) (omega arith) (late entries from a.0 t.first a.1 t.first_open) (late entries from b.0 t.second b.1 t.second_open) (record { marked = a.2; unresolved = a.3 }) (record { marked = b.2; unresolved = b.3 }) in
          let turned : opposite t.first ≡ opposite t.second = same_stand entries a.0 (opposite t.first) (opposite t.second) a.1 (subst (λ (x : ℕ). Stands entries x (opposite t.second)) (sym same) b.1) in
          t.differ (sym (opposite-opposite t.first) ∙ ap opposite turned ∙ opposite-opposite t.second)
    ]

-- what the reason marks stands before the place
pub marked_below : (clauses : List (List Lit)) (entries : List Entry) (old new : List Bool) (place k : ℕ) (l : Lit) (c : List Lit) → IsApart entries → IsJustified clauses entries → slice_get entries place ≡ Some (record { lit = l; reason = Some k }) → slice_get clauses k ≡ Some c → slice_get old place ≡ Some true → ((p : ℕ) → slice_get new p ≡ Some true → (slice_get old p ≡ Some true) ⊎ ((m : Lit) × Contains c m × (q : Lit) × Stands entries p q × (q.boolean ≡ m.boolean))) → (p : ℕ) → slice_get new p ≡ Some true → place ≤ p → slice_get old p ≡ Some true
marked_below clauses entries old new place k l c apart j at ec here only p is le = elim (only p is) as (λ _. slice_get old p ≡ Some true) [
  | inl was ↦ was
  | inr n ↦
      let f = j place l k at in
      let same : f.0 ≡ c = same_Some _ _ (sym f.1 ∙ ec) in
      elim (lit_or n.0 l) as (λ _. slice_get old p ≡ Some true) [
        | inl e ↦
            let is : p ≡ place = apart p place n.2 l n.3 (Some k, at) (n.4 ∙ ap (λ (x : Lit). x.boolean) e) in
            ap (slice_get old) is ∙ here
        | inr ne ↦
            let b = f.2.others n.0 (subst (λ (x : List Lit). Contains x n.0) (sym same) n.1) ne in
            let is : p ≡ b.0 = apart p b.0 n.2 (opposite n.0) n.3 b.2 n.4 in
            absurd (omega (arith, b.1))
      ]
]
