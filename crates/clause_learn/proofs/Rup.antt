-- From marks to a learned clause.
use Rattle.std.proofs.Common.{◌≡◌, ℕ, zero, suc, ◌<◌, ◌+◌, Bool, List, [], ◌∷◌, ◌++◌, length, Option, Some, None, get_or, refl, sym, ap, arith, inl, inr, subst, ◌∙◌, true, false, not, map, ◌⊎◌}
use Rattle.std.specs.List.{slice_get, Contains, All}
use Rattle.std.proofs.lemmas.Option.{same_Some}
use Rattle.std.proofs.lemmas.List.Elements.{Contains-get_or}
use Rattle.std.proofs.lemmas.Bool.{cases_eq}
use Rattle.formula.specs.declared.atom.Lit.{Lit}
use Rattle.formula.specs.Reading.{opposite}
use Rattle.theory_law.specs.Seen.{marks}
use Rattle.theory_law.specs.Units.{Follows, IsUnit, IsFalse}
use Rattle.clause_trail.specs.declared.trail.Entry.{Entry}
use Rattle.clause_trail.specs.Standing.{IsApart, Stands}
use Rattle.clause_learn.specs.inside.Analysis.{IsKept, Propagates, IsResolved, IsClosed, IsAllMarked, IsAnalyzed, IsChain}
use Rattle.clause_trail.specs.Decisions.{IsBelow}
use Rattle.clause_trail.proofs.Gets.{get-within}
use Rattle.clause_trail.proofs.Lits.{opposite-opposite, lit_or, same_stand, in_cons, cons_in, cons_same}

pub kept_within : (n : ℕ) (entries : List Entry) (marked resolved : List Bool) (clause : List Lit) → IsBelow n entries → IsKept entries marked resolved clause → All (λ m. m.boolean < n) clause
kept_within n entries marked resolved clause b h k d lt =
    let r = h.sound (get_or clause k d) (Contains-get_or clause k d lt) in
    b r.0 (opposite (get_or clause k d)) r.1

pub in_opposites : (clause : List Lit) (l : Lit) → Contains clause l → Contains (map opposite clause) (opposite l)
in_opposites [] l h = absurd (omega (arith, h.1))
in_opposites (x ∷ clause) l h = elim (in_cons x l clause h) [
  | inl e ↦ subst (λ (y : Lit). Contains (opposite x ∷ map opposite clause) (opposite y)) e (cons_same (opposite x) (map opposite clause))
  | inr r ↦ cons_in (opposite x) (opposite l) (map opposite clause) (in_opposites clause l r)
]

pub from_opposites : (clause : List Lit) (l : Lit) → Contains (map opposite clause) l → Contains clause (opposite l)
from_opposites [] l h = absurd (omega (arith, h.1))
from_opposites (x ∷ clause) l h = elim (in_cons (opposite x) l (map opposite clause) h) [
  | inl e ↦ subst (λ (y : Lit). Contains (x ∷ clause) y) (sym (opposite-opposite x) ∙ ap opposite e) (cons_same x clause)
  | inr r ↦ cons_in x (opposite l) clause (from_opposites clause l r)
]

-- the literals that are true once the resolved places below i were propagated
pub record IsReached (entries : List Entry) (marked resolved : List Bool) (before : List Lit) (i : ℕ) (truths : List Lit) : Type 0 where
  pub given : (l : Lit) → Contains before l → Contains truths l
  pub sound : (l : Lit) → Contains truths l → Contains before l ⊎ ((p : ℕ) × Stands entries p l × (p < i) × (slice_get resolved p ≡ Some true))
  pub complete : (p : ℕ) (l : Lit) → Stands entries p l → slice_get marked p ≡ Some true → ((slice_get resolved p ≡ Some false) ⊎ (p < i)) → Contains truths l

pub reached_start : {clauses : List (List Lit)} {entries : List Entry} {marked resolved : List Bool} {at : ℕ} {before : List Lit} → IsAnalyzed clauses entries marked resolved at before → IsReached entries marked resolved before 0 before
reached_start a = record {
  given = λ l h. h;
  sound = λ l h. inl h;
  complete = λ p l s m r. elim r [ inl f ↦ a.given p l s m f | inr lt ↦ absurd (omega arith) ];
}

pub reached_skip : (entries : List Entry) (marked resolved : List Bool) (before : List Lit) (i : ℕ) (truths : List Lit) → slice_get resolved i ≡ Some false → IsReached entries marked resolved before i truths → IsReached entries marked resolved before (i + 1) truths
reached_skip entries marked resolved before i truths unset h = record {
  given = h.given;
  sound = λ l c. elim (h.sound l c) [ inl b ↦ inl b | inr s ↦ inr (s.0, s.1, omega (arith, s.2), s.3) ];
  complete = λ p l s m r. elim r [
    | inl f ↦ h.complete p l s m (inl f)
    | inr lt ↦ elim (cases_eq p i) [
      | inl same ↦ h.complete p l s m (inl (rw same unset))
      | inr other ↦ h.complete p l s m (inr (omega arith))
    ]
  ];
}

pub reached_push : (entries : List Entry) (marked resolved : List Bool) (before : List Lit) (i : ℕ) (truths : List Lit) (lit : Lit) → slice_get resolved i ≡ Some true → Stands entries i lit → IsReached entries marked resolved before i truths → IsReached entries marked resolved before (i + 1) (lit ∷ truths)
reached_push entries marked resolved before i truths lit was at h = record {
  given = λ l c. cons_in lit l truths (h.given l c);
  sound = λ l c. elim (in_cons lit l truths c) [
    | inl e ↦ inr (i, subst (λ (x : Lit). Stands entries i x) e at, omega arith, was)
    | inr r ↦ elim (h.sound l r) [ inl b ↦ inl b | inr s ↦ inr (s.0, s.1, omega (arith, s.2), s.3) ]
  ];
  complete = λ p l s m r. elim r [
    | inl f ↦ cons_in lit l truths (h.complete p l s m (inl f))
    | inr lt ↦ elim (cases_eq p i) [
      | inl same ↦
          let is : lit ≡ l = same_stand entries i lit l at (subst (λ (q : ℕ). Stands entries q l) same s) in
          subst (λ (x : Lit). Contains (lit ∷ truths) x) is (cons_same lit truths)
      | inr other ↦ cons_in lit l truths (h.complete p l s m (inr (omega arith)))
    ]
  ];
}

-- the reason of a resolved place is unit
pub unit_at : {clauses : List (List Lit)} {entries : List Entry} {marked resolved : List Bool} {at : ℕ} {before : List Lit} → (a : IsAnalyzed clauses entries marked resolved at before) → (i : ℕ) (truths : List Lit) → IsReached entries marked resolved before i truths → slice_get resolved i ≡ Some true → (r : IsResolved clauses entries marked i) → ((p : ℕ) → p < length entries → (slice_get resolved p ≡ Some true) ⊎ (slice_get resolved p ≡ Some false)) → IsUnit truths r.clause r.lit
unit_at {entries = entries} a i truths h was r tests =
    let here : Stands entries i r.lit = (Some r.reason, r.entry) in
    let free : (l : Lit) → l.boolean ≡ r.lit.boolean → Contains truths l → ⊥ = λ l e c.
    elim (h.sound l c) as (λ _. ⊥) [
      | inl b ↦ a.fresh l b i r.lit here was e
      | inr s ↦ let same : s.0 ≡ i = a.apart s.0 i l r.lit s.1 here e in let lt = s.2 in omega (arith, lt, same)
    ] in
    record {
      within = r.within;
      not_true = free r.lit refl;
      not_false = free (opposite r.lit) refl;
      others = λ m c ne.
          let b = r.others m c ne in
          elim (tests b.0 (get-within entries b.0 _ b.2.1)) [
            | inl t ↦ h.complete b.0 (opposite m) b.2 b.3 (inr b.1)
            | inr f ↦ h.complete b.0 (opposite m) b.2 b.3 (inl f)
          ];
    }

pub propagates_push : (clauses : List (List Lit)) (hints : List ℕ) (before after : List Lit) (h : ℕ) (c : List Lit) (l : Lit) → Propagates clauses hints before after → slice_get clauses h ≡ Some c → IsUnit after c l → Propagates clauses (hints ++ h ∷ []) before (l ∷ after)
propagates_push clauses [] before after h c l p e u = (c, e, l, subst (λ (x : List Lit). IsUnit x c l) p u, ap (λ (x : List Lit). l ∷ x) p)
propagates_push clauses (k ∷ hints) before after h c l p e u =
    (p.0, p.1, p.2, p.3, propagates_push clauses hints (p.2 ∷ before) after h c l p.4 e u)

-- each place of a list of tests is one or the other
pub tests_at : (tests : List Bool) (p : ℕ) → p < length tests → (slice_get tests p ≡ Some true) ⊎ (slice_get tests p ≡ Some false)
tests_at [] p h = absurd (omega arith)
tests_at (true ∷ tests) zero h = inl refl
tests_at (false ∷ tests) zero h = inr refl
tests_at (x ∷ tests) (suc p) h = tests_at tests p (omega arith)

-- what the hints so far make true
pub record IsPartial (clauses : List (List Lit)) (entries : List Entry) (marked resolved : List Bool) (before : List Lit) (i : ℕ) (hints : List ℕ) : Type 0 where
  pub truths : List Lit
  pub units : Propagates clauses hints before truths
  pub reached : IsReached entries marked resolved before i truths

pub partial_start : {clauses : List (List Lit)} {entries : List Entry} {marked resolved : List Bool} {at : ℕ} {before : List Lit} → IsAnalyzed clauses entries marked resolved at before → IsPartial clauses entries marked resolved before 0 []
partial_start {before = before} a = record { truths = before; units = refl; reached = reached_start a }

pub partial_skip : {clauses : List (List Lit)} {entries : List Entry} {marked resolved : List Bool} {before : List Lit} {i : ℕ} {hints : List ℕ} → slice_get resolved i ≡ Some false → IsPartial clauses entries marked resolved before i hints → IsPartial clauses entries marked resolved before (i + 1) hints
partial_skip unset h = record { truths = h.truths; units = h.units; reached = reached_skip _ _ _ _ _ _ unset h.reached }

pub partial_push : {clauses : List (List Lit)} {entries : List Entry} {marked resolved : List Bool} {at : ℕ} {before : List Lit} {i : ℕ} {hints : List ℕ} → IsAnalyzed clauses entries marked resolved at before → slice_get resolved i ≡ Some true → IsPartial clauses entries marked resolved before i hints → (reason : ℕ) (lit : Lit) → slice_get entries i ≡ Some (record { lit = lit; reason = Some reason }) → IsPartial clauses entries marked resolved before (i + 1) (hints ++ reason ∷ [])
partial_push {clauses = clauses} {entries = entries} {marked = marked} {resolved = resolved} {before = before} {i = i} {hints = hints} a was h reason lit e =
    let r = a.closed i was in
    let same : Some r.reason ≡ Some reason = ap (λ (x : Entry). x.reason) (same_Some _ _ (sym r.entry ∙ e)) in
    let unit = unit_at a i h.truths h.reached was r (λ p lt. tests_at resolved p (omega (arith, a.lengths))) in
    let pushed = propagates_push clauses hints before h.truths r.reason r.clause r.lit h.units r.at_reason unit in
    record {
      truths = r.lit ∷ h.truths;
      units = subst (λ (n : ℕ). Propagates clauses (hints ++ n ∷ []) before (r.lit ∷ h.truths)) (same_Some _ _ same) pushed;
      reached = reached_push entries marked resolved before i h.truths r.lit was (Some r.reason, r.entry) h.reached;
    }

-- hints that propagate, and a last one that is then false
pub follows : (clauses : List (List Lit)) (front : List ℕ) (last : ℕ) (before truths : List Lit) (c : List Lit) → Propagates clauses front before truths → slice_get clauses last ≡ Some c → IsFalse truths c → Follows clauses before (front ++ last ∷ [])
follows clauses [] last before truths c p at f = (c, at, subst (λ (x : List Lit). IsFalse x c) p f)
follows clauses (h ∷ []) last before truths c p at f = (p.0, p.1, p.2, p.3, follows clauses [] last (p.2 ∷ before) truths c p.4 at f)
follows clauses (h ∷ i ∷ front) last before truths c p at f = (p.0, p.1, p.2, p.3, follows clauses (i ∷ front) last (p.2 ∷ before) truths c p.4 at f)

pub learned : {clauses : List (List Lit)} {entries : List Entry} {marked resolved : List Bool} {at : ℕ} {before : List Lit} {hints : List ℕ} → IsAnalyzed clauses entries marked resolved at before → IsPartial clauses entries marked resolved before (length entries) hints → Follows clauses before (hints ++ at ∷ [])
learned {clauses = clauses} {at = at} {before = before} {hints = hints} a h =
    follows clauses hints at before h.truths a.conflict h.units a.at_conflict
    (λ m c. elim (a.all_false m c) [ inl b ↦ h.reached.given (opposite m) b | inr b ↦ h.reached.complete b.0 (opposite m) b.2 b.3 (inr b.1) ])

pub partial_next : {clauses : List (List Lit)} {entries : List Entry} {marked resolved : List Bool} {at : ℕ} {before : List Lit} {i : ℕ} {hints : List ℕ} → IsAnalyzed clauses entries marked resolved at before → slice_get resolved i ≡ Some true → IsPartial clauses entries marked resolved before i hints → (reason : ℕ) (e : Entry) → slice_get entries i ≡ Some e → e.reason ≡ Some reason → IsPartial clauses entries marked resolved before (i + 1) (hints ++ reason ∷ [])
partial_next {entries = entries} {i = i} a was h reason e at has = partial_push a was h reason e.lit (at ∙ ap (λ (r : Option ℕ). let x : Entry = record { lit = e.lit; reason = r } in Some x) has)

pub no_decision : {clauses : List (List Lit)} {entries : List Entry} {marked resolved : List Bool} {at : ℕ} {before : List Lit} → IsAnalyzed clauses entries marked resolved at before → (i : ℕ) → slice_get resolved i ≡ Some true → (e : Entry) → slice_get entries i ≡ Some e → e.reason ≡ None → ⊥
no_decision {entries = entries} a i was e at none =
    let r = a.closed i was in
    let same : Some r.reason ≡ e.reason = ap (λ (x : Entry). x.reason) (same_Some _ _ (sym r.entry ∙ at)) in
    cc

-- what is marked and not resolved, turned, makes the conflict false
pub analyzed : (clauses : List (List Lit)) (entries : List Entry) (marked resolved : List Bool) (at : ℕ) (clause conflict : List Lit) → slice_get clauses at ≡ Some conflict → IsAllMarked entries marked conflict → IsClosed clauses entries marked resolved → IsApart entries → IsKept entries marked resolved clause → length resolved ≡ length entries → IsAnalyzed clauses entries marked resolved at (map opposite clause)
analyzed clauses entries marked resolved at clause conflict e all closed apart k lengths = record {
  conflict = conflict;
  at_conflict = e;
  all_false = λ m c. inr (all m c);
  closed = closed;
  apart = apart;
  given = λ p l s m f. subst (λ (x : Lit). Contains (map opposite clause) x) (opposite-opposite l) (in_opposites clause (opposite l) (k.complete p l s m f));
  fresh = λ l b p m s r same.
      let q = k.sound (opposite l) (from_opposites clause l b) in
      let is : q.0 ≡ p = apart q.0 p (opposite (opposite l)) m q.1 s same in
      let f : slice_get resolved p ≡ Some false = subst (λ (n : ℕ). slice_get resolved n ≡ Some false) is q.3 in
      let t : Some true ≡ Some false = sym r ∙ f in
      absurd (cc);
  lengths = lengths;
}

-- what a chain stands on makes its reason false together with the opposite of its literal
pub chained : (clauses : List (List Lit)) (entries : List Entry) (marked resolved : List Bool) (place : ℕ) (lit : Lit) (reason : ℕ) (c : List Lit) → slice_get clauses reason ≡ Some c → IsApart entries → Stands entries place lit → IsChain clauses entries place lit reason 0 marked resolved → IsAnalyzed clauses entries marked resolved reason (opposite lit ∷ [])
chained clauses entries marked resolved place lit reason c e apart at h = record {
  conflict = c;
  at_conflict = e;
  all_false = λ m in'. elim (lit_or m lit) [
    | inl same ↦ inl (subst (λ (x : Lit). Contains (opposite lit ∷ []) (opposite x)) (sym same) (cons_same (opposite lit) []))
    | inr ne ↦ inr (h.others c e m in' ne)
  ];
  closed = h.closed;
  apart = apart;
  given = λ p l s m f. let t : Some true ≡ Some false = sym (h.done p (omega arith) m) ∙ f in absurd (cc);
  fresh = λ l b p m s r same. elim (in_cons (opposite lit) l [] b) as (λ _. ⊥) [
    | inl is ↦
        let marks = (h.closed p r).itself in
        let lt = h.low p marks in
        let here : p ≡ place = apart p place m lit s at (sym same ∙ sym (ap (λ (x : Lit). x.boolean) is)) in
        omega (arith, lt, here)
    | inr none ↦ omega (arith, none.1)
  ];
  lengths = h.resolves;
}
