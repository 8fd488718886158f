-- Prefixes of a trail, and what the theory is told.
use Rattle.std.proofs.Common.{◌≡◌, ◌≢◌, ℕ, zero, suc, ◌<◌, ◌≤◌, ◌+◌, Bool, List, [], ◌∷◌, ◌++◌, length, take, Option, Some, None, get_or, refl, sym, ap, arith, inl, inr, subst, ◌∙◌, append_assoc, append-nil, zero-add, suc-add}
use Rattle.std.specs.List.{slice_get, Contains, All}
use Rattle.std.proofs.lemmas.Option.{same_Some}
use Rattle.std.proofs.lemmas.Bool.{cases_lt}
use Rattle.std.proofs.lemmas.List.{take-take, length-take-le}
use Rattle.std.proofs.lemmas.List.Elements.{Contains-append_right, Contains-append_cases, All-append, All-nil, All-cons, All-push}
use Rattle.formula.specs.declared.atom.Lit.{Lit}
use Rattle.formula.specs.declared.atom.Atom.{Atom}
use Rattle.theory_law.specs.Seen.{IsAsserted, marks}
use Rattle.clause_trail.specs.declared.trail.Entry.{Entry}
use Rattle.clause_trail.specs.Standing.{IsJustified, IsApart}
use Rattle.clause_trail.specs.Propagation.{IsComplete, IsQuiet, HasTwo}
use Rattle.clause_core.specs.Solving.{IsSane, IsTold, event_of, events, mark_of, put_of, atom_of}
use Rattle.clause_trail.specs.Decisions.{IsWithin, IsBelow, lits_of, HasDecisionAt, IsLastDecision}
use Rattle.clause_trail.proofs.Gets.{get-within, get-from, get-push_old}
use Rattle.clause_core.proofs.Sanity.{events_push, events_grow, asserted_stands}
use Rattle.clause_trail.proofs.Fronts.{get-take, get-take_in, at_low, take_more}

pub justified_take : (clauses : List (List Lit)) (entries : List Entry) (n : ℕ) → IsJustified clauses entries → IsJustified clauses (take n entries)
justified_take clauses entries n j i l k at =
    let f = j i l k (get-take entries n i _ at) in
    let low : i < n = at_low entries n i _ at in
    (f.0, f.1, record { within = f.2.within; others = λ m in' ne. let b = f.2.others m in' ne in (b.0, b.1, (b.2.0, get-take_in entries n b.0 _ (omega arith) b.2.1)) })

-- the list up to an element, the element, and the rest
pub record IsSplit {A : Type 0} (xs : List A) (d : ℕ) (x : A) : Type 0 where
  pub rest : List A
  pub is : xs ≡ take d xs ++ x ∷ rest
  pub later : (i : ℕ) (y : A) → slice_get rest i ≡ Some y → slice_get xs (d + suc i) ≡ Some y

pub split_at : {A : Type 0} (xs : List A) (d : ℕ) (x : A) → slice_get xs d ≡ Some x → IsSplit xs d x
split_at [] d x h = absurd (cc)
split_at {A = A} (y ∷ xs) zero x h = record { rest = xs; is = ap (λ (z : A). z ∷ xs) (same_Some _ _ h); later = λ i z e. rw zero-add e }
split_at {A = A} (y ∷ xs) (suc d) x h =
    let s = split_at xs d x h in
    record { rest = s.rest; is = ap (λ (l : List A). y ∷ l) s.is; later = λ i z e. rw suc-add (s.later i z e) }

pub events-append : (atoms : List (Option Atom)) (xs ys : List Entry) → events atoms (xs ++ ys) ≡ events atoms xs ++ events atoms ys
events-append atoms [] ys = refl
events-append atoms (x ∷ xs) ys = ap (λ (r : List (Option Lit)). event_of atoms x ++ r) (events-append atoms xs ys) ∙ sym (append_assoc (event_of atoms x) (events atoms xs) (events atoms ys))

abbrev pub NoMark : Option Lit → Type 0
NoMark e = e ≢ None

put_unmarked : (a : Option Atom) (l : Lit) → All NoMark (put_of a l)
put_unmarked None l = All-nil NoMark
put_unmarked (Some a) l = All-cons NoMark (Some l) [] (λ h. cc) (All-nil NoMark)

event_unmarked : (atoms : List (Option Atom)) (l : Lit) (r : Option ℕ) → (r ≡ None → ⊥) → All NoMark (event_of atoms (record { lit = l; reason = r }))
event_unmarked atoms l None h = absurd (h refl)
event_unmarked atoms l (Some k) h = put_unmarked (atom_of (slice_get atoms l.boolean)) l

pub unmarked : (atoms : List (Option Atom)) (rest : List Entry) → ((i : ℕ) → HasDecisionAt rest i → ⊥) → All NoMark (events atoms rest)
unmarked atoms [] h = All-nil NoMark
unmarked atoms (e ∷ rest) h = All-append NoMark (event_of atoms e) (events atoms rest)
    (event_unmarked atoms e.lit e.reason (λ n. h 0 (e.lit, ap (λ (r : Option ℕ). let x : Entry = record { lit = e.lit; reason = r } in Some x) n)))
    (unmarked atoms rest (λ i d. h (suc i) d))

pub record IsLevel (atoms : List (Option Atom)) (asserted : List (Option Lit)) (entries : List Entry) (d : ℕ) : Type 0 where
  pub after : List (Option Lit)
  pub is : asserted ≡ events atoms (take d entries) ++ None ∷ after
  pub unmarked : All NoMark after

pub level_at : (atoms : List (Option Atom)) (asserted : List (Option Lit)) (entries : List Entry) (d : ℕ) → asserted ≡ events atoms entries → IsLastDecision entries d → IsLevel atoms asserted entries d
level_at atoms asserted entries d synced last =
    let e : Entry = record { lit = last.0.0; reason = None } in
    let s = split_at entries d e last.0.1 in
    let put = put_of (atom_of (slice_get atoms last.0.0.boolean)) last.0.0 in
    record {
      after = put ++ events atoms s.rest;
      is = synced ∙ ap (events atoms) s.is ∙ events-append atoms (take d entries) (e ∷ s.rest);
      unmarked = All-append NoMark put (events atoms s.rest) (put_unmarked (atom_of (slice_get atoms last.0.0.boolean)) last.0.0)
          (unmarked atoms s.rest (λ i h. last.1 (d + suc i) (omega arith) (h.0, s.later i _ h.1)));
    }

pub level_marked : {atoms : List (Option Atom)} {asserted : List (Option Lit)} {entries : List Entry} {d : ℕ} → IsLevel atoms asserted entries d → Contains asserted None
level_marked {atoms = atoms} {entries = entries} {d = d} l = subst (λ (x : List (Option Lit)). Contains x None) (sym l.is) (Contains-append_right (events atoms (take d entries)) (None ∷ l.after) None (0, omega arith, refl))

pub told_more : {atoms : List (Option Atom)} {asserted asserted' : List (Option Lit)} {told : ℕ} {entries : List Entry} → IsTold atoms asserted told entries → (e : Entry) → slice_get entries told ≡ Some e → asserted' ≡ asserted ++ event_of atoms e → IsTold atoms asserted' (told + 1) entries
told_more {atoms = atoms} {told = told} {entries = entries} h e at is = record {
  synced = is ∙ ap (λ (x : List (Option Lit)). x ++ event_of atoms e) h.synced ∙ sym (events_push atoms (take told entries) e) ∙ ap (events atoms) (sym (take_more entries told e at));
  within = let lt = get-within entries told e at in omega (arith, lt);
}

marks_put : (a : Option Atom) (l : Lit) (rest : List (Option Lit)) → marks (put_of a l ++ rest) ≡ marks rest
marks_put None l rest = refl
marks_put (Some a) l rest = refl

marks_event : (r : Option ℕ) (a : Option Atom) (l : Lit) (rest : List (Option Lit)) → marks ((mark_of r ++ put_of a l) ++ rest) ≤ 1 + marks rest
marks_event None a l rest = omega (arith, marks_put a l rest)
marks_event (Some k) a l rest = omega (arith, marks_put a l rest)

marks_events : (atoms : List (Option Atom)) (entries : List Entry) → marks (events atoms entries) ≤ length entries
marks_events atoms [] = omega arith
marks_events atoms (e ∷ entries) = omega (arith, marks_event e.reason (atom_of (slice_get atoms e.lit.boolean)) e.lit (events atoms entries), marks_events atoms entries)

-- there is room for a mark
pub told_room : {atoms : List (Option Atom)} {asserted : List (Option Lit)} {told : ℕ} {entries : List Entry} → IsTold atoms asserted told entries → told < length entries → length entries ≤ length atoms → marks asserted < length atoms
told_room {atoms = atoms} {told = told} {entries = entries} h lt le = omega (arith, ap marks h.synced, marks_events atoms (take told entries), length-take-le told entries h.within)

no_some : (l : Lit) → Contains (None ∷ []) (Some l) → ⊥
no_some l (zero, lt, e) = cc
no_some l (suc k, lt, e) = omega arith

mark_literal : (r : Option ℕ) (events : List (Option Lit)) (l : Lit) → Contains (events ++ mark_of r) (Some l) → Contains events (Some l)
mark_literal None events l h = elim (Contains-append_cases events (None ∷ []) (Some l) h) [ inl old ↦ old | inr new ↦ absurd (no_some l new) ]
mark_literal (Some k) events l h = subst (λ (x : List (Option Lit)). Contains x (Some l)) (append-nil events) h

-- the Boolean of the next entry isn't asserted
pub told_open : {atoms : List (Option Atom)} {asserted : List (Option Lit)} {told : ℕ} {entries : List Entry} → IsTold atoms asserted told entries → IsApart entries → (e : Entry) → slice_get entries told ≡ Some e → (s : Bool) → IsAsserted (asserted ++ mark_of e.reason) (record { boolean = e.lit.boolean; pos = s }) → ⊥
told_open {atoms = atoms} {asserted = asserted} {told = told} {entries = entries} h apart e at s a =
    let l : Lit = record { boolean = e.lit.boolean; pos = s } in
    let b = mark_literal e.reason asserted l a in
    let st = asserted_stands atoms (take told entries) l (subst (λ (x : List (Option Lit)). IsAsserted x l) h.synced b) in
    let low : st.0 < told = at_low entries told st.0 _ st.1.1 in
    let same : st.0 ≡ told = apart st.0 told l e.lit (st.1.0, get-take entries told st.0 _ st.1.1) (e.reason, at) refl in
    omega arith

pub told_all : {atoms : List (Option Atom)} {asserted : List (Option Lit)} {told : ℕ} {entries : List Entry} → IsTold atoms asserted told entries → (n : ℕ) → n ≡ told → IsTold atoms asserted n entries
told_all {atoms = atoms} {asserted = asserted} {entries = entries} h n e = subst (λ (m : ℕ). IsTold atoms asserted m entries) (sym e) h

pub entry_at : (entries es : List Entry) (i : ℕ) (first : Entry) → es ≡ entries → i < length es → slice_get entries i ≡ Some (get_or es i first)
entry_at entries es i first e lt = ap (λ (x : List Entry). slice_get x i) (sym e) ∙ get-from es i first _ lt refl

pub sane_take : {clauses : List (List Lit)} {atoms : List (Option Atom)} {entries : List Entry} → IsSane clauses atoms entries → (n : ℕ) → IsSane clauses atoms (take n entries)
sane_take {clauses = clauses} {atoms = atoms} {entries = entries} s n = record {
  justified = justified_take clauses entries n s.justified;
  within = s.within;
  below = λ p l st. s.below p l (st.0, get-take entries n p _ st.1);
  complete = λ d at.
      let low : d < n = at_low entries n d _ at.1 in
      subst (λ (x : List Entry). IsComplete clauses (lits_of x)) (sym (take-take d n entries (omega (arith, low)))) (s.complete d (at.0, get-take entries n d _ at.1));
}

pub level_told : {atoms : List (Option Atom)} {asserted : List (Option Lit)} {told : ℕ} {entries : List Entry} → IsTold atoms asserted told entries → (d : ℕ) → IsLastDecision entries d → d < told → IsLevel atoms asserted entries d
level_told {atoms = atoms} {asserted = asserted} {told = told} {entries = entries} h d last lt =
    let l = level_at atoms asserted (take told entries) d h.synced ((last.0.0, get-take_in entries told d _ lt last.0.1), λ i low at. last.1 i low (at.0, get-take entries told i _ at.1)) in
    record { after = l.after; is = l.is ∙ ap (λ (x : List Entry). events atoms x ++ None ∷ l.after) (take-take d told entries (omega (arith, lt))); unmarked = l.unmarked }

pub told_back : {atoms : List (Option Atom)} {asserted asserted' : List (Option Lit)} {told : ℕ} {entries : List Entry} → IsTold atoms asserted told entries → (d : ℕ) → IsLastDecision entries d → d < told → ((before after : List (Option Lit)) → asserted ≡ before ++ None ∷ after → All NoMark after → asserted' ≡ before) → IsTold atoms asserted' d (take d entries)
told_back {atoms = atoms} {entries = entries} h d last lt back =
    let l = level_told h d last lt in
    let in' = get-within entries d _ last.0.1 in
    record {
      synced = back (events atoms (take d entries)) l.after l.is l.unmarked ∙ ap (events atoms) (sym (take-take d d entries (omega arith)));
      within = omega (arith, length-take-le d entries (omega (arith, in')));
    }

pub told_keep : {atoms : List (Option Atom)} {asserted : List (Option Lit)} {told : ℕ} {entries : List Entry} → IsTold atoms asserted told entries → (d : ℕ) → told ≤ d → d ≤ length entries → IsTold atoms asserted told (take d entries)
told_keep {atoms = atoms} {told = told} {entries = entries} h d le in' = record {
  synced = h.synced ∙ ap (events atoms) (sym (take-take told d entries le));
  within = omega (arith, length-take-le d entries in', le);
}

-- a clause that has two unassigned literals before each decision
pub sane_clause : {clauses : List (List Lit)} {atoms : List (Option Atom)} {entries : List Entry} → IsSane clauses atoms entries → (c : List Lit) → IsWithin (length atoms) c → ((d : ℕ) → HasDecisionAt entries d → HasTwo (lits_of (take d entries)) c) → IsSane (clauses ++ c ∷ []) atoms entries
sane_clause {clauses = clauses} {atoms = atoms} {entries = entries} s c w two = record {
  justified = λ i l k at. let f = s.justified i l k at in (f.0, get-push_old clauses (c ∷ []) k f.0 f.1, f.2);
  within = All-push (IsWithin (length atoms)) clauses c s.within w;
  below = s.below;
  complete = λ d at. All-push (IsQuiet (lits_of (take d entries))) clauses c (s.complete d at) (inr (two d at));
}

pub last_low : (entries : List Entry) (p keep : ℕ) → IsLastDecision entries p → p < keep → (d : ℕ) → HasDecisionAt entries d → d < keep
last_low entries p keep last lt d at = elim (cases_lt p d) as (λ _. d < keep) [ inl later ↦ absurd (last.1 d later at) | inr le ↦ omega arith ]

pub shorter_take : (init now after : List Entry) (d : ℕ) → d ≤ length now → length now ≤ length init → now ≡ take (length now) init → after ≡ take d now → (length after ≤ length init) × (after ≡ take (length after) init)
shorter_take init now after d low short is e =
    let n : length after ≡ d = ap length e ∙ length-take-le d now low in
    (omega (arith, n), e ∙ ap (take d) is ∙ take-take d (length now) init low ∙ ap (λ (m : ℕ). take m init) (sym n))

pub told_grow : {atoms : List (Option Atom)} {asserted : List (Option Lit)} {told : ℕ} {entries : List Entry} → IsTold atoms asserted told entries → IsBelow (length atoms) entries → (more : List (Option Atom)) → IsTold (atoms ++ more) asserted told entries
told_grow {atoms = atoms} {told = told} {entries = entries} h low more = record {
  synced = h.synced ∙ sym (events_grow atoms more (take told entries) (λ p l s. low p l (s.0, get-take entries told p _ s.1)));
  within = h.within;
}
