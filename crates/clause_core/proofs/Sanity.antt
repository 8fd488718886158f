-- What stays sane.
use Rattle.std.proofs.Common.{◌≡◌, ℕ, zero, suc, ◌<◌, Bool, true, false, not, List, [], ◌∷◌, ◌++◌, take, length, Option, Some, None, refl, sym, ap, arith, inl, inr, subst, ◌∙◌, append-nil, append_assoc, length-append}
use Rattle.std.specs.List.{slice_get, Contains}
use Rattle.std.specs.Option.{is_some, MatchOption}
use Rattle.std.proofs.lemmas.Option.{same_Some}
use Rattle.std.proofs.lemmas.List.{take-append-le, take_all}
use Rattle.std.proofs.lemmas.List.Elements.{Contains-append_left, Contains-append_right, Contains-append_cases}
use Rattle.formula.specs.declared.atom.Lit.{Lit}
use Rattle.formula.specs.declared.atom.Atom.{Atom}
use Rattle.theory_law.specs.Seen.{IsAsserted}
use Rattle.clause_trail.specs.declared.trail.Entry.{Entry}
use Rattle.clause_trail.specs.Standing.{Stands, Forces, IsJustified}
use Rattle.clause_trail.specs.Propagation.{IsComplete}
use Rattle.clause_core.specs.Solving.{IsSane, IsTold, event_of, events, mark_of, put_of, atom_of}
use Rattle.clause_trail.specs.Decisions.{IsBelow, IsComplete_before, lits_of}
use Rattle.clause_trail.specs.Pushing.{IsForced, Pushes, IsPushed}
use Rattle.clause_trail.proofs.Gets.{get-push_cases, get-within}
use Rattle.clause_trail.proofs.Lits.{forces_push}

pub justified_push : (clauses : List (List Lit)) (entries : List Entry) (e : Entry) → IsJustified clauses entries → ((k : ℕ) → e.reason ≡ Some k → (c : List Lit) × (slice_get clauses k ≡ Some c) × Forces entries (length entries) c e.lit) → IsJustified clauses (entries ++ e ∷ [])
justified_push clauses entries e j r i l k at = elim (get-push_cases entries e i _ at) [
  | inl old ↦ let f = j i l k old in (f.0, f.1, forces_push (e ∷ []) f.2)
  | inr new ↦
      let reason : e.reason ≡ Some k = sym (ap (λ (x : Entry). x.reason) new.1) in
      let lit : e.lit ≡ l = sym (ap (λ (x : Entry). x.lit) new.1) in
      let f = r k reason in
      (f.0, f.1, subst (λ (m : Lit). Forces (entries ++ e ∷ []) i f.0 m) lit (subst (λ (n : ℕ). Forces (entries ++ e ∷ []) n f.0 e.lit) (sym new.0) (forces_push (e ∷ []) f.2)))
]

pub events_push : (atoms : List (Option Atom)) (entries : List Entry) (e : Entry) → events atoms (entries ++ e ∷ []) ≡ events atoms entries ++ event_of atoms e
events_push atoms [] e = append-nil (event_of atoms e)
events_push atoms (x ∷ entries) e = ap (λ (r : List (Option Lit)). event_of atoms x ++ r) (events_push atoms entries e) ∙ sym (append_assoc (event_of atoms x) (events atoms entries) (event_of atoms e))

put_in : (atoms : List (Option Atom)) (e : Entry) (a : Atom) → slice_get atoms e.lit.boolean ≡ Some (Some a) → Contains (event_of atoms e) (Some e.lit)
put_in atoms e a h = Contains-append_right (mark_of e.reason) (put_of (atom_of (slice_get atoms e.lit.boolean)) e.lit) (Some e.lit)
    (subst (λ (x : Option (Option Atom)). Contains (put_of (atom_of x) e.lit) (Some e.lit)) (sym h) (0, omega arith, refl))

pub asserted_in : (atoms : List (Option Atom)) (entries : List Entry) (p : ℕ) (l : Lit) (a : Atom) → Stands entries p l → slice_get atoms l.boolean ≡ Some (Some a) → IsAsserted (events atoms entries) l
asserted_in atoms [] p l a s h = let e = s.1 in absurd (cc)
asserted_in atoms (e ∷ entries) zero l a s h =
    let lit : e.lit ≡ l = ap (λ (x : Entry). x.lit) (same_Some _ _ s.1) in
    let here = put_in atoms e a (subst (λ (m : Lit). slice_get atoms m.boolean ≡ Some (Some a)) (sym lit) h) in
    Contains-append_left (event_of atoms e) (events atoms entries) (Some l) (subst (λ (m : Lit). Contains (event_of atoms e) (Some m)) lit here)
asserted_in atoms (e ∷ entries) (suc p) l a s h = Contains-append_right (event_of atoms e) (events atoms entries) (Some l) (asserted_in atoms entries p l a s h)

no_lit : (r : Option ℕ) (l : Lit) → Contains (mark_of r) (Some l) → ⊥
no_lit None l (zero, lt, e) = cc
no_lit None l (suc k, lt, e) = omega arith
no_lit (Some n) l h = absurd (omega (arith, h.1))

the_put : (a : Option Atom) (m l : Lit) → Contains (put_of a m) (Some l) → m ≡ l
the_put None m l h = absurd (omega (arith, h.1))
the_put (Some a) m l (zero, lt, e) = same_Some _ _ e
the_put (Some a) m l (suc k, lt, e) = absurd (omega arith)

-- what is asserted stands on the trail
pub asserted_stands : (atoms : List (Option Atom)) (entries : List Entry) (l : Lit) → IsAsserted (events atoms entries) l → (p : ℕ) × Stands entries p l
asserted_stands atoms [] l h = absurd (omega (arith, h.1))
asserted_stands atoms (e ∷ entries) l h = elim (Contains-append_cases (event_of atoms e) (events atoms entries) (Some l) h) [
  | inl here ↦ elim (Contains-append_cases (mark_of e.reason) (put_of (atom_of (slice_get atoms e.lit.boolean)) e.lit) (Some l) here) [
    | inl mark ↦ absurd (no_lit e.reason l mark)
    | inr put ↦ (0, (e.reason, ap (λ (x : Lit). let y : Entry = record { lit = x; reason = e.reason } in Some y) (the_put (atom_of (slice_get atoms e.lit.boolean)) e.lit l put)))
  ]
  | inr later ↦ let r = asserted_stands atoms entries l later in (suc r.0, r.1)
]

pub get-append : {A : Type 0} (xs ys : List A) (i : ℕ) → i < length xs → slice_get (xs ++ ys) i ≡ slice_get xs i
get-append [] ys i h = absurd (omega arith)
get-append (x ∷ xs) ys zero h = refl
get-append (x ∷ xs) ys (suc i) h = get-append xs ys i (omega arith)

pub events_grow : (atoms more : List (Option Atom)) (entries : List Entry) → ((p : ℕ) (l : Lit) → Stands entries p l → l.boolean < length atoms) → events (atoms ++ more) entries ≡ events atoms entries
events_grow atoms more [] h = refl
events_grow atoms more (e ∷ entries) h =
    let here : event_of (atoms ++ more) e ≡ event_of atoms e = ap (λ (x : Option (Option Atom)). mark_of e.reason ++ put_of (atom_of x) e.lit) (get-append atoms more e.lit.boolean (h 0 e.lit (e.reason, refl))) in
    let rest : events (atoms ++ more) entries ≡ events atoms entries = events_grow atoms more entries (λ p l s. h (suc p) l s) in
    ap (λ (x : List (Option Lit)). x ++ events (atoms ++ more) entries) here ∙ ap (λ (x : List (Option Lit)). event_of atoms e ++ x) rest

pub none_from : {A : Type 0} (o : Option A) (b : Bool) (P : Type 0) (Q : A → Type 0) → is_some o ≡ not b → b ≡ true → MatchOption o P Q → P
none_from None b P Q e t m = m
none_from (Some x) b P Q e t m = let f : true ≡ false = e ∙ ap not t in absurd (cc)

low_place : (entries rest : List Entry) (d : ℕ) (e : Entry) → slice_get entries d ≡ Some e → take d (entries ++ rest) ≡ take d entries
low_place entries rest d e at = let lt = get-within entries d _ at in take-append-le d entries rest (omega (arith, lt))

-- a decision of a longer trail is old or the new one
pub complete_push : (clauses : List (List Lit)) (entries : List Entry) (e : Entry) → IsComplete_before clauses entries → (e.reason ≡ None → IsComplete clauses (lits_of entries)) → IsComplete_before clauses (entries ++ e ∷ [])
complete_push clauses entries e h here d at = elim (get-push_cases entries e d _ at.1) [
  | inl old ↦ subst (λ (x : List Entry). IsComplete clauses (lits_of x)) (sym (low_place entries (e ∷ []) d _ old)) (h d (at.0, old))
  | inr new ↦
      let all : take d (entries ++ e ∷ []) ≡ entries = ap (λ (n : ℕ). take n (entries ++ e ∷ [])) new.0 ∙ take-append-le (length entries) entries (e ∷ []) (omega arith) ∙ take_all (length entries) entries (omega arith) in
      subst (λ (x : List Entry). IsComplete clauses (lits_of x)) (sym all) (here (sym (ap (λ (x : Entry). x.reason) new.1)))
]

pub below_push : (n : ℕ) (entries : List Entry) (e : Entry) → IsBelow n entries → e.lit.boolean < n → IsBelow n (entries ++ e ∷ [])
below_push n entries e h lt p l s = elim (get-push_cases entries e p _ s.1) [
  | inl old ↦ h p l (s.0, old)
  | inr new ↦ subst (λ (x : Lit). x.boolean < n) (sym (ap (λ (x : Entry). x.lit) new.1)) lt
]

pub sane_push : {clauses : List (List Lit)} {atoms : List (Option Atom)} {entries : List Entry} → IsSane clauses atoms entries → (e : Entry) → e.lit.boolean < length atoms → ((k : ℕ) → e.reason ≡ Some k → (c : List Lit) × (slice_get clauses k ≡ Some c) × Forces entries (length entries) c e.lit) → (e.reason ≡ None → IsComplete clauses (lits_of entries)) → IsSane clauses atoms (entries ++ e ∷ [])
sane_push {clauses = clauses} {atoms = atoms} {entries = entries} s e low r q = record {
  justified = justified_push clauses entries e s.justified r;
  within = s.within;
  below = below_push (length atoms) entries e s.below low;
  complete = complete_push clauses entries e s.complete q;
}

forced : {clauses : List (List Lit)} {n : ℕ} {entries : List Entry} {e : Entry} → IsForced clauses n entries e → (k : ℕ) → e.reason ≡ Some k → (c : List Lit) × (slice_get clauses k ≡ Some c) × Forces entries (length entries) c e.lit
forced {clauses = clauses} f k r = (f.clause, ap (slice_get clauses) (same_Some _ _ (sym r ∙ f.has)) ∙ f.at, f.forces)

no_reason : {clauses : List (List Lit)} {n : ℕ} {entries : List Entry} {e : Entry} → IsForced clauses n entries e → (P : Type 0) → e.reason ≡ None → P
no_reason f P r = let h = f.has in absurd (cc)

pub sane_pushes : {clauses : List (List Lit)} {atoms : List (Option Atom)} (entries added : List Entry) → IsSane clauses atoms entries → Pushes clauses (length atoms) entries added → IsSane clauses atoms (entries ++ added)
sane_pushes {clauses = clauses} {atoms = atoms} entries [] s h = subst (λ (x : List Entry). IsSane clauses atoms x) (sym (append-nil entries)) s
sane_pushes {clauses = clauses} {atoms = atoms} entries (e ∷ added) s h =
    subst (λ (x : List Entry). IsSane clauses atoms x) (append_assoc entries (e ∷ []) added)
    (sane_pushes (entries ++ e ∷ []) added (sane_push s e h.0.low (forced h.0) (no_reason h.0 _)) h.1)

pub sane_pushed : {clauses : List (List Lit)} {atoms : List (Option Atom)} {before after : List Entry} → IsSane clauses atoms before → IsPushed clauses (length atoms) before after → IsSane clauses atoms after
sane_pushed {clauses = clauses} {atoms = atoms} {before = before} s h = subst (λ (x : List Entry). IsSane clauses atoms x) (sym h.is) (sane_pushes before h.added s h.pushes)

pub told_pushed : {atoms : List (Option Atom)} {asserted : List (Option Lit)} {told : ℕ} {before after : List Entry} (added : List Entry) → IsTold atoms asserted told before → after ≡ before ++ added → IsTold atoms asserted told after
told_pushed {atoms = atoms} {asserted = asserted} {told = told} {before = before} added t e = record {
  synced = t.synced ∙ ap (events atoms) (sym (take-append-le told before added t.within) ∙ ap (take told) (sym e));
  within = omega (arith, t.within, ap length e, length-append before added);
}

pub none_true : {A : Type 0} (o : Option A) (b : Bool) → is_some o ≡ not b → o ≡ None → b ≡ true
none_true None true e n = refl
none_true None false e n = absurd (cc)
none_true (Some x) b e n = absurd (cc)
