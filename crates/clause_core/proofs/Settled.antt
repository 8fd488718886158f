-- A literal at the start of the trail whose reason is now a clause of its own.
use Rattle.std.proofs.Common.{◌≡◌, ℕ, zero, suc, ◌<◌, List, [], ◌∷◌, ◌++◌, length, take, set, length-set, Option, Some, None, refl, sym, ap, arith, inl, inr, subst, ◌∙◌}
use Rattle.std.specs.List.{slice_get, Contains}
use Rattle.std.proofs.lemmas.Option.{same_Some}
use Rattle.std.proofs.lemmas.Bool.{cases_eq}
use Rattle.std.proofs.lemmas.List.Elements.{All-push, All-cons, All-nil}
use Rattle.formula.specs.declared.atom.Lit.{Lit}
use Rattle.formula.specs.declared.atom.Atom.{Atom}
use Rattle.formula.specs.Reading.{opposite}
use Rattle.formula.specs.Contents.{Contents, with_clause}
use Rattle.theory_law.specs.Seen.{Seen}
use Rattle.clause_trail.specs.declared.trail.Entry.{Entry}
use Rattle.clause_trail.specs.Standing.{Stands, Trailed, Forces}
use Rattle.clause_trail.specs.Propagation.{IsComplete, IsQuiet}
use Rattle.clause_core.specs.Solving.{IsCore, IsSane, IsTold, event_of, events}
use Rattle.clause_trail.specs.Decisions.{IsWithin, HasDecisionAt, lit_of, lits_of}
use Rattle.clause_core.specs.inside.Levels.{IsSettled}
use Rattle.clause_trail.proofs.Gets.{get-within, get-set_same, get-set_other, get-push_same, get-push_old}
use Rattle.clause_trail.proofs.Lits.{in_cons, cons_same}
use Rattle.clause_trail.proofs.Bridge.{lits_stand}
use Rattle.clause_trail.proofs.Fronts.{get-take_in}
use Rattle.clause_core.proofs.Cores.{core_same}
use Rattle.clause_trail.proofs.Rested.{rested, stands_in, stands_out}

lits_rested : (entries : List Entry) (p d : ℕ) (e x : Entry) → slice_get entries p ≡ Some x → e.lit ≡ x.lit → lits_of (take d (set entries p e)) ≡ lits_of (take d entries)
lits_rested [] p d e x at same = refl
lits_rested (y ∷ entries) p zero e x at same = refl
lits_rested (y ∷ entries) zero (suc d) e x at same = ap (λ (l : Lit). l ∷ lits_of (take d entries)) (same ∙ sym (ap lit_of (same_Some _ _ at)))
lits_rested (y ∷ entries) (suc p) (suc d) e x at same = ap (λ (l : List Lit). y.lit ∷ l) (lits_rested entries p d e x at same)

events_rested : (atoms : List (Option Atom)) (entries : List Entry) (p d : ℕ) (e x : Entry) → slice_get entries p ≡ Some x → event_of atoms e ≡ event_of atoms x → events atoms (take d (set entries p e)) ≡ events atoms (take d entries)
events_rested atoms [] p d e x at same = refl
events_rested atoms (y ∷ entries) p zero e x at same = refl
events_rested atoms (y ∷ entries) zero (suc d) e x at same = ap (λ (l : List (Option Lit)). l ++ events atoms (take d entries)) (same ∙ sym (ap (event_of atoms) (same_Some _ _ at)))
events_rested atoms (y ∷ entries) (suc p) (suc d) e x at same = ap (λ (l : List (Option Lit)). event_of atoms y ++ l) (events_rested atoms entries p d e x at same)

same_event : (atoms : List (Option Atom)) (l : Lit) (r : Option ℕ) (k : ℕ) → (r ≡ None → ⊥) → event_of atoms (record { lit = l; reason = Some k }) ≡ event_of atoms (record { lit = l; reason = r })
same_event atoms l None k h = absurd (h refl)
same_event atoms l (Some n) k h = refl

alone : (entries : List Entry) (i : ℕ) (c : List Lit) (l : Lit) → c ≡ l ∷ [] → Forces entries i c l
alone entries i c l e = record {
  within = subst (λ (x : List Lit). Contains x l) (sym e) (cons_same l []);
  others = λ m in' ne. elim (in_cons l m [] (subst (λ (x : List Lit). Contains x m) e in')) [ inl is ↦ absurd (ne (sym is)) | inr none ↦ absurd (omega (arith, none.1)) ];
}

old_decision : (entries : List Entry) (p : ℕ) (l : Lit) (k d : ℕ) → Stands entries p l → HasDecisionAt (rested entries p l k) d → HasDecisionAt entries d
old_decision entries p l k d s at = elim (cases_eq d p) as (λ _. HasDecisionAt entries d) [
  | inl same ↦
      let e : Entry = record { lit = l; reason = Some k } in
      let here : slice_get (rested entries p l k) d ≡ Some e = rw same (get-set_same entries p e (get-within entries p _ s.1)) in
      let r : Some k ≡ None = ap (λ (x : Entry). x.reason) (same_Some _ _ (sym here ∙ at.1)) in
      absurd (cc)
  | inr other ↦ (at.0, sym (get-set_other entries p d _ other) ∙ at.1)
]

sane_settled : {clauses : List (List Lit)} {atoms : List (Option Atom)} {entries : List Entry} → IsSane clauses atoms entries → (c : List Lit) (p : ℕ) → (s : IsSettled entries c p) → IsSane (clauses ++ c ∷ []) atoms (rested entries p s.lit (length clauses))
sane_settled {clauses = clauses} {atoms = atoms} {entries = entries} h c p s =
    let n = length clauses in
    let e : Entry = record { lit = s.lit; reason = Some n } in
    let new : List Entry = rested entries p s.lit n in
    record {
      justified = λ i l k at. elim (cases_eq i p) as (λ _. (d : List Lit) × (slice_get (clauses ++ c ∷ []) k ≡ Some d) × Forces new i d l) [
        | inl same ↦
            let here : slice_get new i ≡ Some e = rw same (get-set_same entries p e (get-within entries p _ s.stands.1)) in
            let is : e ≡ record { lit = l; reason = Some k } = same_Some _ _ (sym here ∙ at) in
            let lit : s.lit ≡ l = ap (λ (x : Entry). x.lit) is in
            let reason : Some n ≡ Some k = ap (λ (x : Entry). x.reason) is in
            (c, subst (λ (j : ℕ). slice_get (clauses ++ c ∷ []) j ≡ Some c) (same_Some _ _ reason) (get-push_same clauses c), alone new i c l (s.is ∙ ap (λ (x : Lit). x ∷ []) lit))
        | inr other ↦
            let f = h.justified i l k (sym (get-set_other entries p i e other) ∙ at) in
            (f.0, get-push_old clauses (c ∷ []) k f.0 f.1, record { within = f.2.within; others = λ m in' ne. let b = f.2.others m in' ne in (b.0, b.1, stands_in entries p s.lit n s.stands b.0 (opposite m) b.2) })
      ];
      within = let W : Lit → Type 0 = λ m. m.boolean < length atoms in All-push (IsWithin (length atoms)) clauses c h.within (subst (IsWithin (length atoms)) (sym s.is) (All-cons W s.lit [] (h.below p s.lit s.stands) (All-nil W)));
      below = λ q l st. h.below q l (stands_out entries p s.lit n s.stands q l st);
      complete = λ d at.
          let old = old_decision entries p s.lit n d s.stands at in
          let true' : Contains (lits_of (take d entries)) s.lit = lits_stand (take d entries) p s.lit (s.stands.0, get-take_in entries d p _ (s.low d old) s.stands.1) in
          subst (λ (x : List Lit). IsComplete (clauses ++ c ∷ []) x) (sym (lits_rested entries p d e _ s.stands.1 refl))
          (All-push (IsQuiet (lits_of (take d entries))) clauses c (h.complete d old) (inl (s.lit, subst (λ (x : List Lit). Contains x s.lit) (sym s.is) (cons_same s.lit []), true')));
    }

not_decided : (entries : List Entry) (c : List Lit) (p : ℕ) → (s : IsSettled entries c p) → s.stands.0 ≡ None → ⊥
not_decided entries c p s r =
    let at : slice_get entries p ≡ Some (record { lit = s.lit; reason = None }) = s.stands.1 ∙ ap (λ (o : Option ℕ). let x : Entry = record { lit = s.lit; reason = o } in Some x) r in
    let lt = s.low p (s.lit, at) in
    omega (arith, lt)

told_settled : {atoms : List (Option Atom)} {asserted : List (Option Lit)} {told : ℕ} {entries : List Entry} → IsTold atoms asserted told entries → (c : List Lit) (p k : ℕ) → (s : IsSettled entries c p) → IsTold atoms asserted told (rested entries p s.lit k)
told_settled {atoms = atoms} {told = told} {entries = entries} h c p k s =
    let e : Entry = record { lit = s.lit; reason = Some k } in
    record {
      synced = h.synced ∙ sym (events_rested atoms entries p told e _ s.stands.1 (same_event atoms s.lit s.stands.0 k (not_decided entries c p s)));
      within = omega (arith, h.within, length-set entries p e);
    }

-- the clause was added, and is the reason of its literal
pub core_settled : {f f' : Contents} {s : Seen} {told : ℕ} (t u : Trailed) → IsCore f s told t → (c : List Lit) (p k : ℕ) → (w : IsSettled t.entries c p) → f' ≡ with_clause c f → k ≡ length f.clauses → u.entries ≡ rested t.entries p w.lit k → u.booleans ≡ t.booleans → IsCore f' s told u
core_settled {f = f} {f' = f'} {s = s} {told = told} t u h c p k w is n e b =
    let same : u.entries ≡ rested t.entries p w.lit (length f.clauses) = e ∙ ap (rested t.entries p w.lit) n in
    let core : IsCore (with_clause c f) s told u = record {
      sane = subst (λ (x : List Entry). IsSane (f.clauses ++ c ∷ []) f.atoms x) (sym same) (sane_settled h.sane c p w);
      in_step = subst (λ (x : List Entry). IsTold f.atoms s.asserted told x) (sym same) (told_settled h.in_step c p (length f.clauses) w);
      same_counts = h.same_counts;
      same_atoms = h.same_atoms;
      booleans = b ∙ h.booleans;
    } in
    core_same is core
