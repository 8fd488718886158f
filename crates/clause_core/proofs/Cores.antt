-- The invariant of a core, as its parts change.
use Rattle.std.proofs.Common.{◌≡◌, ℕ, ◌<◌, ◌+◌, List, [], ◌∷◌, ◌++◌, length, take, Option, Some, None, Ok, Err, Result, sym, ap, arith, subst, ◌∙◌, length-append}
use Rattle.std.specs.Result.{OnOk, OnErr}
use Rattle.std.proofs.lemmas.List.{take-take, take_all}
use Rattle.formula.specs.declared.atom.Lit.{Lit}
use Rattle.formula.specs.declared.atom.Atom.{Atom}
use Rattle.formula.specs.Contents.{Contents, IsFormula, with_clause, with_boolean}
use Rattle.theory_law.specs.Seen.{Seen, at_start, with_asserted, with_atom}
use Rattle.clause_trail.specs.declared.trail.Entry.{Entry}
use Rattle.clause_trail.specs.Standing.{Trailed}
use Rattle.clause_trail.specs.Propagation.{IsComplete, HasTwo}
use Rattle.clause_core.specs.Solving.{IsCore, IsSane, IsTold, events}
use Rattle.clause_trail.specs.Decisions.{IsWithin, HasDecisionAt, lits_of}
use Rattle.clause_trail.specs.Pushing.{IsPushed}
use Rattle.clause_trail.proofs.Gets.{get-within}
use Rattle.clause_core.proofs.Clauses.{within_clauses}
use Rattle.clause_core.proofs.Sanity.{sane_push, sane_pushed, told_pushed}
use Rattle.clause_core.proofs.Backs.{sane_clause, told_grow}

sane_start : (f : Contents) → IsFormula f → IsSane f.clauses f.atoms []
sane_start f h = record {
  justified = λ i l k at. absurd (cc);
  within = within_clauses (length f.atoms) f.clauses h.clauses;
  below = λ p l s. let e = s.1 in absurd (cc);
  complete = λ d at. let e = at.1 in absurd (cc);
}

pub core_start : (f : Contents) (s : Seen) (t : Trailed) → IsFormula f → s ≡ at_start f s.pivots → t.entries ≡ [] → t.booleans ≡ length f.atoms → IsCore f s 0 t
core_start f s t h e none n =
    let told : IsTold f.atoms s.asserted 0 [] = record { synced = ap (λ (x : Seen). x.asserted) e; within = omega arith } in
    record {
      sane = subst (λ (x : List Entry). IsSane f.clauses f.atoms x) (sym none) (sane_start f h);
      in_step = subst (λ (x : List Entry). IsTold f.atoms s.asserted 0 x) (sym none) told;
      same_counts = ap (λ (x : Seen). x.counts) e;
      same_atoms = ap (λ (x : Seen). x.atoms) e;
      booleans = n;
    }

-- a decision was made, or memory is wanting
pub core_decided : {E : Type 0} (r : Result (Unit {0}) E) (t u : Trailed) {f : Contents} {s : Seen} {told : ℕ} → IsCore f s told t → (l : Lit) → l.boolean < length f.atoms → IsComplete f.clauses (lits_of t.entries) → OnOk r (u.entries ≡ t.entries ++ (record { lit = l; reason = None }) ∷ []) → OnErr r (u.entries ≡ t.entries) → u.booleans ≡ t.booleans → IsCore f s told u
core_decided (Ok done) t u {f = f} h l low quiet ok err b =
    let e : Entry = record { lit = l; reason = None } in
    record {
      sane = subst (λ (x : List Entry). IsSane f.clauses f.atoms x) (sym ok) (sane_push h.sane e low (λ k r. cc) (λ r. quiet));
      in_step = told_pushed (e ∷ []) h.in_step ok;
      same_counts = h.same_counts;
      same_atoms = h.same_atoms;
      booleans = b ∙ h.booleans;
    }
core_decided (Err x) t u {f = f} {s = s} {told = told} h l low quiet ok err b = record {
  sane = subst (λ (x : List Entry). IsSane f.clauses f.atoms x) (sym err) h.sane;
  in_step = subst (λ (x : List Entry). IsTold f.atoms s.asserted told x) (sym err) h.in_step;
  same_counts = h.same_counts;
  same_atoms = h.same_atoms;
  booleans = b ∙ h.booleans;
}

whole : (xs : List Entry) (n : ℕ) → n ≡ length xs → take n xs ≡ xs
whole xs n e = take_all n xs (omega (arith, e))

-- the theory was told the whole trail
pub core_told : {f : Contents} {s s' : Seen} {told : ℕ} {t : Trailed} → IsCore f s told t → (es : List Entry) → es ≡ t.entries → s' ≡ with_asserted s (events f.atoms t.entries) → IsCore f s' (length es) t
core_told {f = f} {s = s} {s' = s'} {t = t} h es same e = record {
  sane = h.sane;
  in_step = record { synced = ap (λ (x : Seen). x.asserted) e ∙ ap (events f.atoms) (sym (whole t.entries (length es) (ap length same))); within = omega (arith, ap length same) };
  same_counts = ap (λ (x : Seen). x.counts) e ∙ h.same_counts;
  same_atoms = ap (λ (x : Seen). x.atoms) e ∙ h.same_atoms;
  booleans = h.booleans;
}

-- decisions were taken back
pub core_back : {f : Contents} {s s' : Seen} {told told' : ℕ} {t u : Trailed} → IsCore f s told t → IsSane f.clauses f.atoms u.entries → IsTold f.atoms s'.asserted told' u.entries → s' ≡ with_asserted s s'.asserted → u.booleans ≡ t.booleans → IsCore f s' told' u
core_back h sane told e b = record {
  sane = sane;
  in_step = told;
  same_counts = ap (λ (x : Seen). x.counts) e ∙ h.same_counts;
  same_atoms = ap (λ (x : Seen). x.atoms) e ∙ h.same_atoms;
  booleans = b ∙ h.booleans;
}

pub core_same : {f f' : Contents} {s : Seen} {told : ℕ} {t : Trailed} → f' ≡ f → IsCore f s told t → IsCore f' s told t
core_same {s = s} {told = told} {t = t} e h = subst (λ (x : Contents). IsCore x s told t) (sym e) h

added : {f : Contents} {s : Seen} {told n keep : ℕ} (t u v : Trailed) → IsCore f s told u → u.entries ≡ take (length u.entries) t.entries → ((d : ℕ) → HasDecisionAt u.entries d → d < keep) → (c : List Lit) → IsWithin (length f.atoms) c → ((d : ℕ) → d < keep → HasTwo (lits_of (take d t.entries)) c) → v.booleans ≡ u.booleans → n ≡ u.booleans → IsPushed (f.clauses ++ c ∷ []) n u.entries v.entries → IsCore (with_clause c f) s told v
added {f = f} t u v h short kept c within two vb nb pushed =
    let s2 = sane_clause h.sane c within (λ d at. let in' = get-within u.entries d _ at.1 in subst (λ (x : List Entry). HasTwo (lits_of x) c) (sym (ap (take d) short ∙ take-take d (length u.entries) t.entries (omega (arith, in')))) (two d (kept d at))) in
    let p = subst (λ (m : ℕ). IsPushed (f.clauses ++ c ∷ []) m u.entries v.entries) (nb ∙ h.booleans) pushed in
    record {
      sane = sane_pushed s2 p;
      in_step = told_pushed p.added h.in_step p.is;
      same_counts = h.same_counts;
      same_atoms = h.same_atoms;
      booleans = vb ∙ h.booleans;
    }

-- the trail was propagated
pub core_pushed : {f : Contents} {s : Seen} {told : ℕ} {t u : Trailed} → IsCore f s told t → (n : ℕ) → n ≡ t.booleans → u.booleans ≡ t.booleans → IsPushed f.clauses n t.entries u.entries → IsCore f s told u
core_pushed {f = f} {t = t} {u = u} h n e b p =
    let q = subst (λ (m : ℕ). IsPushed f.clauses m t.entries u.entries) (e ∙ h.booleans) p in
    record {
      sane = sane_pushed h.sane q;
      in_step = told_pushed p.added h.in_step p.is;
      same_counts = h.same_counts;
      same_atoms = h.same_atoms;
      booleans = b ∙ h.booleans;
    }

-- a clause was added, and what it forces was made true
pub core_added : {f f' : Contents} {s : Seen} {told n keep : ℕ} (t u v : Trailed) → IsCore f s told u → u.entries ≡ take (length u.entries) t.entries → ((d : ℕ) → HasDecisionAt u.entries d → d < keep) → (c : List Lit) → IsWithin (length f.atoms) c → ((d : ℕ) → d < keep → HasTwo (lits_of (take d t.entries)) c) → f' ≡ with_clause c f → v.booleans ≡ u.booleans → n ≡ u.booleans → IsPushed f'.clauses n u.entries v.entries → IsCore f' s told v
core_added {f = f} {f' = f'} {s = s} {told = told} {n = n} t u v h short kept c within two is vb nb pushed =
    let p = subst (λ (x : Contents). IsPushed x.clauses n u.entries v.entries) is pushed in
    core_same is (added t u v h short kept c within two vb nb p)

split_core : {f : Contents} {s : Seen} {told : ℕ} (t u : Trailed) (a : Atom) → IsCore f s told t → u.entries ≡ t.entries → u.booleans ≡ t.booleans + 1 → IsCore (with_boolean (Some a) f) (with_atom s a) told u
split_core {f = f} {s = s} {told = told} t u a h es bs =
    let n : length (f.atoms ++ Some a ∷ []) ≡ length f.atoms + 1 = length-append f.atoms (Some a ∷ []) in
    let sane : IsSane f.clauses (f.atoms ++ Some a ∷ []) t.entries = record {
      justified = h.sane.justified;
      within = λ k d lt j m lj. omega (arith, h.sane.within k d lt j m lj, n);
      below = λ p l st. omega (arith, h.sane.below p l st, n);
      complete = h.sane.complete;
    } in
    record {
      sane = subst (λ (x : List Entry). IsSane f.clauses (f.atoms ++ Some a ∷ []) x) (sym es) sane;
      in_step = subst (λ (x : List Entry). IsTold (f.atoms ++ Some a ∷ []) s.asserted told x) (sym es) (told_grow h.in_step h.sane.below (Some a ∷ []));
      same_counts = h.same_counts;
      same_atoms = ap (λ (x : List (Option Atom)). x ++ Some a ∷ []) h.same_atoms;
      booleans = bs ∙ ap (λ (m : ℕ). m + 1) h.booleans ∙ sym n;
    }

-- a split was made
pub core_split : {f f' : Contents} {s s' : Seen} {told : ℕ} (t u : Trailed) (a : Atom) → IsCore f s told t → u.entries ≡ t.entries → u.booleans ≡ t.booleans + 1 → f' ≡ with_boolean (Some a) f → s' ≡ with_atom s a → IsCore f' s' told u
core_split {f' = f'} {s = s} {told = told} t u a h es bs ef e =
    subst (λ (x : Seen). IsCore f' x told u) (sym e) (core_same ef (split_core t u a h es bs))
