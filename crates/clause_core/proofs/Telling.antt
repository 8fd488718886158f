-- What the theory sees while it is told a trail, and while decisions are taken back.
use Rattle.std.proofs.Common.{◌≡◌, ℕ, ◌<◌, ◌+◌, List, ◌++◌, length, take, Option, Some, sym, ap, arith, ◌∙◌, append_assoc}
use Rattle.std.specs.List.{slice_get}
use Rattle.std.proofs.lemmas.List.{take_all}
use Rattle.formula.specs.declared.atom.Lit.{Lit}
use Rattle.formula.specs.declared.atom.Atom.{Atom}
use Rattle.theory_law.specs.Seen.{Seen, with_asserted, with_events}
use Rattle.clause_trail.specs.declared.trail.Entry.{Entry}
use Rattle.clause_core.specs.Solving.{IsTold, mark_of, put_of, atom_of, events}
use Rattle.clause_core.proofs.Sanity.{events_push}
use Rattle.clause_trail.proofs.Fronts.{take_more}

-- told the first i entries
pub told_first : (s s0 : Seen) (atoms : List (Option Atom)) (entries : List Entry) (i : ℕ) → s ≡ with_asserted s0 (events atoms (take i entries)) → i < length entries → IsTold atoms s.asserted i entries
told_first s s0 atoms entries i e lt = record { synced = ap (λ (x : Seen). x.asserted) e; within = omega arith }

pub told_start : (s : Seen) (atoms : List (Option Atom)) (told : ℕ) (entries : List Entry) → IsTold atoms s.asserted told entries → s ≡ with_asserted s (events atoms (take told entries))
told_start s atoms told entries h = ap (with_asserted s) h.synced

pub told_step : (s s1 s2 s0 : Seen) (atoms : List (Option Atom)) (entries : List Entry) (i : ℕ) (e : Entry) → s ≡ with_asserted s0 (events atoms (take i entries)) → slice_get entries i ≡ Some e → s1 ≡ with_events s (mark_of e.reason) → s2 ≡ with_events s1 (put_of (atom_of (slice_get atoms e.lit.boolean)) e.lit) → s2 ≡ with_asserted s0 (events atoms (take (i + 1) entries))
told_step s s1 s2 s0 atoms entries i e e0 at e1 e2 =
    let put = put_of (atom_of (slice_get atoms e.lit.boolean)) e.lit in
    let longer : (events atoms (take i entries) ++ mark_of e.reason) ++ put ≡ events atoms (take (i + 1) entries) =
    append_assoc (events atoms (take i entries)) (mark_of e.reason) put ∙ sym (events_push atoms (take i entries) e) ∙ ap (events atoms) (sym (take_more entries i e at)) in
    e2 ∙ ap (λ (x : Seen). with_events x put) e1 ∙ ap (λ (x : Seen). with_events (with_events x (mark_of e.reason)) put) e0 ∙ ap (with_asserted s0) longer

pub told_end : (s s0 : Seen) (atoms : List (Option Atom)) (entries : List Entry) (i : ℕ) → s ≡ with_asserted s0 (events atoms (take i entries)) → i ≡ length entries → s ≡ with_asserted s0 (events atoms entries)
told_end s s0 atoms entries i e n = e ∙ ap (λ (x : List Entry). with_asserted s0 (events atoms x)) (take_all i entries (omega (arith, n)))

-- a mark was dropped once more
pub seen_back : (init old new : Seen) (kept : List (Option Lit)) → old ≡ with_asserted init old.asserted → new ≡ with_asserted old kept → new ≡ with_asserted init new.asserted
seen_back init old new kept h e = e ∙ ap (λ (x : Seen). with_asserted x kept) h ∙ ap (with_asserted init) (sym (ap (λ (x : Seen). x.asserted) e))
