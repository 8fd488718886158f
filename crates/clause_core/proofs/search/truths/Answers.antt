use Rattle.std.proofs.Common.{◌≡◌, ℕ, ◌++◌, ◌∷◌, [], sym, ap, subst, arith, Some, slice_get, ◌∙◌, inl, inr, List, Bool, None, false, rules}
use Rattle.std.proofs.lemmas.Bool.{cases_eq}
use Rattle.std.proofs.lemmas.Option.{get_or_from_slice_get}
use Rattle.clause_trail.specs.declared.trail.Entry.{Entry}
use Rattle.clause_trail.proofs.Gets.{get-push_same, get-push_old}
use Rattle.clause_core.proofs.search.truths.Goals.{in-Some, in-None}
use Rattle.clause_core.proofs.search.truths.Goals as goal

first : Entry
first = record { lit = record { boolean = 0; pos = false }; reason = None }

pub loop-b-preserved : goal.loop-b-preserved
unfolding first
loop-b-preserved c = record {
  counted = search rules;
  holds = λ p m lt s. rw c.in_ok-push.ensures.items (elim (cases_eq m.boolean c.loop-b.b) [
    | inl same ↦
        let truth : c.match-place.truth ≡ m.pos = elim c.match-place.branch [
          | in-Some w ↦
              let f = w.in-Some.ensures.found in
              let places : p ≡ w.in-Some.p = c.booleans-b-end.ensures.apart p w.in-Some.p m f.0 s f.1 (same ∙ sym f.2) in
              let at : slice_get c.entries-entries.result.now w.in-Some.p ≡ Some (record { lit = m; reason = s.0 }) = ap (λ (l : List Entry). slice_get l w.in-Some.p) c.entries-entries.ensures.value ∙ (ap (slice_get c.args.trail.now.entries) (sym places) ∙ s.1) in
              w.truth-is ∙ ap (λ (x : Entry). x.lit.pos) (get_or_from_slice_get c.entries-entries.result.now w.in-Some.p _ first at)
          | in-None w ↦ absurd (w.in-None.ensures.found p m s same)
        ] in
        let at : slice_get (c.loop-b.truths.items ++ c.match-place.truth ∷ []) c.loop-b.b ≡ Some c.match-place.truth = subst (λ (n : ℕ). slice_get (c.loop-b.truths.items ++ c.match-place.truth ∷ []) n ≡ Some c.match-place.truth) c.loop-b.invariant.counted (get-push_same c.loop-b.truths.items c.match-place.truth) in
        ap (slice_get (c.loop-b.truths.items ++ c.match-place.truth ∷ [])) same ∙ at ∙ ap (λ (x : Bool). Some x) truth
    | inr other ↦ get-push_old c.loop-b.truths.items (c.match-place.truth ∷ []) m.boolean m.pos (c.loop-b.invariant.holds p m (omega arith) s)
  ]);
}

pub returns-clause-length : goal.returns-clause-length
returns-clause-length c = omega (arith, c.loop-b.invariant.counted, c.booleans-b-end.ensures.value)

pub returns-clause-holds : goal.returns-clause-holds
returns-clause-holds c = λ p l s. c.loop-b.invariant.holds p l (omega (arith, c.booleans-b-end.ensures.above p l s)) s
