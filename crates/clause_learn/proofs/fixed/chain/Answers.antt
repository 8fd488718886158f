use Rattle.std.proofs.Common.{rules, ◌≡◌, ◌<◌, ◌+◌, ◌-◌, ◌++◌, ℕ, List, Bool, true, false, length, slice_get, Some, None, ap, sym, ◌∙◌, get_or, refl, arith, subst, replicate, Option, take, drop, inl, inr}
use Rattle.clause_trail.specs.declared.trail.Entry.{Entry}
use Rattle.clause_learn.specs.inside.Analysis.{IsChain}
use Rattle.clause_trail.specs.Decisions.{HasDecisionAt}
use Rattle.clause_trail.proofs.Gets.{get-from, get-within, written}
use Rattle.clause_learn.proofs.Closing.{none_set}
use Rattle.clause_learn.proofs.Chains.{chain_start, chain_resolve, chain_skip}
use Rattle.clause_learn.proofs.fixed.chain.Goals as goal

first : Entry
first = record { lit = record { boolean = 0; pos = false }; reason = None }

pub loop-i-init : goal.loop-i-init
loop-i-init c =
    let n = length c.args.trail.now.entries in
    let off : c.as_mut_slice-resolved.result.now ≡ replicate (length c.args.trail.now.entries) false = search rules in
    let unset : c.as_mut_slice-marked.result.now ≡ replicate (length c.args.trail.now.entries) false = search rules in
    let marks : length c.mark_clause.new.marked ≡ length c.args.trail.now.entries = search rules in
    let resolves : length c.as_mut_slice-resolved.result.now ≡ length c.args.trail.now.entries = search rules in
    chain_start c.args.clauses.now c.args.trail.now.entries c.args.fixed.now.place c.args.fixed.now.lit c.args.fixed.now.reason c.lits_at.result.now c.mark_clause.new.marked c.as_mut_slice-resolved.result.now
    c.entries-entries.ensures.apart c.requires.justified c.requires.entry c.lits_at.ensures marks resolves
    (λ p h. none_set n p (subst (λ (x : List Bool). slice_get x p ≡ Some true) off h))
    c.mark_clause.ensures.here
    (λ p h. elim (c.mark_clause.ensures.only p h) [
      | inl was ↦ absurd (none_set n p (subst (λ (x : List Bool). slice_get x p ≡ Some true) unset was))
      | inr new ↦ new
    ])

pub bounds-marked-i : goal.bounds-marked-i
bounds-marked-i c =
    let in' = get-within c.args.trail.now.entries c.args.fixed.now.place _ c.requires.entry in
    omega (arith, in', c.loop-i.auto.i, c.loop-i-test.true, c.loop-i.invariant.marks)

pub resolve_at-requires-clause-entry : goal.resolve_at-requires-clause-entry
unfolding first
resolve_at-requires-clause-entry c =
    let in' = get-within c.args.trail.now.entries c.args.fixed.now.place _ c.requires.entry in
    let lt : c.loop-i.i - 1 < length c.args.trail.now.entries = omega (arith, in', c.loop-i.auto.i, c.loop-i-test.true) in
    let e : Entry = get_or c.args.trail.now.entries (c.loop-i.i - 1) first in
    let at : slice_get c.args.trail.now.entries (c.loop-i.i - 1) ≡ Some e = get-from c.args.trail.now.entries (c.loop-i.i - 1) first e lt refl in
    (e.lit, at ∙ ap (λ (r : Option ℕ). let x : Entry = record { lit = e.lit; reason = r } in Some x) (ap (λ (l : List Entry). (get_or l (c.loop-i.i - 1) first).reason) (sym c.entries-entries.ensures.value) ∙ c.in-Some.is))

pub resolve_at-requires-clause-here : goal.resolve_at-requires-clause-here
resolve_at-requires-clause-here c =
    let in' = get-within c.args.trail.now.entries c.args.fixed.now.place _ c.requires.entry in
    let lt : c.loop-i.i - 1 < length c.loop-i.marked = omega (arith, in', c.loop-i.auto.i, c.loop-i-test.true, c.loop-i.invariant.marks) in
    get-from c.loop-i.marked (c.loop-i.i - 1) false true lt c.if-marked-i.true

pub loop-i-preserved-in-Some : goal.loop-i-preserved-in-Some
loop-i-preserved-in-Some c =
    let in' = get-within c.args.trail.now.entries c.args.fixed.now.place _ c.requires.entry in
    let lt : c.loop-i.i - 1 < length c.loop-i.marked = omega (arith, in', c.loop-i.auto.i, c.loop-i-test.true, c.loop-i.invariant.marks) in
    let low : c.loop-i.i - 1 < c.args.fixed.now.place = omega (arith, c.loop-i.auto.i, c.loop-i-test.true) in
    let up : c.loop-i.i ≡ (c.loop-i.i - 1) + 1 = omega (arith, c.loop-i-test.true) in
    let marks : length c.resolve_at.new.marked ≡ length c.args.trail.now.entries = search (rules, c.loop-i.invariant.marks) in
    let resolves : length c.resolve_at.new.resolved ≡ length c.args.trail.now.entries = search (rules, c.loop-i.invariant.resolves) in
    let h = subst (λ (n : ℕ). IsChain c.args.clauses.now c.args.trail.now.entries c.args.fixed.now.place c.args.fixed.now.lit c.args.fixed.now.reason n c.loop-i.marked c.loop-i.resolved) up c.loop-i.invariant in
    chain_resolve (c.loop-i.i - 1) c.loop-i.marked c.resolve_at.new.marked c.loop-i.resolved c.resolve_at.new.resolved h low c.resolve_at.ensures.closed c.resolve_at.ensures.grows c.resolve_at.ensures.below c.resolve_at.ensures.resolved (get-from c.loop-i.marked (c.loop-i.i - 1) false true lt c.if-marked-i.true) marks resolves

pub loop-i-preserved-in_default : goal.loop-i-preserved-in_default
unfolding first
loop-i-preserved-in_default c =
    let in' = get-within c.args.trail.now.entries c.args.fixed.now.place _ c.requires.entry in
    let lt : c.loop-i.i - 1 < length c.args.trail.now.entries = omega (arith, in', c.loop-i.auto.i, c.loop-i-test.true) in
    let e : Entry = get_or c.args.trail.now.entries (c.loop-i.i - 1) first in
    let at : slice_get c.args.trail.now.entries (c.loop-i.i - 1) ≡ Some e = get-from c.args.trail.now.entries (c.loop-i.i - 1) first e lt refl in
    let none : e.reason ≡ None = ap (λ (l : List Entry). (get_or l (c.loop-i.i - 1) first).reason) (sym c.entries-entries.ensures.value) ∙ c.in_default.is in
    let d : HasDecisionAt c.args.trail.now.entries (c.loop-i.i - 1) = (e.lit, at ∙ ap (λ (r : Option ℕ). let x : Entry = record { lit = e.lit; reason = r } in Some x) none) in
    absurd (c.requires.start (c.loop-i.i - 1) (omega (arith, c.loop-i.auto.i, c.loop-i-test.true)) d)

pub loop-i-preserved : goal.loop-i-preserved
loop-i-preserved c =
    let in' = get-within c.args.trail.now.entries c.args.fixed.now.place _ c.requires.entry in
    let lt : c.loop-i.i - 1 < length c.loop-i.marked = omega (arith, in', c.loop-i.auto.i, c.loop-i-test.true, c.loop-i.invariant.marks) in
    let up : c.loop-i.i ≡ (c.loop-i.i - 1) + 1 = omega (arith, c.loop-i-test.true) in
    let h = subst (λ (n : ℕ). IsChain c.args.clauses.now c.args.trail.now.entries c.args.fixed.now.place c.args.fixed.now.lit c.args.fixed.now.reason n c.loop-i.marked c.loop-i.resolved) up c.loop-i.invariant in
    chain_skip (c.loop-i.i - 1) c.loop-i.marked c.loop-i.resolved h (λ m. let off = get-from c.loop-i.marked (c.loop-i.i - 1) false false lt c.if-marked-i.false in cc)

pub returns : goal.returns
returns c =
    let start : c.loop-i.i ≡ 0 = omega (arith, c.loop-i-test.false) in
    let marks : c.in_ok-marks.marks.len ≡ length c.loop-i.marked = search (rules, c.loop-i.invariant.marks) in
    let resolves : c.in_ok-resolves.resolves.len ≡ length c.loop-i.resolved = search (rules, c.loop-i.invariant.resolves) in
    let h = subst (λ (n : ℕ). IsChain c.args.clauses.now c.args.trail.now.entries c.args.fixed.now.place c.args.fixed.now.lit c.args.fixed.now.reason n c.loop-i.marked c.loop-i.resolved) start c.loop-i.invariant in
    let k = written (λ (y : List Bool). IsChain c.args.clauses.now c.args.trail.now.entries c.args.fixed.now.place c.args.fixed.now.lit c.args.fixed.now.reason 0 c.loop-i.marked y) _ c.loop-i.resolved c.in_ok-resolves.resolves.items resolves h in
    written (λ (x : List Bool). IsChain c.args.clauses.now c.args.trail.now.entries c.args.fixed.now.place c.args.fixed.now.lit c.args.fixed.now.reason 0 x (take c.in_ok-resolves.resolves.len (c.loop-i.resolved ++ drop (length c.loop-i.resolved) c.in_ok-resolves.resolves.items))) _ c.loop-i.marked c.in_ok-marks.marks.items marks k
