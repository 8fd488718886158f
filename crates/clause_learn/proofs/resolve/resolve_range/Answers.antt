use Rattle.std.proofs.Common.{rules, ◌≡◌, ◌<◌, ◌+◌, ◌-◌, ℕ, List, true, false, length, slice_get, Some, None, ap, sym, ◌∙◌, get_or, refl, arith, subst, Option}
use Rattle.clause_trail.specs.declared.trail.Entry.{Entry}
use Rattle.clause_trail.proofs.Gets.{get-from}
use Rattle.clause_learn.specs.inside.Leaving.{HasOneLeft}
use Rattle.clause_trail.specs.Decisions.{HasDecisionAt}
use Rattle.clause_learn.proofs.Licences.{one_resolve, one_skip}
use Rattle.clause_learn.proofs.Closing.{all_marked_grows}
use Rattle.clause_learn.proofs.resolve.resolve_range.Goals.{else-marked-i-via-then-marked-i+else-goes, else-marked-i-via-else-marked-i}
use Rattle.clause_learn.proofs.resolve.resolve_range.Goals as goal

first : Entry
first = record { lit = record { boolean = 0; pos = false }; reason = None }

pub loop-i-init : goal.loop-i-init
loop-i-init c = record { low = c.requires.range; marked = c.requires.marked; one = c.requires.one }

pub resolve_at-requires-clause-entry : goal.resolve_at-requires-clause-entry
unfolding first
resolve_at-requires-clause-entry c =
    let lt : c.loop-i.i - 1 < length c.args.trail.now.entries = omega (arith, c.loop-i.auto.i, c.loop-i-test.true, c.requires.within) in
    let e : Entry = get_or c.args.trail.now.entries (c.loop-i.i - 1) first in
    let at : slice_get c.args.trail.now.entries (c.loop-i.i - 1) ≡ Some e = get-from c.args.trail.now.entries (c.loop-i.i - 1) first e lt refl in
    (e.lit, at ∙ ap (λ (r : Option ℕ). let x : Entry = record { lit = e.lit; reason = r } in Some x) (ap (λ (l : List Entry). (get_or l (c.loop-i.i - 1) first).reason) (sym c.entries-entries.ensures.value) ∙ c.in-Some.is))

pub resolve_at-requires-clause-here : goal.resolve_at-requires-clause-here
resolve_at-requires-clause-here c =
    let lt : c.loop-i.i - 1 < length c.loop-i.marked = omega (arith, c.loop-i.auto.i, c.loop-i-test.true, c.requires.within, c.loop-i.invariant.marked.marks) in
    get-from c.loop-i.marked (c.loop-i.i - 1) false true lt c.if-marked-i.true

pub loop-i-preserved-in-Some : goal.loop-i-preserved-in-Some
loop-i-preserved-in-Some c =
    let lt : c.loop-i.i - 1 < length c.loop-i.marked = omega (arith, c.loop-i.auto.i, c.loop-i-test.true, c.requires.within, c.loop-i.invariant.marked.marks) in
    let up : c.loop-i.i ≡ (c.loop-i.i - 1) + 1 = omega (arith, c.loop-i-test.true) in
    let one = subst (λ (n : ℕ). HasOneLeft c.args.base c.args.from n c.loop-i.marked c.loop-i.resolved) up c.loop-i.invariant.one in
    record {
      low = omega (arith, c.loop-i-test.true);
      marked = record {
        closed = c.resolve_at.ensures.closed;
        all_marked = λ d e. all_marked_grows c.args.trail.now.entries c.loop-i.marked c.resolve_at.new.marked d c.resolve_at.ensures.grows (c.loop-i.invariant.marked.all_marked d e);
        marks = search (rules, c.loop-i.invariant.marked.marks);
        resolves = search (rules, c.loop-i.invariant.marked.resolves);
      };
      one = one_resolve c.args.base c.args.from (c.loop-i.i - 1) c.loop-i.marked c.resolve_at.new.marked c.loop-i.resolved c.resolve_at.new.resolved one c.resolve_at.ensures.below c.resolve_at.ensures.resolved (get-from c.loop-i.marked (c.loop-i.i - 1) false true lt c.if-marked-i.true);
    }

pub loop-i-preserved-in_default : goal.loop-i-preserved-in_default
unfolding first
loop-i-preserved-in_default c =
    let j : ℕ = c.loop-i.i - 1 in
    let up : c.loop-i.i ≡ (c.loop-i.i - 1) + 1 = omega (arith, c.loop-i-test.true) in
    let one = subst (λ (n : ℕ). HasOneLeft c.args.base c.args.from n c.loop-i.marked c.loop-i.resolved) up c.loop-i.invariant.one in
    let lt : c.loop-i.i - 1 < length c.args.trail.now.entries = omega (arith, c.loop-i.auto.i, c.loop-i-test.true, c.requires.within) in
    let e : Entry = get_or c.args.trail.now.entries (c.loop-i.i - 1) first in
    let at : slice_get c.args.trail.now.entries (c.loop-i.i - 1) ≡ Some e = get-from c.args.trail.now.entries (c.loop-i.i - 1) first e lt refl in
    let none : e.reason ≡ None = ap (λ (l : List Entry). (get_or l (c.loop-i.i - 1) first).reason) (sym c.entries-entries.ensures.value) ∙ c.in_default.is in
    let d : HasDecisionAt c.args.trail.now.entries (c.loop-i.i - 1) = (e.lit, at ∙ ap (λ (r : Option ℕ). let x : Entry = record { lit = e.lit; reason = r } in Some x) none) in
    record {
      low = omega (arith, c.loop-i-test.true);
      marked = c.loop-i.invariant.marked;
      one = one_skip c.args.base c.args.from (c.loop-i.i - 1) c.loop-i.marked c.loop-i.resolved one
          (λ m f k fk kj mk. c.requires.from (c.loop-i.i - 1) (omega arith) d)
          (λ m lb. c.requires.base (c.loop-i.i - 1) lb d);
    }

pub loop-i-preserved : goal.loop-i-preserved
loop-i-preserved c =
    let up : c.loop-i.i ≡ (c.loop-i.i - 1) + 1 = omega (arith, c.loop-i-test.true) in
    let one = subst (λ (n : ℕ). HasOneLeft c.args.base c.args.from n c.loop-i.marked c.loop-i.resolved) up c.loop-i.invariant.one in
    let lt : c.loop-i.i - 1 < length c.loop-i.marked = omega (arith, c.loop-i.auto.i, c.loop-i-test.true, c.requires.within, c.loop-i.invariant.marked.marks) in
    record {
      low = omega (arith, c.loop-i-test.true);
      marked = c.loop-i.invariant.marked;
      one = elim c.else-marked-i.branch [
        | else-marked-i-via-then-marked-i+else-goes w ↦
            let q = w.goes.ensures w.if-goes.false in
            one_skip c.args.base c.args.from (c.loop-i.i - 1) c.loop-i.marked c.loop-i.resolved one (λ m f. q.1) (λ m lb. omega (arith, q.0))
        | else-marked-i-via-else-marked-i w ↦
            let no : slice_get c.loop-i.marked (c.loop-i.i - 1) ≡ Some true → ⊥ = λ m. let h = get-from c.loop-i.marked (c.loop-i.i - 1) false false lt w.if-marked-i.false in cc in
            one_skip c.args.base c.args.from (c.loop-i.i - 1) c.loop-i.marked c.loop-i.resolved one (λ m f. absurd (no m)) (λ m lb. no m)
      ];
    }

pub returns-clause-one : goal.returns-clause-one
returns-clause-one c =
    let end : c.loop-i.i ≡ c.args.low = omega (arith, c.loop-i.invariant.low, c.loop-i-test.false) in
    subst (λ (n : ℕ). HasOneLeft c.args.base c.args.from n c.loop-i.marked c.loop-i.resolved) end c.loop-i.invariant.one
