use Rattle.std.proofs.Common.{◌≡◌, ℕ, ◌<◌, subst, length, arith, Some, true, false, slice_get, get_or, None, refl}
use Rattle.clause_trail.specs.declared.trail.Entry.{Entry}
use Rattle.clause_trail.proofs.Gets.{get-from}
use Rattle.clause_learn.proofs.Rup.{IsPartial, partial_start, partial_skip, partial_next, no_decision, learned}
use Rattle.clause_learn.proofs.kept.hints.Goals.{then-resolved-i+in-Some+in_ok-push, then-resolved-i+in_default, else-resolved-i}
use Rattle.clause_learn.proofs.kept.hints.Goals as goal

pub loop-i-init : goal.loop-i-init
loop-i-init c = λ clauses marked before a. rw c.new-hints.ensures.items (partial_start a)

first : Entry
first = record { lit = record { boolean = 0; pos = false }; reason = None }

pub loop-i-preserved : goal.loop-i-preserved
unfolding first
loop-i-preserved c = λ clauses marked before a.
    let h = c.loop-i.invariant clauses marked before a in
    let lt : c.loop-i.i < length c.args.entries.now = omega arith in
    let lt2 : c.loop-i.i < length c.args.resolved.now = omega (arith, c.requires) in
    let at : slice_get c.args.entries.now c.loop-i.i ≡ Some (get_or c.args.entries.now c.loop-i.i first) = get-from c.args.entries.now c.loop-i.i first _ lt refl in
    elim c.if-resolved-i.branch [
      | then-resolved-i+in-Some+in_ok-push w ↦
          rw w.hints-is (rw w.in_ok-push.ensures.items (partial_next a (get-from c.args.resolved.now c.loop-i.i false true lt2 w.if-resolved-i.true) h w.in-Some.reason _ at w.in-Some.is))
      | then-resolved-i+in_default w ↦ absurd (no_decision a c.loop-i.i (get-from c.args.resolved.now c.loop-i.i false true lt2 w.if-resolved-i.true) _ at w.in_default.is)
      | else-resolved-i w ↦ rw w.hints-is (partial_skip (get-from c.args.resolved.now c.loop-i.i false false lt2 w.if-resolved-i.false) h)
    ]

pub returns : goal.returns
returns c = λ clauses marked before a.
    let h = c.loop-i.invariant clauses marked before a in
    let end : c.loop-i.i ≡ length c.args.entries.now = omega arith in
    let all = subst (λ (n : ℕ). IsPartial clauses c.args.entries.now marked c.args.resolved.now before n c.loop-i.hints.items) end h in
    rw c.in_ok-push-2.ensures.items (learned a all)
