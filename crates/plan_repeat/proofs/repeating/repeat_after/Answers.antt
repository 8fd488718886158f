use Rattle.plan_step.specs.Held.{state_of}
use Rattle.std.proofs.Common.{ℕ, List, ◌<◌, subst, arith}
use Rattle.pddl_task.specs.declared.condition.Cond.{Cond}
use Rattle.pddl_task.specs.declared.effect.Effect.{Effect}
use Rattle.plan_repeat.specs.inside.Repeating.{IsApart}
use Rattle.plan_repeat.proofs.Beginning.{begun-step, apart-in-turn}
use Rattle.plan_repeat.proofs.RepeatLaws.{one-step, begun-jumps}
use Rattle.plan_repeat.proofs.repeating.repeat_after.Goals as goal

pub returns-then-times-eq1-clause-repeats : goal.returns-then-times-eq1-clause-repeats
returns-then-times-eq1-clause-repeats c = λ s h.
    let now = state_of c.args.state.now in
    one-step c.args.task.now c.args.by.now s now c.args.times c.if-times-eq1.true (begun-step c.args.task.now c.args.by.now c.args.action.now c.args.touches.now s now h)

pub returns-in-Ok-Some-clause-repeats : goal.returns-in-Ok-Some-clause-repeats
returns-in-Ok-Some-clause-repeats c = λ s h.
    let some = c.requires.some in
    let not_one = c.if-times-eq1.false in
    let many : 1 < c.args.times = omega arith in
    begun-jumps c.args.task.now c.args.by.now c.args.action.now c.args.touches.now s (state_of c.args.state.now) h c.well_formed-2.ensures.linear
    c.as_slice-args.result.now c.as_slice-conds.result.now c.as_slice-effs.result.now c.in-Ok-Some.growths.items c.as_slice.result.now
    c.as_slice-args.ensures c.as_slice-conds.ensures c.as_slice-effs.ensures c.as_slice.ensures.value
    (rw c.in-Ok-Some.field-0-is at c.in-Ok-Some.ensures) c.args.times many (state_of c.jump.new.state) c.jump.result c.jump.ensures.jumps

pub returns-in-Ok-None-clause-repeats : goal.returns-in-Ok-None-clause-repeats
returns-in-Ok-None-clause-repeats c = λ s h.
    let now = state_of c.args.state.now in
    let task = c.args.task.now in
    let action = c.args.action.now in
    let touches = c.args.touches.now in
    c.repeat_on.ensures.repeats s (begun-step task c.args.by.now action touches s now h)
    (apart-in-turn task c.args.by.now action touches s now h
    (subst (λ (es : List Effect). IsApart task now c.args.by.now.args action.conds es touches) c.as_slice-effs.ensures
    (subst (λ (cs : List Cond). IsApart task now c.args.by.now.args cs c.as_slice-effs.result.now touches) c.as_slice-conds.ensures
    (subst (λ (xs : List ℕ). IsApart task now xs c.as_slice-conds.result.now c.as_slice-effs.result.now touches) c.as_slice-args.ensures (rw c.in-Ok-None.field-0-is at c.in-Ok-None.ensures)))))
