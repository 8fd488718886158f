use Rattle.std.proofs.Common.{Ok, Err, true, false, refl, sym, subst}
use Rattle.plan_step.specs.Held.{state_of}
use Rattle.plan_judge.specs.Course.{ComesTo}
use Rattle.plan_judge.specs.declared.outcome.Outcome.{Outcome}
use Rattle.plan_judge.proofs.Parts.{none-made, one-made, breaks-here, all-tested}
use Rattle.plan_judge.proofs.judging.find_outcome.Goals as goal
use Rattle.plan_judge.proofs.judging.find_outcome.Goals.{in-Ok-true, in-Ok-false, in-Err-goal}

pub loop-i-init : goal.loop-i-init
loop-i-init c = none-made c.args.task.now c.args.plan.now (state_of c.in_ok-state.state) c.in_ok-state.ensures

pub returns-in-Err : goal.returns-in-Err
returns-in-Err c =
    breaks-here c.args.task.now c.args.plan.now c.parts-part-items.result.now c.loop-i.i (state_of c.loop-i.state) c.parts-part-items.ensures.value c.loop-i.invariant c.part-item.result _
    c.loop-i-test.true c.part-item.is refl c.in-Err.ensures.0 c.in_default-fail.not-Memory

pub loop-i-preserved : goal.loop-i-preserved
loop-i-preserved c =
    one-made c.args.task.now c.args.plan.now c.parts-part-items.result.now c.loop-i.i (state_of c.loop-i.state) c.parts-part-items.ensures.value c.loop-i.invariant c.part-item.result (state_of c.repeat.new.state)
    c.loop-i-test.true c.part-item.is c.in_default.ensures

pub returns : goal.returns
returns c =
    let task = c.args.task.now in
    let plan = c.args.plan.now in
    let tested = all-tested task plan c.parts-part-items.result.now c.loop-i.i (state_of c.loop-i.state) c.parts-part-items.ensures.value c.loop-i.invariant in
    let P : Outcome → Type 0 = λ o. ComesTo task plan o in
    elim c.match-goal.branch [
      | in-Ok-true w ↦ subst P (sym w.result-is) (tested (Ok true) c.loop-i-test.false (rw w.in-Ok-true.field-0-test at w.in-Ok-true.ensures))
      | in-Ok-false w ↦ subst P (sym w.result-is) (tested (Ok false) c.loop-i-test.false (rw w.in-Ok-false.field-0-test at w.in-Ok-false.ensures))
      | in-Err-goal w ↦ subst P (sym w.result-is) (tested (Err w.in-Err-goal.wide) c.loop-i-test.false w.in-Err-goal.ensures)
    ]
