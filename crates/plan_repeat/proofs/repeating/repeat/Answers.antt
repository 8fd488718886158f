use Rattle.std.proofs.Common.{◌<◌, refl, arith}
use Rattle.plan_step.specs.Held.{state_of}
use Rattle.plan_repeat.proofs.RepeatLaws.{no-times, first-unfit}
use Rattle.plan_repeat.proofs.repeating.repeat.Goals as goal

pub returns-then-times-eq0 : goal.returns-then-times-eq0
returns-then-times-eq0 c = no-times c.args.task.now c.args.by.now c.args.times (state_of c.args.state.now) c.if-times-eq0.true

pub returns-in-Err : goal.returns-in-Err
returns-in-Err c =
    let not_none = c.if-times-eq0.false in
    let some : 0 < c.args.times = omega arith in
    (first-unfit c.args.task.now c.args.by.now (state_of c.args.state.now) c.args.times some c.in-Err.fail c.in-Err.ensures, refl)
