use Rattle.plan_step.specs.Held.{state_of}
use Rattle.plan_repeat.proofs.JumpEnds.{jump-ends, jump-lasts}
use Rattle.plan_repeat.proofs.jumping.jump.Goals as goal

pub returns-in-Ok-clause-jumps : goal.returns-in-Ok-clause-jumps
returns-in-Ok-clause-jumps c =
    jump-ends c.args.args.now c.args.conds.now c.args.touches.now c.args.growths.now c.args.times (state_of c.args.state.now) (state_of c.test_after.new.state) (state_of c.roll_to_end.new.state) c.requires.many
    c.in-Ok.field-0 c.roll_to_end.result c.in-Ok.ensures.tests c.roll_to_end.ensures.ends

pub returns-in-Err-clause-jumps : goal.returns-in-Err-clause-jumps
returns-in-Err-clause-jumps c =
    jump-lasts c.args.args.now c.args.conds.now c.args.touches.now c.args.growths.now c.args.times (state_of c.args.state.now) (state_of c.test_after.new.state) (state_of c.last_fails.new.state) c.requires.many
    c.last_fails.result c.in-Err.fail c.in-Err.ensures.tests c.last_fails.ensures.fails
