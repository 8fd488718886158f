use Rattle.plan_step.specs.Held.{state_of}
use Rattle.plan_repeat.proofs.Jumps.{rolls-to}
use Rattle.plan_repeat.proofs.jumping.roll_to.Goals as goal

pub returns-clause-rolls : goal.returns-clause-rolls
returns-clause-rolls c =
    rolls-to c.args.touches.now c.args.growths.now (state_of c.args.state.now) (state_of c.roll_all.new.state) c.args.steps c.in_ok-steps.steps c.roll_all.result c.requires.some c.in_ok-steps.ensures c.roll_all.ensures.rolls
