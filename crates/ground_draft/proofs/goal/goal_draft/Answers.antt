use Rattle.plan_step.specs.Held.{state_of}
use Rattle.ground_draft.proofs.Goals.{answered_said}
use Rattle.ground_draft.proofs.goal.goal_draft.Goals as goal

pub returns : goal.returns
returns c = answered_said c.args.given.now.task.now (state_of c.args.given.now.start.now) c.args.given.now.atoms.now c.args.given.now.funcs.now c.distinct.ensures c.args.given.now.task.now.goal c.requires.numbered c.formed.ensures.linear.goal _ _ c.goal.ensures.value c.drafted.ensures
