use Rattle.plan_step.specs.Held.{state_of}
use Rattle.ground_draft.proofs.Whole.{answered}
use Rattle.ground_draft.proofs.instance.instance_draft.Goals as goal

pub returns : goal.returns
returns c = answered c.args.given.now.task.now (state_of c.args.given.now.start.now) c.args.given.now.atoms.now c.args.given.now.funcs.now c.distinct.ensures c.distinct-2.ensures c.args.action.now c.args.args.now c.requires.numbered c.requires.begun _ c.made.ensures
