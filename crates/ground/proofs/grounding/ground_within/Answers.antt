use Rattle.plan_step.specs.Held.{state_of}
use Rattle.ground.proofs.Whole.{concluded_task}
use Rattle.ground.proofs.grounding.ground_within.Goals as goal

pub conclude-requires-clause-parts : goal.conclude-requires-clause-parts
conclude-requires-clause-parts c = concluded_task c.args.task.now c.args.limit (state_of c.in_ok-start.start) c.in_ok-start.ensures c.in_ok-walk.field-0 c.in_ok-walk.ensures c.requires
