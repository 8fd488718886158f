use Rattle.plan_step.specs.Held.{state_of}
use Rattle.plan_step.proofs.Breaking.{makes_reason}
use Rattle.plan_step.proofs.stepping.step.Goals as goal

pub returns-clause-reason : goal.returns-clause-reason
returns-clause-reason c = makes_reason c.args.task.now (state_of c.args.state.now) (state_of c.step_on.new.state) c.args.by.now c.step_on.result c.step_on.ensures.made
