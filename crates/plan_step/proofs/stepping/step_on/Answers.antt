use Rattle.plan_step.specs.Held.{state_of}
use Rattle.plan_step.specs.Fitting.{targets_of}
use Rattle.plan_step.proofs.Fitting.{fails_same}
use Rattle.plan_step.proofs.stepping.step_on.Goals as goal

pub returns-in_err-make_step-clause-differs : goal.returns-in_err-make_step-clause-differs
returns-in_err-make_step-clause-differs c =
    fails_same (targets_of c.args.task.now c.args.by.now) _ (state_of c.args.state.now) (state_of c.make_step.new.state) c.in_err-make_step.field-0.0 c.in_err-make_step.ensures.made
