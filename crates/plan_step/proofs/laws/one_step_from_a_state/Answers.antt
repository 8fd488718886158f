use Rattle.plan_step.proofs.RunLaws.{one_step}
use Rattle.plan_step.proofs.laws.one_step_from_a_state.Goals as goal

pub returns : goal.returns
returns c = one_step
