use Rattle.plan_step.proofs.StepLaws.{step_fails_wide}
use Rattle.plan_step.proofs.laws.failed_step_is_none.Goals as goal

pub returns : goal.returns
returns c = step_fails_wide
