use Rattle.plan_step.proofs.RunLaws.{goal_at_start, start_has_goal}
use Rattle.plan_step.proofs.laws.plan_of_no_steps.Goals as goal

pub returns-clause-valid : goal.returns-clause-valid
returns-clause-valid c = goal_at_start

pub returns-clause-only_valid : goal.returns-clause-only_valid
returns-clause-only_valid c = start_has_goal
