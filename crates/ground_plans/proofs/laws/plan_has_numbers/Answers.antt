use Rattle.ground_plans.proofs.PlanLaws.{has_numbers}
use Rattle.ground_plans.proofs.laws.plan_has_numbers.Goals as goal

pub returns : goal.returns
returns c task line = has_numbers task line
