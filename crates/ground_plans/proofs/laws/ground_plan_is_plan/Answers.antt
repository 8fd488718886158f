use Rattle.ground_plans.proofs.PlanLaws.{ground_plan_is}
use Rattle.ground_plans.proofs.laws.ground_plan_is_plan.Goals as goal

pub returns : goal.returns
returns c task line = ground_plan_is task line
