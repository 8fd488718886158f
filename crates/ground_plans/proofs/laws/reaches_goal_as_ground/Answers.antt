use Rattle.ground_plans.proofs.PlanLaws.{reaches_as_ground}
use Rattle.ground_plans.proofs.laws.reaches_goal_as_ground.Goals as goal

pub returns : goal.returns
returns c task places n line = reaches_as_ground task line places n
