use Rattle.ground_plans.proofs.PlanLaws.{plan_is_word}
use Rattle.ground_plans.proofs.laws.every_plan_is_a_word.Goals as goal

pub returns : goal.returns
returns c task places n plan line = plan_is_word task line places n plan
