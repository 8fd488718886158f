use Rattle.plan_step.proofs.LeafLaws.{tested_goal}
use Rattle.plan_step.proofs.laws.tested_goal_holds.Goals as goal

pub returns : goal.returns
returns c = tested_goal
