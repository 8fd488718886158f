use Rattle.ground_action.proofs.TaskLaws.{goal_to_ground}
use Rattle.ground_action.proofs.laws.goal_is_ground_goal.Goals as goal

pub returns : goal.returns
returns c = goal_to_ground
