use Rattle.ground_walk.proofs.NumberLaws.{goal_numbered}
use Rattle.ground_walk.proofs.laws.goal_is_numbered.Goals as goal

pub returns : goal.returns
returns c = goal_numbered
