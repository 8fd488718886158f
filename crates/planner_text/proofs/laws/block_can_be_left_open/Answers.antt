use Rattle.planner_text.proofs.Refuting.{left_open}
use Rattle.planner_text.proofs.laws.block_can_be_left_open.Goals as goal

pub returns : goal.returns
returns c = left_open
