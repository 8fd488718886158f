use Rattle.ground_draft.proofs.Finishing.{goal_finished}
use Rattle.ground_draft.proofs.laws.finished_draft_is_ground_action.Goals as goal

pub returns-clause-goal : goal.returns-clause-goal
returns-clause-goal c = goal_finished
