use Rattle.ground_action.proofs.TaskLaws.{step_to_ground}
use Rattle.ground_action.proofs.laws.step_is_ground_step.Goals as goal

pub returns-clause-to_ground : goal.returns-clause-to_ground
returns-clause-to_ground c = step_to_ground
