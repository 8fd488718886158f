use Rattle.ground_laws.proofs.StepLaws.{step_stands}
use Rattle.ground_laws.proofs.laws.instance_with_step_has_its_action.Goals as goal

pub returns : goal.returns
returns c = step_stands
