use Rattle.ground_laws.proofs.StepLaws.{step_is, step_of}
use Rattle.ground_laws.proofs.laws.action_steps_as_its_instance.Goals as goal

pub returns-clause-to_ground : goal.returns-clause-to_ground
returns-clause-to_ground c = step_is

pub returns-clause-from_ground : goal.returns-clause-from_ground
returns-clause-from_ground c = step_of
