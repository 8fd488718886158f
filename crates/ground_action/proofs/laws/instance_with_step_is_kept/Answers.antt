use Rattle.ground_action.proofs.TaskLaws.{kept_where_step}
use Rattle.ground_action.proofs.laws.instance_with_step_is_kept.Goals as goal

pub returns : goal.returns
returns c = kept_where_step
