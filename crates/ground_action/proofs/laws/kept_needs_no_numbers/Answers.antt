use Rattle.ground_action.proofs.TaskLaws.{kept_unnumbered}
use Rattle.ground_action.proofs.laws.kept_needs_no_numbers.Goals as goal

pub returns : goal.returns
returns c = kept_unnumbered
