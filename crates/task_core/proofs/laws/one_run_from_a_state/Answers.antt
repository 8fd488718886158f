use Rattle.task_core.proofs.RunLaws.{one_run}
use Rattle.task_core.proofs.laws.one_run_from_a_state.Goals as goal

pub returns : goal.returns
returns c = one_run
