use Rattle.task_core.proofs.GrowthLaws.{value-grown}
use Rattle.task_core.proofs.laws.value_changes_evenly.Goals as goal

pub returns : goal.returns
returns c = value-grown
