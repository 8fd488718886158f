use Rattle.task_core.proofs.GrowthLaws.{holds_between}
use Rattle.task_core.proofs.laws.comparison_holds_between.Goals as goal

pub returns : goal.returns
returns c = holds_between
