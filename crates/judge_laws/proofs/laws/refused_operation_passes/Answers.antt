use Rattle.judge_laws.proofs.Steps.{answered_passes}
use Rattle.judge_laws.proofs.laws.refused_operation_passes.Goals as goal

pub returns : goal.returns
returns c = answered_passes
