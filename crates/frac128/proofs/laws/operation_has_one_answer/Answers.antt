use Rattle.frac128.proofs.OneAnswer.{one_operation}
use Rattle.frac128.proofs.laws.operation_has_one_answer.Goals as goal

pub returns : goal.returns
returns c = one_operation
