use Rattle.frac128.proofs.OneAnswer.{one_decimal}
use Rattle.frac128.proofs.laws.decimal_has_one_answer.Goals as goal

pub returns : goal.returns
returns c = one_decimal
