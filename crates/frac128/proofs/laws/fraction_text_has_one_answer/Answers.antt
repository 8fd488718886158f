use Rattle.frac128.proofs.OneAnswer.{one_fraction}
use Rattle.frac128.proofs.laws.fraction_text_has_one_answer.Goals as goal

pub returns : goal.returns
returns c = one_fraction
