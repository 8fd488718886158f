use Rattle.plan_judge.proofs.Meanings.{valid-is}
use Rattle.plan_judge.proofs.laws.valid_outcome_is_valid.Goals as goal

pub returns : goal.returns
returns c = valid-is
