use Rattle.plan_judge.proofs.Meanings.{invalid-is}
use Rattle.plan_judge.proofs.laws.invalid_outcome_is_invalid.Goals as goal

pub returns : goal.returns
returns c = invalid-is
