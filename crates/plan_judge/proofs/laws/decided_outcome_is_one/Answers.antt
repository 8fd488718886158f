use Rattle.plan_judge.proofs.OneOutcome.{one-outcome}
use Rattle.plan_judge.proofs.laws.decided_outcome_is_one.Goals as goal

pub returns : goal.returns
returns c = one-outcome
