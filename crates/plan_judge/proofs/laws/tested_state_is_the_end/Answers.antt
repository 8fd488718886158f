use Rattle.plan_judge.proofs.Meanings.{tested-end}
use Rattle.plan_judge.proofs.laws.tested_state_is_the_end.Goals as goal

pub returns : goal.returns
returns c = tested-end
