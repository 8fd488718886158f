use Rattle.plan_repeat.proofs.RolledSteps.{literals-told}
use Rattle.plan_repeat.proofs.laws.literals_are_told.Goals as goal

pub returns : goal.returns
returns c = literals-told
