use Rattle.plan_repeat.proofs.RolledSteps.{rolled-run, hold-between}
use Rattle.plan_repeat.proofs.laws.rolling.Goals as goal

pub returns-clause-runs : goal.returns-clause-runs
returns-clause-runs c = λ task s t by h n linear r last. rolled-run task s t by h linear r n last

pub returns-clause-between : goal.returns-clause-between
returns-clause-between c = λ task s t by h m n linear r l last. hold-between task s t by h linear r m n l last
