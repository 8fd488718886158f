use Rattle.ground_plans.proofs.PlanLaws.{lifted, lowered_at}
use Rattle.ground_exact.proofs.laws.runs_as_ground.Goals as goal

pub returns-clause-to_ground : goal.returns-clause-to_ground
returns-clause-to_ground c task line word below s t g seen run = lowered_at task line word s t g below seen run

pub returns-clause-from_ground : goal.returns-clause-from_ground
returns-clause-from_ground c task line word below s g h seen run =
    let there = lifted task line word s g h below seen run in
    (there.end, there.run, there.seen)
