use Rattle.planner.proofs.PlannerLaws.{is_plan_run}
use Rattle.planner.proofs.program.plan_run.Goals as goal

pub returns : goal.returns
returns g c =
    let plan = c.plan_is_least.ensures in
    let none = c.none_is_reached.ensures in
    is_plan_run (record { valid = plan.valid; reached = plan.reached; least = plan.least; words = none.words; plans = none.plans }) _ _ c.run.ensures
