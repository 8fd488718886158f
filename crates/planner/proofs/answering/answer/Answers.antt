use Rattle.planner.proofs.Answered.{answered_found, answered_failed}
use Rattle.planner.proofs.answering.answer.Goals as goal

pub returns-in-Ok : goal.returns-in-Ok
returns-in-Ok g c = answered_found _ _ _ c.in-Ok.found _ c.linear.ensures c.in-Ok.ensures c.status_of_found.ensures

pub returns-in-Err : goal.returns-in-Err
returns-in-Err g c = answered_failed _ _ _ _ _ _ _ _ c.linear.ensures c.in-Err.fail _ c.in-Err.ensures c.end_failed.ensures
