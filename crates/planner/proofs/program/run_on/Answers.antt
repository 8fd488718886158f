use Rattle.planner.proofs.Running.{runs_answered, runs_stopped}
use Rattle.planner.proofs.program.run_on.Goals as goal

pub returns-in-Ok : goal.returns-in-Ok
returns-in-Ok g c = runs_answered _ _ _ _ c.in-Ok.ensures.caused _ _ c.in-Ok.ensures.counts c.answer.ensures

pub returns-in-Err : goal.returns-in-Err
returns-in-Err g c = runs_stopped _ _ _ _ c.in-Err.stop _ c.in-Err.ensures.caused c.in-Err.ensures.counts c.print_stop.ensures
