-- What reading two texts answers is a verdict of the program whose answers are tasks.
use Rattle.std.proofs.Common.{◌≡◌, ℕ, List, [], Result, Ok, Err, refl}
use Rattle.pddl_task.specs.declared.parts.TaskParts.{TaskParts}
use Rattle.patty_run.specs.declared.stop.Stop.{Stop}
use Rattle.patty_run.specs.Tasks.{ReadsTask}
use Rattle.patty_run.specs.inside.Runs.{TextsDecide}
use Rattle.planner.specs.inside.Answering.{reader}

pub decides : (domain problem : List ℕ) (r : Result TaskParts Stop) → ReadsTask domain problem r → TextsDecide reader domain problem [] r
decides domain problem (Ok task) is = record { task = task; is_task = is; allowed = refl }
decides domain problem (Err why) is = is
