use Rattle.relaxed.proofs.Stops.{layers_of_task_end}
use Rattle.relaxed.proofs.FirstLaws.{after-end}
use Rattle.relaxed.proofs.laws.layers_end.Goals as goal

pub returns-clause-end : goal.returns-clause-end
returns-clause-end c = layers_of_task_end

pub returns-clause-later : goal.returns-clause-later
returns-clause-later c task e n ends = after-end task e ends n
