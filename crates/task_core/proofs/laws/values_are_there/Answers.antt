use Rattle.task_core.specs.Task.{idle}
use Rattle.task_core.proofs.ValueLaws.{reads_valued, value_stays}
use Rattle.task_core.proofs.laws.values_are_there.Goals as goal

pub returns-clause-action : goal.returns-clause-action
returns-clause-action c task n s promised below holds = reads_valued task _ s (promised.actions n idle below) holds.literals

pub returns-clause-goal : goal.returns-clause-goal
returns-clause-goal c task s promised holds = reads_valued task task.goal s promised.goal holds.literals

pub returns-clause-stays : goal.returns-clause-stays
returns-clause-stays c task n f s promised below had = value_stays task _ f s (promised.actions n idle below) had
