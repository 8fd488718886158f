use Rattle.task_core.specs.Task.{action_at, idle}
use Rattle.relaxed.proofs.Supported.{step-supported}
use Rattle.relaxed.proofs.Steps.{start-inside, step-inside}
use Rattle.relaxed.proofs.laws.step_stays_inside.Goals as goal

pub returns-clause-start : goal.returns-clause-start
returns-clause-start c = start-inside

pub returns-clause-supported : goal.returns-clause-supported
returns-clause-supported c task y s n promised below inside h = step-supported task y s inside (action_at task n) (promised.actions n idle below) h

pub returns-clause-next : goal.returns-clause-next
returns-clause-next c task y s n promised below inside h = step-inside task y s n below (promised.actions n idle below) inside h
