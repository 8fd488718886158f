use Rattle.std.proofs.Common.{◌-◌, length}
use Rattle.plan_text.specs.inside.Tables.{names_in}
use Rattle.plan_text.proofs.Arguments.{ArgumentsSoFar}
use Rattle.plan_text.proofs.part.read_arguments.Given as goal

abbrev pub invariant-loop-piece : goal.invariant-loop-piece
invariant-loop-piece l = ArgumentsSoFar (names_in l.tables) l.text l.from l.at l.initial.faults l.faults l.found

abbrev pub decreases-loop-piece : goal.decreases-loop-piece
decreases-loop-piece l = length l.text - l.at
