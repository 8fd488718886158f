use Rattle.std.proofs.Common.{take}
use Rattle.std.specs.List.{All}
use Rattle.bound_theory.specs.Points.{EventReads}
use Rattle.bound_theory.proofs.testing.all_hold.Given as goal

abbrev pub invariant-loop-event : goal.invariant-loop-event
invariant-loop-event l = All (EventReads l.formula.counts l.formula.atoms l.values) (take l.event-index l.events)
