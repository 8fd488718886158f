use Rattle.std.proofs.Common.{take}
use Rattle.ground.specs.inside.Concluding.{AreMarked}
use Rattle.ground.proofs.starting.mark_values.Given as goal

abbrev pub invariant-loop-value : goal.invariant-loop-value
invariant-loop-value l = AreMarked l.initial.truths.items l.truths.items l.marks.items (take l.value-index l.values)
