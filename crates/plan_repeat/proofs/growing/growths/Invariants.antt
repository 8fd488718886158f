use Rattle.plan_step.specs.Held.{state_of}
use Rattle.plan_repeat.proofs.RollingOn.{GrowthsBelow}
use Rattle.plan_repeat.proofs.growing.growths.Given as goal

abbrev pub invariant-loop-touch : goal.invariant-loop-touch
invariant-loop-touch l = GrowthsBelow (state_of l.state) l.touches l.growths.items l.touch-index
