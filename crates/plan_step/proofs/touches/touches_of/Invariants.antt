use Rattle.std.proofs.Common.{take}
use Rattle.plan_step.specs.Held.{state_of}
use Rattle.plan_step.specs.inside.Touching.{AreTouches}
use Rattle.plan_step.proofs.Gathering.{IsGathered}
use Rattle.plan_step.proofs.touches.touches_of.Given as goal

abbrev pub invariant-loop-i : goal.invariant-loop-i
invariant-loop-i l = record {
  meant : IsGathered (state_of l.state) l.args l.effs l.i l.touches;
  sound : AreTouches (state_of l.state) l.args (take l.i l.effs) l.touches;
}
