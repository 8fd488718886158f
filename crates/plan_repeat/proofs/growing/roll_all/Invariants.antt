use Rattle.std.proofs.Common.{map}
use Rattle.plan_step.specs.Held.{state_of}
use Rattle.plan_step.specs.Places.{KeepsPlaces}
use Rattle.plan_step.specs.Touches.{DiffersIn, target_of}
use Rattle.plan_repeat.proofs.RollingOn.{IsRolling}
use Rattle.plan_repeat.proofs.growing.roll_all.Given as goal

abbrev pub invariant-loop-i : goal.invariant-loop-i
invariant-loop-i l = record {
  rolling : IsRolling l.touches l.growths l.steps (state_of l.initial.state) (state_of l.state) l.i;
  differs : DiffersIn (map target_of l.touches) (state_of l.initial.state) (state_of l.state);
  keeps : KeepsPlaces l.initial.state l.state;
}
