use Rattle.std.proofs.Common.{map, drop}
use Rattle.plan_step.specs.State.{PlanState}
use Rattle.plan_step.specs.Held.{state_of}
use Rattle.plan_step.specs.Places.{KeepsPlaces}
use Rattle.plan_step.specs.Touches.{EachTouch, IsKept, DiffersIn, target_of}
use Rattle.plan_step.proofs.application.restore.Given as goal

abbrev pub invariant-loop-touch : goal.invariant-loop-touch
invariant-loop-touch l = record {
  restored : (s : PlanState) → EachTouch (IsKept s) l.touches → DiffersIn (map target_of l.touches) s (state_of l.initial.state) → DiffersIn (map target_of (drop l.touch-index l.touches)) s (state_of l.state);
  keeps : KeepsPlaces l.initial.state l.state;
}
