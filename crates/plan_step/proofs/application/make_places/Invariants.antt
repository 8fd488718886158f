use Rattle.std.proofs.Common.{◌≡◌}
use Rattle.plan_step.specs.Held.{state_of}
use Rattle.plan_step.specs.Places.{KeepsPlaces}
use Rattle.plan_step.specs.Touches.{HasPlace}
use Rattle.plan_step.proofs.Placing.{EachBelow}
use Rattle.plan_step.proofs.application.make_places.Given as goal

abbrev pub invariant-loop-touch : goal.invariant-loop-touch
invariant-loop-touch l = record {
  same : state_of l.state ≡ state_of l.initial.state;
  keeps : KeepsPlaces l.initial.state l.state;
  places : EachBelow (HasPlace l.state) l.touches l.touch-index;
}
