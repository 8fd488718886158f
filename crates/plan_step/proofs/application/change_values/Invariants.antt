use Rattle.std.proofs.Common.{◌≡◌, map, drop}
use Rattle.plan_step.specs.Held.{state_of}
use Rattle.plan_step.specs.Places.{KeepsPlaces}
use Rattle.plan_step.specs.Effects.{values_after}
use Rattle.plan_step.specs.Touches.{EachTouch, HasTarget, DiffersIn, changes_of, target_of}
use Rattle.plan_step.proofs.application.change_values.Given as goal

abbrev pub invariant-loop-touch : goal.invariant-loop-touch
invariant-loop-touch l = record {
  values : values_after (changes_of l.touches) (state_of l.initial.state).value ≡ values_after (changes_of (drop l.touch-index l.touches)) (state_of l.state).value;
  truth : (state_of l.state).truth ≡ (state_of l.initial.state).truth;
  targets : EachTouch (HasTarget (state_of l.state)) l.touches;
  differs : DiffersIn (map target_of l.touches) (state_of l.initial.state) (state_of l.state);
  keeps : KeepsPlaces l.initial.state l.state;
}
