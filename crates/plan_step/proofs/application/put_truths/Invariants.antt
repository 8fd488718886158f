use Rattle.std.proofs.Common.{◌≡◌, take}
use Rattle.plan_step.specs.Held.{state_of}
use Rattle.plan_step.specs.Places.{KeepsPlaces}
use Rattle.plan_step.specs.Touches.{changes_of}
use Rattle.plan_step.specs.inside.Application.{with_truths}
use Rattle.plan_step.proofs.application.put_truths.Given as goal

abbrev pub invariant-loop-touch : goal.invariant-loop-touch
invariant-loop-touch l = record {
  put : state_of l.state ≡ with_truths l.truth (changes_of (take l.touch-index l.touches)) (state_of l.initial.state);
  keeps : KeepsPlaces l.initial.state l.state;
}
