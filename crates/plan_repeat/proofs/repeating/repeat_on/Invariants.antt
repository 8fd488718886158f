use Rattle.std.proofs.Common.{replicate}
use Rattle.plan_step.specs.State.{PlanState}
use Rattle.plan_step.specs.Held.{state_of}
use Rattle.plan_step.specs.Meaning.{HasStep, Run}
use Rattle.plan_step.specs.Places.{KeepsPlaces}
use Rattle.plan_step.specs.Touches.{DiffersIn}
use Rattle.plan_step.specs.Fitting.{targets_of}
use Rattle.plan_repeat.proofs.repeating.repeat_on.Given as goal

abbrev pub invariant-loop-done : goal.invariant-loop-done
invariant-loop-done l = record {
  run : (s : PlanState) → HasStep l.task s l.by (state_of l.initial.state) → Run l.task s (replicate l.done l.by) (state_of l.state);
  differs : DiffersIn (targets_of l.task l.by) (state_of l.initial.state) (state_of l.state);
  keeps : KeepsPlaces l.initial.state l.state;
}
