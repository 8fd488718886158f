use Rattle.std.proofs.Common.{◌≡◌, take}
use Rattle.plan_step.specs.Held.{state_of}
use Rattle.plan_step.specs.inside.Start.{with_given_values}
use Rattle.plan_step.proofs.state.add_values.Given as goal

abbrev pub invariant-loop-given : goal.invariant-loop-given
invariant-loop-given l = state_of l.state ≡ with_given_values (take l.given-index l.values) (state_of l.initial.state)
