use Rattle.std.proofs.Common.{◌≡◌, take}
use Rattle.plan_step.specs.Held.{state_of}
use Rattle.plan_step.specs.inside.Start.{with_facts}
use Rattle.plan_step.proofs.state.add_facts.Given as goal

abbrev pub invariant-loop-fact : goal.invariant-loop-fact
invariant-loop-fact l = state_of l.state ≡ with_facts (take l.fact-index l.facts) (state_of l.initial.state)
