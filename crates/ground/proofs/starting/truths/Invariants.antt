use Rattle.std.proofs.Common.{◌≡◌, map, take}
use Rattle.plan_step.specs.Held.{state_of}
use Rattle.ground.specs.inside.Concluding.{truth_of}
use Rattle.ground.proofs.starting.truths.Given as goal

abbrev pub invariant-loop-number : goal.invariant-loop-number
invariant-loop-number l = l.truths.items ≡ map (truth_of (state_of l.start)) (take l.number l.atoms)
