use Rattle.std.proofs.Common.{◌≡◌, map, take}
use Rattle.plan_step.specs.Held.{state_of}
use Rattle.ground_action.specs.Setting.{value_in}
use Rattle.ground.proofs.starting.values.Given as goal

abbrev pub invariant-loop-number : goal.invariant-loop-number
invariant-loop-number l = l.values.items ≡ map (value_in (state_of l.start)) (take l.number l.funcs)
