use Rattle.std.proofs.Common.{◌≡◌, map, take}
use Rattle.ground.specs.Grounds.{func_in}
use Rattle.ground.proofs.starting.functions.Given as goal

abbrev pub invariant-loop-number : goal.invariant-loop-number
invariant-loop-number l = l.functions ≡ map func_in (take l.number l.funcs)
