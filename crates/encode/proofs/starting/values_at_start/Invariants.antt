use Rattle.std.proofs.Common.{◌≡◌, map, take}
use Rattle.encode.specs.inside.Starting.{constant_value}
use Rattle.encode.proofs.starting.values_at_start.Given as goal

abbrev pub invariant-loop-f : goal.invariant-loop-f
invariant-loop-f l = l.values ≡ map constant_value (take l.f l.task.funcs)
