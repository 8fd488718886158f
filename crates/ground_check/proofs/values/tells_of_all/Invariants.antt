use Rattle.std.proofs.Common.{◌≡◌, ◌+◌, drop}
use Rattle.task_core.specs.Task.{missing}
use Rattle.ground_check.proofs.ValueAtoms.{TellsFrom}
use Rattle.ground_check.proofs.values.tells_of_all.Given as goal

-- what is left decides
abbrev pub invariant-loop-f : goal.invariant-loop-f
invariant-loop-f l = (TellsFrom l.a l.p l.f (drop l.f l.funcs) → TellsFrom l.a l.first 0 l.funcs)
    × (l.p + missing (drop l.f l.funcs) ≡ l.first + missing l.funcs)
