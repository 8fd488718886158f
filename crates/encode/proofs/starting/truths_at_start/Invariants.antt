use Rattle.std.proofs.Common.{◌≡◌, map, take}
use Rattle.encode.specs.inside.Starting.{constant_truth}
use Rattle.encode.proofs.starting.truths_at_start.Given as goal

abbrev pub invariant-loop-p : goal.invariant-loop-p
invariant-loop-p l = l.truths ≡ map constant_truth (take l.p l.task.atoms)
