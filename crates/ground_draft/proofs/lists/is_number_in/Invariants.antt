use Rattle.std.proofs.Common.{◌≡◌, drop}
use Rattle.task_core.specs.Step.{is_in}
use Rattle.ground_draft.proofs.lists.is_number_in.Given as goal

abbrev pub invariant-loop-m : goal.invariant-loop-m
invariant-loop-m l = is_in l.n l.numbers ≡ is_in l.n (drop l.m-index l.numbers)
