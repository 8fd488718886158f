use Rattle.std.proofs.Common.{ℕ, ◌+◌, ◌<◌, get_or}
use Rattle.task_core.specs.Task.{numbers}
use Rattle.ground_check.proofs.orderly.rise_by_number.Given as goal

-- the numbers so far rise
abbrev pub invariant-loop-i : goal.invariant-loop-i
invariant-loop-i g l = (k : ℕ) → k + 1 < l.i → get_or (numbers l.parts) k 0 < get_or (numbers l.parts) (k + 1) 0
