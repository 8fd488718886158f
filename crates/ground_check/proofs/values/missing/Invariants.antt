use Rattle.std.proofs.Common.{◌≡◌, ◌+◌, ◌≤◌, drop}
use Rattle.task_core.specs.Task.{missing}
use Rattle.ground_check.proofs.values.missing.Given as goal

-- those so far, and those that are left
abbrev pub invariant-loop-func : goal.invariant-loop-func
invariant-loop-func l = (l.count + missing (drop l.func-index l.funcs) ≡ missing l.funcs) × (l.count ≤ l.func-index)
