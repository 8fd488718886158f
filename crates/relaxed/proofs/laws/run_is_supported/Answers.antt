use Rattle.std.proofs.Common.{◌≡◌, ℕ, ◌+◌, true, subst, slice_index, arith}
use Rattle.task_core.specs.Task.{start, action_at}
use Rattle.relaxed.specs.Layers.{layer, is_supported}
use Rattle.relaxed.proofs.Steps.{start-inside, run-supported}
use Rattle.relaxed.proofs.laws.run_is_supported.Goals as goal

pub returns : goal.returns
returns c task plan t i promised numbered run below =
    let same : 0 + i ≡ i = omega arith in
    subst (λ (n : ℕ). is_supported (layer task n) (action_at task (slice_index plan i)) ≡ true) same
    (run-supported task promised.actions plan (start task) t 0 (start-inside task) numbered run i below)
