use Rattle.std.proofs.Common.{◌≡◌, ℕ, ◌<◌, false, length, slice_index_or}
use Rattle.task_core.specs.Task.{start}
use Rattle.relaxed.specs.inside.Starting.{may_be}
use Rattle.relaxed.proofs.start.start_flags.Given as goal

-- the atoms so far
abbrev pub invariant-loop-p : goal.invariant-loop-p
invariant-loop-p l = record {
  size : length l.flags ≡ l.p;
  each : (n : ℕ) → n < l.p → slice_index_or l.flags n false ≡ may_be l.truth ((start l.task).truth n);
}
