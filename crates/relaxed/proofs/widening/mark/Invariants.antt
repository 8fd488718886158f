use Rattle.std.proofs.Common.{◌≡◌, ℕ, ◌<◌, false, ◌||◌, length, drop, slice_index_or}
use Rattle.task_core.specs.Step.{is_in}
use Rattle.relaxed.proofs.widening.mark.Given as goal

-- the flags so far, and the atoms that are left
abbrev pub invariant-loop-i : goal.invariant-loop-i
invariant-loop-i l = record {
  size : length l.flags ≡ length l.initial.flags;
  each : (k : ℕ) → k < length l.initial.flags
      → (slice_index_or l.flags k false || is_in k (drop l.i l.atoms)) ≡ (slice_index_or l.initial.flags k false || is_in k l.atoms);
}
