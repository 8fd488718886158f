use Rattle.std.proofs.Common.{◌≡◌, ℕ, ◌<◌, ◌&&◌, ◌||◌, false, length, drop, slice_index_or}
use Rattle.std.specs.List.{list_any}
use Rattle.task_core.specs.Step.{is_in}
use Rattle.relaxed.specs.Layers.{is_supported, widened}
use Rattle.relaxed.specs.Named.{given_operations, AllPartsFit}
use Rattle.relaxed.specs.inside.Kept.{interval_in, layer_of}
use Rattle.relaxed.specs.inside.Nexting.{KeepsSizes, action_in}
use Rattle.relaxed.proofs.next.widen_by_all.Given as goal

-- the layer so far, and the actions that are left
abbrev pub invariant-loop-i : goal.invariant-loop-i
invariant-loop-i l = record {
  sizes : KeepsSizes l.initial.next l.next;
  fits : (n : ℕ) → n < l.i → AllPartsFit (given_operations (layer_of l.table) (action_in l.actions n));
  true_each : (k : ℕ) → k < length l.initial.next.may_be_true
      → (slice_index_or l.next.may_be_true k false || list_any (λ a. is_supported (layer_of l.table) a && is_in k a.adds) (drop l.i l.actions))
      ≡ (slice_index_or l.initial.next.may_be_true k false || list_any (λ a. is_supported (layer_of l.table) a && is_in k a.adds) l.actions);
  false_each : (k : ℕ) → k < length l.initial.next.may_be_false
      → (slice_index_or l.next.may_be_false k false || list_any (λ a. is_supported (layer_of l.table) a && is_in k a.dels) (drop l.i l.actions))
      ≡ (slice_index_or l.initial.next.may_be_false k false || list_any (λ a. is_supported (layer_of l.table) a && is_in k a.dels) l.actions);
  interval_each : (k : ℕ) → k < length l.initial.next.intervals
      → widened (layer_of l.table) k (drop l.i l.actions) (interval_in l.next.intervals k) ≡ widened (layer_of l.table) k l.actions (interval_in l.initial.next.intervals k);
}
