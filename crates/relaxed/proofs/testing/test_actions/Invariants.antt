use Rattle.std.proofs.Common.{◌≡◌, ℕ, ◌<◌, ◌≤◌, ◌||◌, length}
use Rattle.relaxed.specs.Layers.{is_supported}
use Rattle.relaxed.specs.Named.{tested_operations, AllPartsFit}
use Rattle.relaxed.specs.inside.Kept.{layer_of}
use Rattle.relaxed.specs.inside.Nexting.{action_in}
use Rattle.relaxed.specs.inside.Testing.{flag_in, first_in, first_after}
use Rattle.relaxed.proofs.testing.test_actions.Given as goal

-- the actions so far are tested, the others are as they were
abbrev pub invariant-loop-i : goal.invariant-loop-i
invariant-loop-i l = record {
  flag_size : length l.flags ≡ length l.initial.flags;
  first_size : length l.first ≡ length l.initial.first;
  flag_each : (n : ℕ) → n < l.i → flag_in l.flags n ≡ (flag_in l.initial.flags n || is_supported (layer_of l.table) (action_in l.actions n));
  first_each : (n : ℕ) → n < l.i → first_in l.first n ≡ first_after (flag_in l.initial.flags n) (is_supported (layer_of l.table) (action_in l.actions n)) l.layer (first_in l.initial.first n);
  flag_left : (n : ℕ) → l.i ≤ n → flag_in l.flags n ≡ flag_in l.initial.flags n;
  first_left : (n : ℕ) → l.i ≤ n → first_in l.first n ≡ first_in l.initial.first n;
  fits : (n : ℕ) → n < l.i → AllPartsFit (tested_operations (flag_in l.initial.flags n) (layer_of l.table) (action_in l.actions n));
}
