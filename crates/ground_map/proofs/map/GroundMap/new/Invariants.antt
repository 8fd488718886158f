-- All tables so far are empty.
use Rattle.std.proofs.Common.{◌≡◌, ℕ, length, map, None, List}
use Rattle.ground_map.specs.GroundMap.{value_at}
use Rattle.ground_map.specs.inside.Entries.{entries_of}
use Rattle.ground_map.proofs.map.GroundMap.new.Given as goal

abbrev pub invariant-loop : goal.invariant-loop
invariant-loop g l = record {
  so_far : length l.tables.items ≡ l.counter;
  empty : (head : ℕ) (args : List ℕ) → value_at (map entries_of l.tables.items) head args ≡ None;
}
