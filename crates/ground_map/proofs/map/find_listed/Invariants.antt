use Rattle.std.proofs.Common.{◌≡◌, map}
use Rattle.std.specs.Map.{lookup}
use Rattle.ground_map.specs.GroundMap.{same_args}
use Rattle.ground_map.specs.inside.Entries.{entry, entries_at}
use Rattle.ground_map.proofs.map.find_listed.Given as goal

abbrev pub invariant-loop-key : goal.invariant-loop-key
invariant-loop-key g l = entries_at l.table (g.L.Listed.items l.args) ≡ lookup (same_args (g.L.Listed.items l.args)) (map entry l.key-iterator)
