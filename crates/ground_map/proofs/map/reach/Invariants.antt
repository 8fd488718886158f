use Rattle.std.proofs.Common.{◌+◌, ◌-◌, vec_len}
use Rattle.ground_map.specs.inside.Entries.{Reaches}
use Rattle.ground_map.proofs.map.reach.Given as goal

abbrev pub invariant-reaching : goal.invariant-reaching
invariant-reaching g l = Reaches l.initial.tables.items l.tables.items

abbrev pub decreases-reaching : goal.decreases-reaching
decreases-reaching g l = l.head + 1 - vec_len l.tables
