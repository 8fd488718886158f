use Rattle.std.proofs.Common.{◌≡◌, length}
use Rattle.clause_units.specs.Truth.{AreListed}
use Rattle.clause_units.proofs.truths.Truths.clear.Given as goal

abbrev pub invariant-loop-boolean : goal.invariant-loop-boolean
invariant-loop-boolean l = record {
  listed : AreListed l.self-inside.table.items l.self-inside.assigned.items;
  long : length l.self-inside.table.items ≡ length l.initial.self-inside.table.items;
}

abbrev pub decreases-loop-boolean : goal.decreases-loop-boolean
decreases-loop-boolean l = length l.self-inside.assigned.items
