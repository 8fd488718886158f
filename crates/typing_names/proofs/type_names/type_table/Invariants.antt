use Rattle.std.proofs.Common.{◌≡◌}
use Rattle.typing_names.proofs.TypeNameLaws.{names_so_far}
use Rattle.typing_names.proofs.type_names.type_table.Given as goal

abbrev pub invariant-loop-one : goal.invariant-loop-one
invariant-loop-one l = l.table ≡ names_so_far l.types l.one-index
