use Rattle.std.proofs.Common.{◌≡◌, take}
use Rattle.pddl_task.specs.Task.{names_of, parents}
use Rattle.typing_names.proofs.type_names.list_types.Given as goal

abbrev pub invariant-loop-t : goal.invariant-loop-t
invariant-loop-t l = record { names : names_of l.types ≡ take l.t l.table; above : parents l.types ≡ take l.t l.above }
