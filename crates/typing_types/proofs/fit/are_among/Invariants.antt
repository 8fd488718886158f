use Rattle.std.proofs.Common.{◌≡◌, true, take}
use Rattle.std.specs.List.{list_all}
use Rattle.pddl_task.specs.Typed.{is_among}
use Rattle.typing_types.proofs.fit.are_among.Given as goal

abbrev pub invariant-loop-t : goal.invariant-loop-t
invariant-loop-t l = list_all (is_among l.hierarchy l.allowed) (take l.t-index l.found) ≡ true
