use Rattle.std.proofs.Common.{map}
use Rattle.std.specs.Option.{option_map}
use Rattle.pddl_form.proofs.Loops.{AreRead}
use Rattle.typing_uses.specs.Names.{scope_of}
use Rattle.typing_names.specs.Problem.{item_named}
use Rattle.typing_names.specs.Items.{item_of}
use Rattle.typing_names.proofs.problem.resolve_items.Given as goal

abbrev pub invariant-loop-item : goal.invariant-loop-item
invariant-loop-item l = AreRead (item_named (scope_of l.names)) l.items l.item-index l.initial.faults l.faults (option_map (map item_of) l.found)
