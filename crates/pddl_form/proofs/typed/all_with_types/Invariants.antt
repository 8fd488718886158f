use Rattle.std.proofs.Common.{◌≡◌, take}
use Rattle.pddl_form.specs.Typed.{all_with_types}
use Rattle.pddl_form.proofs.typed.all_with_types.Given as goal

abbrev pub invariant-loop-spot : goal.invariant-loop-spot
invariant-loop-spot l = l.found ≡ all_with_types (take l.spot-index l.names) l.types
