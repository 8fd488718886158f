use Rattle.typing_uses.specs.Scope.{named}
use Rattle.pddl_form.proofs.Loops.{AreRead}
use Rattle.typing_uses.proofs.scope.find_names.Given as goal

abbrev pub invariant-loop-spot : goal.invariant-loop-spot
invariant-loop-spot l = AreRead (named l.names) l.spots l.spot-index l.initial.faults l.faults l.found
