use Rattle.typing_uses.specs.Scope.{term_named}
use Rattle.typing_uses.specs.Names.{scope_of}
use Rattle.pddl_form.proofs.Loops.{AreRead}
use Rattle.typing_uses.proofs.scope.find_terms.Given as goal

abbrev pub invariant-loop-spot : goal.invariant-loop-spot
invariant-loop-spot l = AreRead (term_named (scope_of l.names)) l.spots l.spot-index l.initial.faults l.faults l.found
