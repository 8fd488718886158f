use Rattle.pddl_form.proofs.Loops.{AreRead}
use Rattle.typing_names.specs.Domain.{signature_named}
use Rattle.typing_names.proofs.declared.resolve_signatures.Given as goal

abbrev pub invariant-loop-head : goal.invariant-loop-head
invariant-loop-head l = AreRead (signature_named l.types) l.heads l.head-index l.initial.faults l.faults l.found
