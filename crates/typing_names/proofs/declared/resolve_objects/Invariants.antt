use Rattle.pddl_form.proofs.Loops.{AreRead}
use Rattle.typing_names.specs.Domain.{object_named}
use Rattle.typing_names.proofs.declared.resolve_objects.Given as goal

abbrev pub invariant-loop-object : goal.invariant-loop-object
invariant-loop-object l = AreRead (object_named l.types) l.objects l.object-index l.initial.faults l.faults l.found
