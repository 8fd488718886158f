use Rattle.pddl_form.proofs.Loops.{AreRead}
use Rattle.typing_names.specs.Domain.{parameter_named}
use Rattle.typing_names.proofs.declared.resolve_each_param.Given as goal

abbrev pub invariant-loop-param : goal.invariant-loop-param
invariant-loop-param l = AreRead (parameter_named l.types) l.params l.param-index l.initial.faults l.faults l.found
