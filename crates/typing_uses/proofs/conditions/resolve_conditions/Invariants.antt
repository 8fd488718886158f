use Rattle.pddl_form.proofs.Loops.{AreRead}
use Rattle.typing_uses.specs.Expressions.{condition_named}
use Rattle.typing_uses.specs.Names.{scope_of}
use Rattle.typing_uses.proofs.conditions.resolve_conditions.Given as goal

abbrev pub invariant-loop-cond : goal.invariant-loop-cond
invariant-loop-cond l = AreRead (condition_named (scope_of l.names)) l.conds l.cond-index l.initial.faults l.faults l.found
