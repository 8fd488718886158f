use Rattle.pddl_form.proofs.Loops.{AreRead}
use Rattle.typing_names.specs.Domain.{action_named}
use Rattle.typing_uses.specs.Names.{scope_of}
use Rattle.typing_names.proofs.actions.resolve_actions.Given as goal

abbrev pub invariant-loop-action : goal.invariant-loop-action
invariant-loop-action l = AreRead (action_named (scope_of l.names)) l.actions l.action-index l.initial.faults l.faults l.found
