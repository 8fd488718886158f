use Rattle.std.proofs.Common.{length}
use Rattle.pddl_form.proofs.Concluding.{Putting}
use Rattle.pddl_domain.specs.Action.{with_part, parts_behind, action_form}
use Rattle.pddl_domain.proofs.action.read_action.Given as goal

abbrev pub invariant-loop-key : goal.invariant-loop-key
invariant-loop-key l = Putting with_part (action_form l.end l.fn.trees) (parts_behind l.end l.seen l.rest) l.fn.faults l.faults l.found

abbrev pub decreases-loop-key : goal.decreases-loop-key
decreases-loop-key l = length l.rest
