use Rattle.std.proofs.Common.{length}
use Rattle.pddl_form.proofs.TypedLists.{TypedSoFar}
use Rattle.pddl_form.proofs.typed.read_typed_list.Given as goal

abbrev pub invariant-loop-tree : goal.invariant-loop-tree
invariant-loop-tree l = TypedSoFar l.sort l.end l.fn.trees l.rest l.initial.faults l.faults l.found l.waiting

abbrev pub decreases-loop-tree : goal.decreases-loop-tree
decreases-loop-tree l = length l.rest
