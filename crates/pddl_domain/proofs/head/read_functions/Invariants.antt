use Rattle.std.proofs.Common.{length}
use Rattle.pddl_domain.proofs.Functions.{FunctionsSoFar}
use Rattle.pddl_domain.proofs.head.read_functions.Given as goal

abbrev pub invariant-loop-tree : goal.invariant-loop-tree
invariant-loop-tree l = FunctionsSoFar l.end l.fn.trees l.rest l.waits l.initial.faults l.faults l.found

abbrev pub decreases-loop-tree : goal.decreases-loop-tree
decreases-loop-tree l = length l.rest
