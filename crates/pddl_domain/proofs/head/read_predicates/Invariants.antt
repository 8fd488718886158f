use Rattle.pddl_form.proofs.Loops.{AreRead}
use Rattle.pddl_domain.specs.Heads.{head_form}
use Rattle.pddl_domain.proofs.head.read_predicates.Given as goal

abbrev pub invariant-loop-tree : goal.invariant-loop-tree
invariant-loop-tree l = AreRead head_form l.trees l.tree-index l.initial.faults l.faults l.found
