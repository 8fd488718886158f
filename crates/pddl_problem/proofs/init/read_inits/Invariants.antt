use Rattle.pddl_form.proofs.Loops.{AreRead}
use Rattle.pddl_problem.specs.Init.{init_form}
use Rattle.pddl_problem.proofs.init.read_inits.Given as goal

abbrev pub invariant-loop-tree : goal.invariant-loop-tree
invariant-loop-tree l = AreRead init_form l.trees l.tree-index l.initial.faults l.faults l.found
