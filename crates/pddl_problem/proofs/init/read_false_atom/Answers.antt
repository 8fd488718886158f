use Rattle.pddl_form.proofs.Loops.{mapped_as}
use Rattle.pddl_problem.specs.Init.{false_atom}
use Rattle.pddl_problem.proofs.init.read_false_atom.Goals as goal

pub returns : goal.returns
unfolding false_atom
returns c = mapped_as _ _ _ _ _ _ c.in_ok-call.ensures c.make_put.ensures
