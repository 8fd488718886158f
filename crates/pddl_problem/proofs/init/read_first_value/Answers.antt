use Rattle.pddl_form.proofs.Loops.{mapped_as}
use Rattle.pddl_problem.specs.Init.{first_value}
use Rattle.pddl_problem.proofs.init.read_first_value.Goals as goal

pub returns : goal.returns
unfolding first_value
returns c = mapped_as _ _ _ _ _ _ c.in_ok-first.ensures c.make_value.ensures
