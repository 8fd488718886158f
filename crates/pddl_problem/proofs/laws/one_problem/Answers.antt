use Rattle.pddl_form.proofs.FirstFaults.{one_syntax}
use Rattle.pddl_problem.specs.Problem.{problem_form}
use Rattle.pddl_problem.proofs.laws.one_problem.Goals as goal

pub returns : goal.returns
returns c = λ tree. one_syntax (problem_form tree)
