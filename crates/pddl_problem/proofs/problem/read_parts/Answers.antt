use Rattle.pddl_problem.specs.Problem.{problem_parts}
use Rattle.pddl_form.proofs.SectionLaws.{tested_read}
use Rattle.pddl_problem.proofs.ProblemLaws.{whole_read}
use Rattle.pddl_problem.proofs.problem.read_parts.Goals as goal

pub returns : goal.returns
unfolding problem_parts
returns c =
    tested_read _ _ _ _ _ _ _ _ _ _ _ _ _ c.in_ok-known.ensures c.in_ok-requirements.ensures
    (whole_read _ _ _ _ _ _ _ _ _ _ _ _ _ _ _ _ c.in_ok-name.ensures c.in_ok-domain.ensures c.in_ok-objects.ensures c.in_ok-init.ensures c.in_ok-goal.ensures)
    c.and.ensures c.make_problem-problem.ensures c.and-2.ensures
