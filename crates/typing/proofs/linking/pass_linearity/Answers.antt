use Rattle.typing.proofs.Passes.{domain_linearity_refused, goal_linearity_refused, linear_found}
use Rattle.typing.proofs.linking.pass_linearity.Goals as goal

pub returns-in-Ok-pass_domain_linearity-clause-linear : goal.returns-in-Ok-pass_domain_linearity-clause-linear
returns-in-Ok-pass_domain_linearity-clause-linear c = linear_found c.args.domain.now c.args.problem.now c.in-Ok-pass_domain_linearity.ensures _ c.pass_goal_linearity.ensures

pub returns-in-Ok-pass_domain_linearity-clause-refused : goal.returns-in-Ok-pass_domain_linearity-clause-refused
returns-in-Ok-pass_domain_linearity-clause-refused c = goal_linearity_refused c.args.domain.now c.args.problem.now c.in-Ok-pass_domain_linearity.ensures _ c.pass_goal_linearity.ensures

pub returns-clause-refused : goal.returns-clause-refused
returns-clause-refused c = domain_linearity_refused c.args.domain.now c.args.problem.now _ c.in-Err-pass_domain_linearity.ensures
