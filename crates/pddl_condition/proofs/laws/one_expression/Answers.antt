use Rattle.pddl_condition.specs.Expression.{expression_form}
use Rattle.pddl_form.proofs.FirstFaults.{one_syntax}
use Rattle.pddl_condition.proofs.laws.one_expression.Goals as goal

pub returns : goal.returns
returns c = λ tree. one_syntax (expression_form tree)
