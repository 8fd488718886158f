use Rattle.pddl_condition.specs.Condition.{condition_form}
use Rattle.pddl_form.proofs.FirstFaults.{one_syntax}
use Rattle.pddl_condition.proofs.laws.one_condition.Goals as goal

pub returns : goal.returns
returns c = λ tree. one_syntax (condition_form tree)
