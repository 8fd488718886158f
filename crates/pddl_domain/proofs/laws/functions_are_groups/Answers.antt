use Rattle.pddl_domain.proofs.FunctionGroups.{functions_are_groups}
use Rattle.pddl_domain.proofs.laws.functions_are_groups.Goals as goal

pub returns : goal.returns
returns c = functions_are_groups
