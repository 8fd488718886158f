use Rattle.pddl_form.proofs.FirstFaults.{first_is_least}
use Rattle.pddl_form.proofs.laws.first_fault_is_least.Goals as goal

pub returns : goal.returns
returns c = first_is_least
