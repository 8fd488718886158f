use Rattle.plan_text.proofs.LeastFault.{least_fault}
use Rattle.plan_text.proofs.laws.first_fault_is_least.Goals as goal

pub returns : goal.returns
returns c = least_fault
