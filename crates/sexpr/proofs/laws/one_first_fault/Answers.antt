use Rattle.sexpr.proofs.FirstFault.{one_first_fault}
use Rattle.sexpr.proofs.laws.one_first_fault.Goals as goal

pub returns : goal.returns
returns c = one_first_fault
