use Rattle.ground_laws.proofs.Growth.{operations_stay}
use Rattle.ground_laws.proofs.laws.more_numbers_change_no_operation.Goals as goal

pub returns : goal.returns
returns c = operations_stay
