use Rattle.tableau.proofs.UniqueLaws.{values_determined}
use Rattle.tableau.proofs.laws.basis_determines_values.Goals as goal

pub returns : goal.returns
returns c = values_determined
