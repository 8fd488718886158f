use Rattle.tableau.proofs.UniqueLaws.{cells_determined}
use Rattle.tableau.proofs.laws.basis_determines_cells.Goals as goal

pub returns : goal.returns
returns c = cells_determined
