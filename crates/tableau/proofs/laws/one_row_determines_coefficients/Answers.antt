use Rattle.tableau.proofs.UniqueLaws.{fixed_by_one}
use Rattle.tableau.proofs.laws.one_row_determines_coefficients.Goals as goal

pub returns : goal.returns
returns c = fixed_by_one
