use Rattle.simplex_law.proofs.Fitting.{values_solve}
use Rattle.simplex_law.proofs.laws.values_solve_the_tableau.Goals as goal

pub returns : goal.returns
returns c = values_solve
