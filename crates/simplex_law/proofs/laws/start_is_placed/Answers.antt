use Rattle.simplex_law.proofs.Placing.{start_placed}
use Rattle.simplex_law.proofs.laws.start_is_placed.Goals as goal

pub returns : goal.returns
returns c = start_placed
