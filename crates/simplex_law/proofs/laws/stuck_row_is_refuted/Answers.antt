use Rattle.simplex_law.proofs.Clashing.{clash}
use Rattle.simplex_law.proofs.laws.stuck_row_is_refuted.Goals as goal

pub returns : goal.returns
returns c = clash
