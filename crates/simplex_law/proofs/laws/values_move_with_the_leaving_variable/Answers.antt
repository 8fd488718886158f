use Rattle.simplex_law.proofs.Moving.{values_move}
use Rattle.simplex_law.proofs.laws.values_move_with_the_leaving_variable.Goals as goal

pub returns : goal.returns
returns c = values_move
