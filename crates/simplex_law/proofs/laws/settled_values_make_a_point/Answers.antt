use Rattle.simplex_law.proofs.Fitting.{settled_small}
use Rattle.simplex_law.proofs.laws.settled_values_make_a_point.Goals as goal

pub returns : goal.returns
returns c = settled_small
