use Rattle.simplex_point.proofs.Narrow.{makes_a_point}
use Rattle.simplex_point.proofs.laws.the_infinitesimal_makes_a_point.Goals as goal

pub returns : goal.returns
returns c = makes_a_point
