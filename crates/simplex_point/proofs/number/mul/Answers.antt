use Rattle.tableau.proofs.NamedLaws.{gives}
use Rattle.simplex_point.proofs.number.mul.Goals as goal

pub returns : goal.returns
returns c = gives _ _ _ _ c.mul.ensures
