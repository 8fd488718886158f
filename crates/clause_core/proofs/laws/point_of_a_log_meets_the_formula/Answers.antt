use Rattle.clause_core.proofs.Fronts.{without_log}
use Rattle.clause_core.proofs.laws.point_of_a_log_meets_the_formula.Goals as goal

pub returns : goal.returns
returns g c = λ f log p h. without_log f log p h
