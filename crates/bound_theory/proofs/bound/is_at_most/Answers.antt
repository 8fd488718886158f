use Rattle.rational.proofs.OrderLaws.{≤ℚ-same}
use Rattle.bound_theory.proofs.bound.is_at_most.Goals as goal

pub returns-in-Equal : goal.returns-in-Equal
returns-in-Equal c = λ t. ≤ℚ-same _ _ c.in-Equal.ensures
