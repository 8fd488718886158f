use Rattle.formula.proofs.Readings.{equal_in_order, greater_in_order}
use Rattle.formula.proofs.reading.is_in_order.Goals as goal

pub returns-in-Equal : goal.returns-in-Equal
returns-in-Equal c = equal_in_order _ _ _ c.in-Equal.ensures

pub returns-in-Greater : goal.returns-in-Greater
returns-in-Greater c = ((λ h. absurd (cc)), λ h. absurd (greater_in_order _ _ _ c.in-Greater.ensures h))
