use Rattle.rational.proofs.OrderLaws.{<ℚ-apart, <ℚ-not-≥, <ℚ-weaken}
use Rattle.simplex_point.proofs.number.is_below.Goals as goal

pub returns-in-Equal : goal.returns-in-Equal
returns-in-Equal c = ((λ h. cc), (λ h. absurd (<ℚ-apart _ _ h c.in-Equal.ensures)))

pub returns-in-Greater : goal.returns-in-Greater
returns-in-Greater c = ((λ h. cc), (λ h. absurd (<ℚ-not-≥ _ _ h (<ℚ-weaken _ _ c.in-Greater.ensures))))
