use Rattle.std.proofs.Common.{sym}
use Rattle.rational.proofs.OrderLaws.{≤ℚ-same, <ℚ-weaken}
use Rattle.simplex_law.proofs.PairLaws.{above_not, same_not}
use Rattle.simplex_law.proofs.pair.Pair.is_below.Goals as goal

pub returns-in-Equal-cmp : goal.returns-in-Equal-cmp
returns-in-Equal-cmp c = ((λ h. cc), (λ h. absurd (same_not _ _ c.in-Equal.ensures (≤ℚ-same _ _ (sym c.in-Equal-cmp.ensures)) h)))

pub returns-in-Greater-cmp : goal.returns-in-Greater-cmp
returns-in-Greater-cmp c = ((λ h. cc), (λ h. absurd (same_not _ _ c.in-Equal.ensures (<ℚ-weaken _ _ c.in-Greater-cmp.ensures) h)))

pub returns-in-Greater : goal.returns-in-Greater
returns-in-Greater c = ((λ h. cc), (λ h. absurd (above_not _ _ c.in-Greater.ensures h)))
