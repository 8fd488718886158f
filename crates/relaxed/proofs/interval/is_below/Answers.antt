use Rattle.std.proofs.Common.{sym}
use Rattle.rational.proofs.OrderLaws.{<ℚ-weaken, ≤ℚ-same}
use Rattle.relaxed.proofs.Tests.{true-below, not_below}
use Rattle.relaxed.proofs.interval.is_below.Goals as goal

pub returns-in-Less : goal.returns-in-Less
returns-in-Less c = sym (true-below _ _ c.in-Less.ensures)

pub returns-in-Equal : goal.returns-in-Equal
returns-in-Equal c = sym (not_below _ _ (≤ℚ-same _ _ (sym c.in-Equal.ensures)))

pub returns-in-Greater : goal.returns-in-Greater
returns-in-Greater c = sym (not_below _ _ (<ℚ-weaken _ _ c.in-Greater.ensures))
