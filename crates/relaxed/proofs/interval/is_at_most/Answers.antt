use Rattle.std.proofs.Common.{sym}
use Rattle.rational.proofs.OrderLaws.{<ℚ-weaken, ≤ℚ-same}
use Rattle.relaxed.proofs.Tests.{true-at_most, above-not}
use Rattle.relaxed.proofs.interval.is_at_most.Goals as goal

pub returns-in-Less : goal.returns-in-Less
returns-in-Less c = sym (true-at_most _ _ (<ℚ-weaken _ _ c.in-Less.ensures))

pub returns-in-Equal : goal.returns-in-Equal
returns-in-Equal c = sym (true-at_most _ _ (≤ℚ-same _ _ c.in-Equal.ensures))

pub returns-in-Greater : goal.returns-in-Greater
returns-in-Greater c = sym (above-not _ _ c.in-Greater.ensures)
