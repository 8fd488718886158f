use Rattle.relaxed.proofs.FirstLaws.{stays_supported, supported-at_end}
use Rattle.relaxed.proofs.laws.support_stays.Goals as goal

pub returns-clause-later : goal.returns-clause-later
returns-clause-later c = stays_supported

pub returns-clause-end : goal.returns-clause-end
returns-clause-end c task a e n ends = supported-at_end task e ends a n
