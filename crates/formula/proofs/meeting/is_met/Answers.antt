use Rattle.formula.proofs.MeetingSteps.{clause_within}
use Rattle.formula.proofs.meeting.is_met.Goals as goal

pub bounds-truth-l : goal.bounds-truth-l
bounds-truth-l c = clause_within _ _ _ _ c.requires c.loop-l-test.true
