use Rattle.plan_repeat.proofs.BreakLaws.{broken-none, one-break, wide-passes}
use Rattle.plan_repeat.proofs.laws.refuted_repetition_is_none.Goals as goal

pub returns-clause-none : goal.returns-clause-none
returns-clause-none c = broken-none

pub returns-clause-one : goal.returns-clause-one
returns-clause-one c = one-break

pub returns-clause-passes : goal.returns-clause-passes
returns-clause-passes c = wide-passes
