use Rattle.plan_step.proofs.Reasons.{failure_reason}
use Rattle.plan_step.proofs.ReasonLaws.{reason_only, reason_none}
use Rattle.plan_step.proofs.laws.failures_have_reasons.Goals as goal

pub returns-clause-reason : goal.returns-clause-reason
returns-clause-reason c = failure_reason

pub returns-clause-answered : goal.returns-clause-answered
returns-clause-answered c = reason_only

pub returns-clause-none : goal.returns-clause-none
returns-clause-none c = reason_none
