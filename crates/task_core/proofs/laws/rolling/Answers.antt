use Rattle.task_core.proofs.RollingLaws.{literals_hold_on, comparison_between, rolling-state}
use Rattle.task_core.proofs.laws.rolling.Goals as goal

pub returns-clause-literals : goal.returns-clause-literals
returns-clause-literals c = literals_hold_on

pub returns-clause-comparisons : goal.returns-clause-comparisons
returns-clause-comparisons c = comparison_between

pub returns-clause-state : goal.returns-clause-state
returns-clause-state c = rolling-state
