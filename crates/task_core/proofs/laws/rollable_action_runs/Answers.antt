use Rattle.task_core.proofs.RunLaws.{run_rolled, rolled_run}
use Rattle.task_core.proofs.laws.rollable_action_runs.Goals as goal

pub returns-clause-runs : goal.returns-clause-runs
returns-clause-runs c = run_rolled

pub returns-clause-only : goal.returns-clause-only
returns-clause-only c = rolled_run
