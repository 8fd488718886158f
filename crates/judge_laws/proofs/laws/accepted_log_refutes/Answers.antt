use Rattle.judge_laws.proofs.Logs.{refutes}
use Rattle.judge_laws.proofs.laws.accepted_log_refutes.Goals as goal

pub returns : goal.returns
returns c = refutes
