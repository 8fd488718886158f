use Rattle.read_back.proofs.ReadBack.{plan_read}
use Rattle.read_back.proofs.laws.plan_of_task_is_read.Goals as goal

pub returns : goal.returns
returns c = plan_read
