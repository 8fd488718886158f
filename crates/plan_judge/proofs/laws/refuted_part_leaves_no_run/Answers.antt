use Rattle.plan_judge.proofs.Meanings.{refuted-is}
use Rattle.plan_judge.proofs.laws.refuted_part_leaves_no_run.Goals as goal

pub returns : goal.returns
returns c = refuted-is
