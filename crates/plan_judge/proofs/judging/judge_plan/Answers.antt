use Rattle.plan_judge.proofs.Meanings.{answer-means}
use Rattle.plan_judge.proofs.judging.judge_plan.Goals as goal

pub returns-clause-means : goal.returns-clause-means
returns-clause-means c = answer-means c.args.task.now c.args.plan.now c.find_outcome.result c.find_outcome.ensures
