use Rattle.std.proofs.Common.{length}
use Rattle.simplex_law.specs.Config.{pair_at}
use Rattle.simplex_check.specs.Checks.{limits}
use Rattle.simplex_judge.proofs.PointAnswers.{pointed}
use Rattle.simplex_judge.proofs.pointing.point.Goals as goal

pub returns-in-Ok : goal.returns-in-Ok
returns-in-Ok c = pointed (limits c.args.lower.now c.args.upper.now) (pair_at c.args.pairs.now) (length c.args.pairs.now) c.args.vars c.in-Ok.d c.values.result c.in-Ok.ensures c.values.ensures
