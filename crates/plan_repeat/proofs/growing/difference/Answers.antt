use Rattle.plan_repeat.proofs.Zeros.{unfound-by}
use Rattle.plan_repeat.proofs.growing.difference.Goals as goal

pub returns-clause-passes : goal.returns-clause-passes
returns-clause-passes c = unfound-by c.args.old.now c.args.new.now c.in-Some-Some.x c.in-Some-Some.y c.sub.result c.in-Some-Some.is-0 c.in-Some-Some.is-1 c.sub.ensures
