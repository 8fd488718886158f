use Rattle.plan_repeat.proofs.RollingOn.{grown-answers}
use Rattle.plan_repeat.proofs.growing.grown.Goals as goal

pub returns : goal.returns
returns c = grown-answers c.args.x.now c.args.growth.now c.args.steps.now _ c.add.result c.in_ok-product.ensures.1 c.add.ensures
