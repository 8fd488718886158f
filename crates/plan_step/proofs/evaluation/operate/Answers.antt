use Rattle.std.proofs.Common.{◌∙◌, sym, ap}
use Rattle.plan_step.specs.Met.{operated}
use Rattle.plan_step.proofs.Operations.{answered}
use Rattle.frac128.specs.declared.operations.Op.{Op}
use Rattle.plan_step.proofs.evaluation.operate.Goals as goal

pub returns-in-Add : goal.returns-in-Add
returns-in-Add c = answered _ _ _ _ c.add.ensures ∙ ap (λ (op : Op). operated op c.args.x.now c.args.y.now) (sym c.in-Add.is)

pub returns-in-Sub : goal.returns-in-Sub
returns-in-Sub c = answered _ _ _ _ c.sub.ensures ∙ ap (λ (op : Op). operated op c.args.x.now c.args.y.now) (sym c.in-Sub.is)

pub returns-in-Mul : goal.returns-in-Mul
returns-in-Mul c = answered _ _ _ _ c.mul.ensures ∙ ap (λ (op : Op). operated op c.args.x.now c.args.y.now) (sym c.in-Mul.is)
