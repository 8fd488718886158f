use Rattle.std.proofs.Common.{Option, sym, ap₂, ◌∙◌}
use Rattle.rational.specs.Fraction.{Fraction}
use Rattle.pddl_task.specs.declared.effect.NumOp.{NumOp}
use Rattle.plan_step.specs.Effects.{changed}
use Rattle.plan_step.proofs.Operations.{answered}
use Rattle.plan_step.proofs.application.changed.Goals as goal

pub returns-in-Increase : goal.returns-in-Increase
returns-in-Increase c = answered _ _ _ _ c.add.ensures ∙ ap₂ (λ (op : NumOp) (v : Option Fraction). changed op v c.args.by.now) (sym c.in-Increase.is) (sym c.in-Some.is)

pub returns-in-Decrease : goal.returns-in-Decrease
returns-in-Decrease c = answered _ _ _ _ c.sub.ensures ∙ ap₂ (λ (op : NumOp) (v : Option Fraction). changed op v c.args.by.now) (sym c.in-Decrease.is) (sym c.in-Some.is)

pub returns-in-ScaleUp : goal.returns-in-ScaleUp
returns-in-ScaleUp c = answered _ _ _ _ c.mul.ensures ∙ ap₂ (λ (op : NumOp) (v : Option Fraction). changed op v c.args.by.now) (sym c.in-ScaleUp.is) (sym c.in-Some.is)

pub returns-in-ScaleDown : goal.returns-in-ScaleDown
returns-in-ScaleDown c = answered _ _ _ _ c.div.ensures ∙ ap₂ (λ (op : NumOp) (v : Option Fraction). changed op v c.args.by.now) (sym c.in-ScaleDown.is) (sym c.in-Some.is)
