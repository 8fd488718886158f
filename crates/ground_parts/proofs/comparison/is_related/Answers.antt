use Rattle.std.proofs.Common.{◌∙◌, sym, ap}
use Rattle.pddl_task.specs.declared.condition.Rel.{Rel}
use Rattle.plan_step.specs.Order.{related}
use Rattle.plan_step.proofs.Relations.{by_lt, by_le, by_eq, by_ge, by_gt}
use Rattle.ground_parts.proofs.comparison.is_related.Goals as goal

pub returns-in-Lt : goal.returns-in-Lt
returns-in-Lt c = c.is_lt.ensures ∙ by_lt _ _ _ c.cmp-order.ensures ∙ ap (λ (r : Rel). related r c.args.x.now c.args.y.now) (sym c.in-Lt.is)

pub returns-in-Le : goal.returns-in-Le
returns-in-Le c = c.is_le.ensures ∙ by_le _ _ _ c.cmp-order.ensures ∙ ap (λ (r : Rel). related r c.args.x.now c.args.y.now) (sym c.in-Le.is)

pub returns-in-Eq : goal.returns-in-Eq
returns-in-Eq c = c.is_eq.ensures ∙ by_eq _ _ _ c.cmp-order.ensures ∙ ap (λ (r : Rel). related r c.args.x.now c.args.y.now) (sym c.in-Eq.is)

pub returns-in-Ge : goal.returns-in-Ge
returns-in-Ge c = c.is_ge.ensures ∙ by_ge _ _ _ c.cmp-order.ensures ∙ ap (λ (r : Rel). related r c.args.x.now c.args.y.now) (sym c.in-Ge.is)

pub returns-in-Gt : goal.returns-in-Gt
returns-in-Gt c = c.is_gt.ensures ∙ by_gt _ _ _ c.cmp-order.ensures ∙ ap (λ (r : Rel). related r c.args.x.now c.args.y.now) (sym c.in-Gt.is)
