-- What recursion on an expression is at a number, at a call and at an operation, and induction over expressions.
use Rattle.std.proofs.Common.{◌≡◌, List, map, sym, ◌∙◌, ap, subst}
use Rattle.rational.specs.Fraction.{Fraction}
use Rattle.pddl_form.specs.declared.spot.Spot.{Spot}
use Rattle.pddl_condition.specs.declared.expression.ExprAst.{ExprAst}
use Rattle.pddl_condition.specs.declared.expression.ExprAst.TheVariants as expr
use Rattle.pddl_condition.specs.declared.expression.ExprAst.TheOpen.{ExprAst-F}
use Rattle.pddl_condition.specs.declared.expression.ExprAst.TheFolds.{fold-ExprAst, fold-roll-ExprAst, ind-ExprAst, map-ExprAst}
use Rattle.pddl_condition.specs.declared.expression.ExprAst.TheViews.{roll-ExprAst}

module _ (A : Type 0) (step : ExprAst-F A → A) where
  pub fold-Num : (n : Fraction) → fold-ExprAst A step (expr.Num n) ≡ step (ExprAst-F.Num n)
  fold-Num n = ap (fold-ExprAst A step) (sym (expr.rolls-Num n)) ∙ fold-roll-ExprAst A step (ExprAst-F.Num n)

  pub fold-Call : (name : Spot) (args : List Spot) → fold-ExprAst A step (expr.Call name args) ≡ step (ExprAst-F.Call name args)
  fold-Call name args = ap (fold-ExprAst A step) (sym (expr.rolls-Call name args)) ∙ fold-roll-ExprAst A step (ExprAst-F.Call name args)

  pub fold-Op : (op : Spot) (args : List ExprAst) → fold-ExprAst A step (expr.Op op args) ≡ step (ExprAst-F.Op op (map (fold-ExprAst A step) args))
  fold-Op op args = ap (fold-ExprAst A step) (sym (expr.rolls-Op op args)) ∙ fold-roll-ExprAst A step (ExprAst-F.Op op args)

module _ (P : ExprAst → Type 0) (at_num : (n : Fraction) → P (expr.Num n)) (at_call : (name : Spot) (args : List Spot) → P (expr.Call name args))
    (at_op : (op : Spot) (args : List ((e : ExprAst) × P e)) → P (expr.Op op (map (λ e. e.0) args))) where
  rolled : (y : ExprAst-F ((e : ExprAst) × P e)) → P (roll-ExprAst (map-ExprAst ((e : ExprAst) × P e) ExprAst (λ e. e.0) y))
  rolled (ExprAst-F.Num n) = subst P (sym (expr.rolls-Num n)) (at_num n)
  rolled (ExprAst-F.Call name args) = subst P (sym (expr.rolls-Call name args)) (at_call name args)
  rolled (ExprAst-F.Op op args) = subst P (sym (expr.rolls-Op op (map (λ e. e.0) args))) (at_op op args)

  -- what holds of each number and of each call, and of an operation where it holds of its arguments
  pub every_expression : (e : ExprAst) → P e
  every_expression = ind-ExprAst P (λ x y is. subst (λ (d : ExprAst-F ExprAst). P (roll-ExprAst d)) is (rolled y))
