-- What recursion on an expression is at each kind of expression.
use Rattle.std.proofs.Common.{◌≡◌, ℕ, List, map, sym, ◌∙◌, ap}
use Rattle.rational.specs.Fraction.{Fraction}
use Rattle.pddl_task.specs.declared.expression.Term.{Term}
use Rattle.pddl_task.specs.declared.expression.Expr.{Expr}
use Rattle.pddl_task.specs.declared.expression.Expr.TheVariants as expr
use Rattle.pddl_task.specs.declared.expression.Expr.TheOpen.{Expr-F}
use Rattle.pddl_task.specs.declared.expression.Expr.TheFolds.{fold-Expr, fold-roll-Expr}

module _ (A : Type 0) (step : Expr-F A → A) where
  pub fold-Num : (n : Fraction) → fold-Expr A step (expr.Num n) ≡ step (Expr-F.Num n)
  fold-Num n = ap (fold-Expr A step) (sym (expr.rolls-Num n)) ∙ fold-roll-Expr A step (Expr-F.Num n)

  pub fold-Call : (func : ℕ) (args : List Term) → fold-Expr A step (expr.Call func args) ≡ step (Expr-F.Call func args)
  fold-Call func args = ap (fold-Expr A step) (sym (expr.rolls-Call func args)) ∙ fold-roll-Expr A step (Expr-F.Call func args)

  pub fold-Add : (args : List Expr) → fold-Expr A step (expr.Add args) ≡ step (Expr-F.Add (map (fold-Expr A step) args))
  fold-Add args = ap (fold-Expr A step) (sym (expr.rolls-Add args)) ∙ fold-roll-Expr A step (Expr-F.Add args)

  pub fold-Mul : (args : List Expr) → fold-Expr A step (expr.Mul args) ≡ step (Expr-F.Mul (map (fold-Expr A step) args))
  fold-Mul args = ap (fold-Expr A step) (sym (expr.rolls-Mul args)) ∙ fold-roll-Expr A step (Expr-F.Mul args)

  pub fold-Neg : (a : Expr) → fold-Expr A step (expr.Neg a) ≡ step (Expr-F.Neg (fold-Expr A step a))
  fold-Neg a = ap (fold-Expr A step) (sym (expr.rolls-Neg a)) ∙ fold-roll-Expr A step (Expr-F.Neg a)

  pub fold-Sub : (a b : Expr) → fold-Expr A step (expr.Sub a b) ≡ step (Expr-F.Sub (fold-Expr A step a) (fold-Expr A step b))
  fold-Sub a b = ap (fold-Expr A step) (sym (expr.rolls-Sub a b)) ∙ fold-roll-Expr A step (Expr-F.Sub a b)

  pub fold-Div : (a b : Expr) → fold-Expr A step (expr.Div a b) ≡ step (Expr-F.Div (fold-Expr A step a) (fold-Expr A step b))
  fold-Div a b = ap (fold-Expr A step) (sym (expr.rolls-Div a b)) ∙ fold-roll-Expr A step (Expr-F.Div a b)
