-- The functions that stand in an expression.
use Rattle.std.specs.Prelude.{ℕ, Bool, true, ◌&&◌, List}
use Rattle.std.specs.List.{list_all}
use Rattle.pddl_task.specs.declared.expression.Expr.{Expr}
use Rattle.pddl_task.specs.declared.expression.Expr.TheOpen.{Expr-F}
use Rattle.pddl_task.specs.declared.expression.Expr.TheFolds.{fold-Expr}
use Rattle.pddl_task.specs.declared.expression.Term.{Term}

abbrev pub call_step : (ℕ → List Term → Bool) → Expr-F Bool → Bool
call_step test (Expr-F.Num n) = true
call_step test (Expr-F.Call func args) = test func args
call_step test (Expr-F.Add args) = list_all (λ a. a) args
call_step test (Expr-F.Mul args) = list_all (λ a. a) args
call_step test (Expr-F.Neg a) = a
call_step test (Expr-F.Sub a b) = a && b
call_step test (Expr-F.Div a b) = a && b

-- each function that stands in it, with its arguments, passes a test
unfoldable pub all_calls : (ℕ → List Term → Bool) → Expr → Bool
all_calls test = fold-Expr Bool (call_step test)
