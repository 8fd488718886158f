-- What the word of an operation does with its arguments.
use Rattle.std.specs.Prelude.{ℕ, List, Option, Some, None, codes, bytes_eq, if◌then◌else◌}
use Rattle.pddl_task.specs.declared.expression.Expr.{Expr}
use Rattle.pddl_task.specs.declared.expression.Expr.TheVariants as expr
use Rattle.typing_uses.specs.declared.expressions.Operator.{Operator}
use Rattle.typing_uses.specs.declared.expressions.Operator.TheVariants.{Plus, Times, Minus, Over}
use Rattle.typing_uses.specs.Expressions.{minus, over}

-- the operator that a word is
unfoldable pub operator_of : List ℕ → Option Operator
operator_of text =
    if bytes_eq text (codes "*") then Some Times
    else (if bytes_eq text (codes "+") then Some Plus
    else (if bytes_eq text (codes "-") then Some Minus
    else (if bytes_eq text (codes "/") then Some Over else None)))

-- what it makes of its arguments
abbrev pub operation_by : Operator → List Expr → Option Expr
operation_by Plus args = Some (expr.Add args)
operation_by Times args = Some (expr.Mul args)
operation_by Minus args = minus args
operation_by Over args = over args
