use Rattle.typing_linear.proofs.Noted.{one_more_noted}
use Rattle.typing_types.proofs.TypeLaws.{number_judged, call_judged, operation_judged}
use Rattle.typing_types.proofs.types.+types.Goals as goal

pub judge_expressions-loop-expr-preserved : goal.judge_expressions-loop-expr-preserved
judge_expressions-loop-expr-preserved t c = one_more_noted _ _ _ _ _ _ _ c.loop-expr.invariant c.loop-expr-test.true c.expr-item.is c.judge_expression.ensures

pub judge_expression-returns-in-Num : goal.judge_expression-returns-in-Num
judge_expression-returns-in-Num t c = number_judged _ _ _ _ c.in-Num.is

pub judge_expression-returns-in-Call : goal.judge_expression-returns-in-Call
judge_expression-returns-in-Call t c = call_judged _ _ _ _ _ _ _ c.in-Call.is c.as_slice.ensures c.judge_function.ensures

pub judge_expression-returns-in-Op : goal.judge_expression-returns-in-Op
judge_expression-returns-in-Op t c = operation_judged _ _ _ _ _ _ _ c.in-Op.is c.as_slice-in-Op.ensures c.judge_expressions.ensures
