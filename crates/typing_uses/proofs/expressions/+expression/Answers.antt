use Rattle.std.proofs.Common.{arith, sym, ap, ◌∙◌}
use Rattle.std.specs.Prelude.{is_some}
use Rattle.pddl_condition.specs.Grammar.{is_expression, is_operation}
use Rattle.typing_uses.specs.Operators.{operator_of}
use Rattle.pddl_form.proofs.Loops.{one_more_read, all_read, none_read}
use Rattle.typing_uses.proofs.Words.{operation_of, known_operator, known_operation}
use Rattle.typing_uses.proofs.ExpressionLaws.{deepest, operation_is_deeper, deepest-get, reads_number, reads_function, reads_operation, operation_parts, operation_faulty, operation_read, arguments_count, one_passes}
use Rattle.typing_uses.proofs.expressions.+expression.Goals as goal

pub resolve_expressions-loop-expr-init : goal.resolve_expressions-loop-expr-init
resolve_expressions-loop-expr-init t c = none_read _ _ _ _ c.new.ensures

pub resolve_expressions-loop-expr-preserved : goal.resolve_expressions-loop-expr-preserved
resolve_expressions-loop-expr-preserved t c = one_more_read _ _ _ _ _ _ _ _ _ _ c.loop-expr.invariant c.loop-expr-test.true c.expr-item.is c.in_ok-one.ensures c.in_ok-add.ensures

pub resolve_expressions-returns : goal.resolve_expressions-returns
resolve_expressions-returns t c = all_read _ _ _ _ _ _ c.loop-expr.invariant c.loop-expr-test.false

pub resolve_expression-returns-in-Num : goal.resolve_expression-returns-in-Num
resolve_expression-returns-in-Num t c = reads_number _ _ _ _ c.in-Num.is

pub resolve_expression-returns-in-Call : goal.resolve_expression-returns-in-Call
resolve_expression-returns-in-Call t c = reads_function _ _ _ _ _ _ _ _ c.in-Call.is c.as_slice.ensures c.resolve_function.ensures

pub resolve_expression-returns-in-Op : goal.resolve_expression-returns-in-Op
resolve_expression-returns-in-Op t c = reads_operation _ _ _ _ _ _ _ _ c.in-Op.is c.as_slice-in-Op.ensures c.resolve_operation.ensures

pub resolve_expression-resolve_operation-requires : goal.resolve_expression-resolve_operation-requires
resolve_expression-resolve_operation-requires t c = (omega (arith, operation_is_deeper _ _ _ c.in-Op.is, ap deepest c.as_slice-in-Op.ensures, c.decreases), ((operation_parts _ _ _ _ c.in-Op.is c.as_slice-in-Op.ensures c.requires).operation, (operation_parts _ _ _ _ c.in-Op.is c.as_slice-in-Op.ensures c.requires).arguments))

pub resolve_expressions-resolve_expression-requires : goal.resolve_expressions-resolve_expression-requires
resolve_expressions-resolve_expression-requires t c = (omega (arith, deepest-get _ _ _ c.loop-expr-test.true c.expr-item.is, c.decreases), one_passes is_expression _ _ _ c.requires c.loop-expr-test.true c.expr-item.is)

pub resolve_operation-find_operator-operator-requires : goal.resolve_operation-find_operator-operator-requires
resolve_operation-find_operator-operator-requires t c = ap (λ text. is_some (operator_of text)) c.as_str.ensures ∙ known_operator c.args.op.now.text _ c.requires.operation

pub resolve_operation-operation-requires : goal.resolve_operation-operation-requires
resolve_operation-operation-requires t c =
    ap is_some (operation_of _ _ c.in-Some.args (ap operator_of (sym c.as_str.ensures) ∙ c.find_operator-operator.ensures))
    ∙ known_operation c.args.op.now.text c.in-Some.args (ap (is_operation c.args.op.now.text) (arguments_count _ _ _ _ _ _ c.in_ok-args.ensures c.in-Some.is) ∙ c.requires.operation)

pub resolve_operation-returns-in_default : goal.resolve_operation-returns-in_default
resolve_operation-returns-in_default t c = operation_faulty c.args.op.now _ _ _ _ c.in_ok-args.ensures c.in_default.is

pub resolve_operation-returns : goal.resolve_operation-returns
resolve_operation-returns t c =
    operation_read c.args.op.now _ _ _ _ c.in-Some.args _ c.in_ok-args.ensures c.in-Some.is
    (sym (operation_of _ _ c.in-Some.args (ap operator_of (sym c.as_str.ensures) ∙ c.find_operator-operator.ensures)) ∙ c.in_ok-made.ensures)
