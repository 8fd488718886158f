use Rattle.std.proofs.Common.{◌+◌, ◌*◌}
use Rattle.pddl_form.proofs.Loops.{AreRead}
use Rattle.typing_uses.specs.Expressions.{expression_named}
use Rattle.typing_uses.specs.Names.{scope_of}
use Rattle.typing_uses.proofs.ExpressionLaws.{depth_of, deepest}
use Rattle.typing_uses.proofs.expressions.+expression.Given as goal

abbrev pub invariant-resolve_expressions-loop-expr : goal.invariant-resolve_expressions-loop-expr
invariant-resolve_expressions-loop-expr l = AreRead (expression_named (scope_of l.names)) l.exprs l.expr-index l.initial.faults l.faults l.found

abbrev pub decreases-resolve_expression : goal.decreases-resolve_expression
decreases-resolve_expression l = 3 * depth_of l.expr.now

abbrev pub decreases-resolve_operation : goal.decreases-resolve_operation
decreases-resolve_operation l = 3 * deepest l.args.now + 2

abbrev pub decreases-resolve_expressions : goal.decreases-resolve_expressions
decreases-resolve_expressions l = 3 * deepest l.exprs.now + 1
