use Rattle.typing_types.specs.Types.{expression_faults}
use Rattle.typing_types.specs.Known.{declared_of}
use Rattle.typing_linear.proofs.Noted.{AreNoted}
use Rattle.typing_types.proofs.types.+types.Given as goal

abbrev pub invariant-judge_expressions-loop-expr : goal.invariant-judge_expressions-loop-expr
invariant-judge_expressions-loop-expr l = AreNoted (expression_faults (declared_of l.known)) l.exprs l.expr-index l.initial.faults l.faults
