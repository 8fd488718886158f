use Rattle.std.proofs.Common.{subst}
use Rattle.rational.specs.Fraction.{inv_ℚ}
use Rattle.lin.specs.Linear.{Linear, scale}
use Rattle.lin.specs.Operations.{AnswersInMemory}
use Rattle.lin.specs.Made.{div_ops}
use Rattle.encode_rows.proofs.Passing.{answers-behind}
use Rattle.encode_rows.proofs.bound.sum_over.Goals as goal

pub returns : goal.returns
returns c =
    answers-behind _ _ _ c.div.result c.in_ok-sum.ensures.0
    (subst (λ (s : Linear). AnswersInMemory (div_ops c.args.a.now s) (scale (inv_ℚ c.args.a.now) s) c.div.result) c.in_ok-sum.ensures.1 c.div.ensures)
