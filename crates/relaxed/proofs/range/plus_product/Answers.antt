use Rattle.std.proofs.Common.{subst}
use Rattle.rational.specs.Fraction.{Fraction}
use Rattle.frac128.specs.Operations.{Answers as AnswersOperation}
use Rattle.frac128.specs.declared.operations.Op.TheVariants.{Add}
use Rattle.relaxed.proofs.RangeSteps.{product-answers}
use Rattle.relaxed.proofs.range.plus_product.Goals as goal

pub returns : goal.returns
returns c =
    product-answers c.args.sum.now c.args.c.now c.args.e.now c.add.result c.in_ok-product.ensures.0
    (subst (λ (p : Fraction). AnswersOperation Add c.args.sum.now p c.add.result) c.in_ok-product.ensures.1 c.add.ensures)
