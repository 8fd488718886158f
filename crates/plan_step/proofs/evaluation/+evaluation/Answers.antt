use Rattle.std.proofs.Common.{◌∙◌, sym, ap, length, ◌-◌, Option, Ok, arith}
use Rattle.plan_step.proofs.Depth.{depth_of, deepest, add_is_deeper, mul_is_deeper, neg_is_deeper, sub_is_deeper, div_is_deeper, deepest-get, deepest-after}
use Rattle.std.proofs.lemmas.Result.{err_from_is_err_and}
use Rattle.rational.specs.Fraction.{Fraction}
use Rattle.plan_step.specs.Met.{met_of}
use Rattle.plan_step.proofs.Folding.{fold_passes}
use Rattle.plan_step.proofs.Expressions.{by_num, by_call, by_add, by_mul, by_neg, by_sub, by_div}
use Rattle.plan_step.proofs.evaluation.+evaluation.Goals as goal

pub evaluate-returns-in-Num : goal.evaluate-returns-in-Num
evaluate-returns-in-Num t c = by_num _ _ _ _ c.in-Num.is

pub evaluate-returns-in-Call : goal.evaluate-returns-in-Call
evaluate-returns-in-Call t c = by_call _ _ _ _ _ _ _ c.in-Call.is c.as_slice.ensures c.call.ensures

pub evaluate-returns-in-Add : goal.evaluate-returns-in-Add
evaluate-returns-in-Add t c = by_add _ _ _ _ _ _ c.in-Add.is c.as_slice-in-Add.ensures c.evaluate_fold.ensures

pub evaluate-returns-in-Mul : goal.evaluate-returns-in-Mul
evaluate-returns-in-Mul t c = by_mul _ _ _ _ _ _ c.in-Mul.is c.as_slice-in-Mul.ensures c.evaluate_fold-in-Mul.ensures

pub evaluate-returns-in-Neg : goal.evaluate-returns-in-Neg
evaluate-returns-in-Neg t c = by_neg _ _ _ _ _ _ c.in-Neg.is c.get.ensures c.evaluate_negative.ensures

pub evaluate-returns-in-Sub : goal.evaluate-returns-in-Sub
evaluate-returns-in-Sub t c = by_sub _ _ _ _ _ _ _ _ c.in-Sub.is c.get-in-Sub.ensures c.get-in-Sub-2.ensures c.evaluate_difference.ensures

pub evaluate-returns-in-Div : goal.evaluate-returns-in-Div
evaluate-returns-in-Div t c = by_div _ _ _ _ _ _ _ _ c.in-Div.is c.get-in-Div.ensures c.get-in-Div-2.ensures c.evaluate_quotient.ensures

pub evaluate-evaluate_fold-requires : goal.evaluate-evaluate_fold-requires
evaluate-evaluate_fold-requires t c = (omega (arith, add_is_deeper _ _ c.in-Add.is, ap deepest c.as_slice-in-Add.ensures, c.decreases), λ e. cc)

pub evaluate-evaluate_fold-requires-in-Mul : goal.evaluate-evaluate_fold-requires-in-Mul
evaluate-evaluate_fold-requires-in-Mul t c = (omega (arith, mul_is_deeper _ _ c.in-Mul.is, ap deepest c.as_slice-in-Mul.ensures, c.decreases), λ e. cc)

pub evaluate-evaluate_negative-requires : goal.evaluate-evaluate_negative-requires
evaluate-evaluate_negative-requires t c = (omega (arith, neg_is_deeper _ _ c.in-Neg.is, ap depth_of c.get.ensures, c.decreases), tt)

pub evaluate-evaluate_difference-requires : goal.evaluate-evaluate_difference-requires
evaluate-evaluate_difference-requires t c = (omega (arith, sub_is_deeper _ _ _ c.in-Sub.is, ap depth_of c.get-in-Sub.ensures, ap depth_of c.get-in-Sub-2.ensures, c.decreases), tt)

pub evaluate-evaluate_quotient-requires : goal.evaluate-evaluate_quotient-requires
evaluate-evaluate_quotient-requires t c = (omega (arith, div_is_deeper _ _ _ c.in-Div.is, ap depth_of c.get-in-Div.ensures, ap depth_of c.get-in-Div-2.ensures, c.decreases), tt)

pub evaluate_fold-evaluate-requires-in-loop-part : goal.evaluate_fold-evaluate-requires-in-loop-part
evaluate_fold-evaluate-requires-in-loop-part t c =
    let parts = c.args.parts.now in
    (omega (arith, deepest-get _ c.loop-part.part-index c.part-item.result c.loop-part-test.true c.part-item.is, deepest-after parts (length parts - 1), c.decreases), tt)

pub evaluate_fold-returns-in_err-x-2 : goal.evaluate_fold-returns-in_err-x-2
evaluate_fold-returns-in_err-x-2 t c =
    let p = err_from_is_err_and c.from_residual-in_err-x-2.result c.from_residual-in_err-x-2.ensures.1 in
    rw (p.1, p.2) (fold_passes _ _ _ _ _ _ c.loop-part.invariant c.loop-part-test.true c.part-item.result c.part-item.is c.in-Some-2.y _
    (ap (λ (o : Option Fraction). met_of (Ok o)) (sym c.in-Some-2.is) ∙ c.in_ok-y.ensures) c.in_err-x-2.ensures)
