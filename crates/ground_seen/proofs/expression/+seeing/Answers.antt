use Rattle.std.proofs.Common.{ap, refl, arith}
use Rattle.plan_step.proofs.Depth.{depth_of, deepest, add_is_deeper, mul_is_deeper, neg_is_deeper, sub_is_deeper, div_is_deeper, deepest-get}
use Rattle.ground_seen.proofs.Answering.{along_ok}
use Rattle.ground_seen.proofs.Naming.{by_num, by_call, by_add, by_mul, by_neg, by_sub, by_div}
use Rattle.ground_seen.proofs.expression.+seeing.Goals as goal

pub see_parts-see_expression-requires : goal.see_parts-see_expression-requires
see_parts-see_expression-requires t c = (omega (arith, deepest-get _ c.loop-part.part-index c.part-item.result c.loop-part-test.true c.part-item.is, c.decreases), tt)

pub see_expression-see_parts-requires : goal.see_expression-see_parts-requires
see_expression-see_parts-requires t c = (omega (arith, add_is_deeper _ _ c.in-Add.is, ap deepest c.as_slice-in-Add.ensures, c.decreases), tt)

pub see_expression-see_parts-requires-in-Mul : goal.see_expression-see_parts-requires-in-Mul
see_expression-see_parts-requires-in-Mul t c = (omega (arith, mul_is_deeper _ _ c.in-Mul.is, ap deepest c.as_slice-in-Mul.ensures, c.decreases), tt)

pub see_expression-see_expression-requires : goal.see_expression-see_expression-requires
see_expression-see_expression-requires t c = (omega (arith, neg_is_deeper _ _ c.in-Neg.is, ap depth_of c.get.ensures, c.decreases), tt)

pub see_expression-see_both-requires : goal.see_expression-see_both-requires
see_expression-see_both-requires t c = (omega (arith, sub_is_deeper _ _ _ c.in-Sub.is, ap depth_of c.get-in-Sub.ensures, ap depth_of c.get-in-Sub-2.ensures, c.decreases), tt)

pub see_expression-see_both-requires-in-Div : goal.see_expression-see_both-requires-in-Div
see_expression-see_both-requires-in-Div t c = (omega (arith, div_is_deeper _ _ _ c.in-Div.is, ap depth_of c.get-in-Div.ensures, ap depth_of c.get-in-Div-2.ensures, c.decreases), tt)

pub see_expression-returns-in-Num : goal.see_expression-returns-in-Num
see_expression-returns-in-Num t c = by_num _ _ _ _ _ _ c.in-Num.is refl

pub see_expression-returns-in-Call : goal.see_expression-returns-in-Call
see_expression-returns-in-Call t c = along_ok c.see_call.result (λ h. by_call _ _ _ _ _ _ _ _ c.in-Call.is c.as_slice.ensures h) c.see_call.ensures

pub see_expression-returns-in-Add : goal.see_expression-returns-in-Add
see_expression-returns-in-Add t c = along_ok c.see_parts.result (λ h. by_add _ _ _ _ _ _ _ c.in-Add.is c.as_slice-in-Add.ensures h) c.see_parts.ensures

pub see_expression-returns-in-Mul : goal.see_expression-returns-in-Mul
see_expression-returns-in-Mul t c = along_ok c.see_parts-in-Mul.result (λ h. by_mul _ _ _ _ _ _ _ c.in-Mul.is c.as_slice-in-Mul.ensures h) c.see_parts-in-Mul.ensures

pub see_expression-returns-in-Neg : goal.see_expression-returns-in-Neg
see_expression-returns-in-Neg t c = along_ok c.see_expression.result (λ h. by_neg _ _ _ _ _ _ _ c.in-Neg.is c.get.ensures h) c.see_expression.ensures

pub see_expression-returns-in-Sub : goal.see_expression-returns-in-Sub
see_expression-returns-in-Sub t c = along_ok c.see_both.result (λ h. by_sub _ _ _ _ _ _ _ _ _ c.in-Sub.is c.get-in-Sub.ensures c.get-in-Sub-2.ensures h) c.see_both.ensures

pub see_expression-returns-in-Div : goal.see_expression-returns-in-Div
see_expression-returns-in-Div t c = along_ok c.see_both-in-Div.result (λ h. by_div _ _ _ _ _ _ _ _ _ c.in-Div.is c.get-in-Div.ensures c.get-in-Div-2.ensures h) c.see_both-in-Div.ensures
