use Rattle.std.proofs.Common.{ap, length, ◌-◌, arith}
use Rattle.plan_step.proofs.Depth.{depth_of, deepest, add_is_deeper, mul_is_deeper, neg_is_deeper, sub_is_deeper, div_is_deeper, deepest-get, deepest-after}
use Rattle.ground_parts.proofs.Making.{gives_as}
use Rattle.ground_parts.proofs.Meeting.{by_num, by_call, by_add, by_mul, by_neg, by_sub, by_div}
use Rattle.ground_parts.proofs.expression.+expressions.Goals as goal

pub meet-meet_all-requires : goal.meet-meet_all-requires
meet-meet_all-requires t c = (omega (arith, add_is_deeper _ _ c.in-Add.is, ap deepest c.as_slice-in-Add.ensures, c.decreases), tt)

pub meet-meet_all-requires-in-Mul : goal.meet-meet_all-requires-in-Mul
meet-meet_all-requires-in-Mul t c = (omega (arith, mul_is_deeper _ _ c.in-Mul.is, ap deepest c.as_slice-in-Mul.ensures, c.decreases), tt)

pub meet-meet_negative-requires : goal.meet-meet_negative-requires
meet-meet_negative-requires t c = (omega (arith, neg_is_deeper _ _ c.in-Neg.is, ap depth_of c.get.ensures, c.decreases), tt)

pub meet-meet_both-requires : goal.meet-meet_both-requires
meet-meet_both-requires t c = (omega (arith, sub_is_deeper _ _ _ c.in-Sub.is, ap depth_of c.get-in-Sub.ensures, ap depth_of c.get-in-Sub-2.ensures, c.decreases), tt)

pub meet-meet_both-requires-in-Div : goal.meet-meet_both-requires-in-Div
meet-meet_both-requires-in-Div t c = (omega (arith, div_is_deeper _ _ _ c.in-Div.is, ap depth_of c.get-in-Div.ensures, ap depth_of c.get-in-Div-2.ensures, c.decreases), tt)

pub meet_all-meet-requires-in-loop-expr : goal.meet_all-meet-requires-in-loop-expr
meet_all-meet-requires-in-loop-expr t c =
    let parts = c.args.parts.now in
    (omega (arith, deepest-get _ c.loop-expr.expr-index c.expr-item.result c.loop-expr-test.true c.expr-item.is, deepest-after parts (length parts - 1), c.decreases), tt)

pub meet-returns-in-Num : goal.meet-returns-in-Num
meet-returns-in-Num t c = by_num _ _ _ _ c.in-Num.is

pub meet-returns-in-Call : goal.meet-returns-in-Call
meet-returns-in-Call t c = gives_as _ _ _ (by_call _ _ _ _ _ _ c.in-Call.is c.as_slice.ensures) c.call.ensures

pub meet-returns-in-Add : goal.meet-returns-in-Add
meet-returns-in-Add t c = gives_as _ _ _ (by_add _ _ _ _ _ c.in-Add.is c.as_slice-in-Add.ensures) c.meet_all.ensures

pub meet-returns-in-Mul : goal.meet-returns-in-Mul
meet-returns-in-Mul t c = gives_as _ _ _ (by_mul _ _ _ _ _ c.in-Mul.is c.as_slice-in-Mul.ensures) c.meet_all-in-Mul.ensures

pub meet-returns-in-Neg : goal.meet-returns-in-Neg
meet-returns-in-Neg t c = gives_as _ _ _ (by_neg _ _ _ _ _ c.in-Neg.is c.get.ensures) c.meet_negative.ensures

pub meet-returns-in-Sub : goal.meet-returns-in-Sub
meet-returns-in-Sub t c = gives_as _ _ _ (by_sub _ _ _ _ _ _ _ c.in-Sub.is c.get-in-Sub.ensures c.get-in-Sub-2.ensures) c.meet_both.ensures

pub meet-returns-in-Div : goal.meet-returns-in-Div
meet-returns-in-Div t c = gives_as _ _ _ (by_div _ _ _ _ _ _ _ c.in-Div.is c.get-in-Div.ensures c.get-in-Div-2.ensures) c.meet_both-in-Div.ensures
