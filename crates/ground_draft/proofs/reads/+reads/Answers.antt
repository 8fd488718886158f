use Rattle.std.proofs.Common.{ap, arith}
use Rattle.plan_step.proofs.Depth.{depth_of, deepest, add_is_deeper, mul_is_deeper, neg_is_deeper, sub_is_deeper, div_is_deeper, deepest-get}
use Rattle.ground_parts.specs.Forms.{setting_in}
use Rattle.ground_draft.proofs.ReadSteps.{as_read, by_num, by_call, by_add, by_mul, by_neg, by_sub, by_div}
use Rattle.ground_draft.proofs.reads.+reads.Goals as goal

pub add_reads-add_all-requires : goal.add_reads-add_all-requires
add_reads-add_all-requires t c = (omega (arith, add_is_deeper _ _ c.in-Add.is, ap deepest c.as_slice-in-Add.ensures, c.decreases), tt)

pub add_reads-add_all-requires-in-Mul : goal.add_reads-add_all-requires-in-Mul
add_reads-add_all-requires-in-Mul t c = (omega (arith, mul_is_deeper _ _ c.in-Mul.is, ap deepest c.as_slice-in-Mul.ensures, c.decreases), tt)

pub add_reads-add_reads-requires : goal.add_reads-add_reads-requires
add_reads-add_reads-requires t c = (omega (arith, neg_is_deeper _ _ c.in-Neg.is, ap depth_of c.get.ensures, c.decreases), tt)

pub add_reads-add_both-requires : goal.add_reads-add_both-requires
add_reads-add_both-requires t c = (omega (arith, sub_is_deeper _ _ _ c.in-Sub.is, ap depth_of c.get-in-Sub.ensures, ap depth_of c.get-in-Sub-2.ensures, c.decreases), tt)

pub add_reads-add_both-requires-in-Div : goal.add_reads-add_both-requires-in-Div
add_reads-add_both-requires-in-Div t c = (omega (arith, div_is_deeper _ _ _ c.in-Div.is, ap depth_of c.get-in-Div.ensures, ap depth_of c.get-in-Div-2.ensures, c.decreases), tt)

pub add_all-add_reads-requires : goal.add_all-add_reads-requires
add_all-add_reads-requires t c =
    (omega (arith, deepest-get _ c.loop-part.part-index c.part-item.result c.loop-part-test.true c.part-item.is, c.decreases), tt)

pub add_reads-returns-in-Num : goal.add_reads-returns-in-Num
add_reads-returns-in-Num t c = by_num (setting_in c.args.given.now) c.args.args.now _ _ _ c.in-Num.is

pub add_reads-returns-in-Call : goal.add_reads-returns-in-Call
add_reads-returns-in-Call t c = as_read c.add_call.result _ _ _ _ (by_call (setting_in c.args.given.now) c.args.args.now _ _ _ _ c.in-Call.is c.as_slice.ensures) c.add_call.ensures

pub add_reads-returns-in-Add : goal.add_reads-returns-in-Add
add_reads-returns-in-Add t c = as_read c.add_all.result _ _ _ _ (by_add (setting_in c.args.given.now) c.args.args.now _ _ _ c.in-Add.is c.as_slice-in-Add.ensures) c.add_all.ensures

pub add_reads-returns-in-Mul : goal.add_reads-returns-in-Mul
add_reads-returns-in-Mul t c = as_read c.add_all-in-Mul.result _ _ _ _ (by_mul (setting_in c.args.given.now) c.args.args.now _ _ _ c.in-Mul.is c.as_slice-in-Mul.ensures) c.add_all-in-Mul.ensures

pub add_reads-returns-in-Neg : goal.add_reads-returns-in-Neg
add_reads-returns-in-Neg t c = as_read c.add_reads.result _ _ _ _ (by_neg (setting_in c.args.given.now) c.args.args.now _ _ _ c.in-Neg.is c.get.ensures) c.add_reads.ensures

pub add_reads-returns-in-Sub : goal.add_reads-returns-in-Sub
add_reads-returns-in-Sub t c = as_read c.add_both.result _ _ _ _ (by_sub (setting_in c.args.given.now) c.args.args.now _ _ _ _ _ c.in-Sub.is c.get-in-Sub.ensures c.get-in-Sub-2.ensures) c.add_both.ensures

pub add_reads-returns-in-Div : goal.add_reads-returns-in-Div
add_reads-returns-in-Div t c = as_read c.add_both-in-Div.result _ _ _ _ (by_div (setting_in c.args.given.now) c.args.args.now _ _ _ _ _ c.in-Div.is c.get-in-Div.ensures c.get-in-Div-2.ensures) c.add_both-in-Div.ensures
