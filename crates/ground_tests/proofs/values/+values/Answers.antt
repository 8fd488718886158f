use Rattle.std.proofs.Common.{ap, length, ◌-◌, arith, ◌∙◌}
use Rattle.plan_step.proofs.Depth.{depth_of, deepest, add_is_deeper, mul_is_deeper, neg_is_deeper, sub_is_deeper, div_is_deeper, deepest-get}
use Rattle.ground_parts.specs.Forms.{setting_in}
use Rattle.ground_tests.proofs.HavingValues.{as_value, by_num, by_call, by_add, by_mul, by_neg, by_sub, by_div}
use Rattle.ground_tests.proofs.values.+values.Goals as goal

pub has_values-all_have_values-requires : goal.has_values-all_have_values-requires
has_values-all_have_values-requires t c = (omega (arith, add_is_deeper _ _ c.in-Add.is, ap deepest c.as_slice-in-Add.ensures, c.decreases), tt)

pub has_values-all_have_values-requires-in-Mul : goal.has_values-all_have_values-requires-in-Mul
has_values-all_have_values-requires-in-Mul t c = (omega (arith, mul_is_deeper _ _ c.in-Mul.is, ap deepest c.as_slice-in-Mul.ensures, c.decreases), tt)

pub has_values-has_values-requires : goal.has_values-has_values-requires
has_values-has_values-requires t c = (omega (arith, neg_is_deeper _ _ c.in-Neg.is, ap depth_of c.get.ensures, c.decreases), tt)

pub has_values-both_have_values-requires : goal.has_values-both_have_values-requires
has_values-both_have_values-requires t c = (omega (arith, sub_is_deeper _ _ _ c.in-Sub.is, ap depth_of c.get-in-Sub.ensures, ap depth_of c.get-in-Sub-2.ensures, c.decreases), tt)

pub has_values-both_have_values-requires-in-Div : goal.has_values-both_have_values-requires-in-Div
has_values-both_have_values-requires-in-Div t c = (omega (arith, div_is_deeper _ _ _ c.in-Div.is, ap depth_of c.get-in-Div.ensures, ap depth_of c.get-in-Div-2.ensures, c.decreases), tt)

pub all_have_values-has_values-requires : goal.all_have_values-has_values-requires
all_have_values-has_values-requires t c =
    (omega (arith, deepest-get _ c.loop-part.part-index c.part-item.result c.loop-part-test.true c.part-item.is, c.decreases), tt)

pub has_values-returns-in-Num : goal.has_values-returns-in-Num
has_values-returns-in-Num t c = by_num (setting_in c.args.given.now) c.args.args.now _ _ c.in-Num.is

pub has_values-returns-in-Call : goal.has_values-returns-in-Call
has_values-returns-in-Call t c = as_value c.has_value.result _ _ (by_call (setting_in c.args.given.now) c.args.args.now _ _ _ _ c.in-Call.is c.as_slice.ensures) c.has_value.ensures

pub has_values-returns-in-Add : goal.has_values-returns-in-Add
has_values-returns-in-Add t c = as_value c.all_have_values.result _ _ (by_add (setting_in c.args.given.now) c.args.args.now _ _ _ c.in-Add.is c.as_slice-in-Add.ensures) c.all_have_values.ensures

pub has_values-returns-in-Mul : goal.has_values-returns-in-Mul
has_values-returns-in-Mul t c = as_value c.all_have_values-in-Mul.result _ _ (by_mul (setting_in c.args.given.now) c.args.args.now _ _ _ c.in-Mul.is c.as_slice-in-Mul.ensures) c.all_have_values-in-Mul.ensures

pub has_values-returns-in-Neg : goal.has_values-returns-in-Neg
has_values-returns-in-Neg t c = as_value c.has_values.result _ _ (by_neg (setting_in c.args.given.now) c.args.args.now _ _ _ c.in-Neg.is c.get.ensures) c.has_values.ensures

pub has_values-returns-in-Sub : goal.has_values-returns-in-Sub
has_values-returns-in-Sub t c = as_value c.both_have_values.result _ _ (by_sub (setting_in c.args.given.now) c.args.args.now _ _ _ _ _ c.in-Sub.is c.get-in-Sub.ensures c.get-in-Sub-2.ensures) c.both_have_values.ensures

pub has_values-returns-in-Div : goal.has_values-returns-in-Div
has_values-returns-in-Div t c = as_value c.both_have_values-in-Div.result _ _ (by_div (setting_in c.args.given.now) c.args.args.now _ _ _ _ _ c.in-Div.is c.get-in-Div.ensures c.get-in-Div-2.ensures) c.both_have_values-in-Div.ensures
