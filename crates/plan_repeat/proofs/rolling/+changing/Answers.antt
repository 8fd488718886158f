use Rattle.std.proofs.Common.{ap, refl, arith}
use Rattle.pddl_task.specs.Task.{is_changing_func}
use Rattle.plan_step.proofs.Depth.{depth_of, deepest, add_is_deeper, mul_is_deeper, neg_is_deeper, sub_is_deeper, div_is_deeper, deepest-get}
use Rattle.plan_step.proofs.Changing.{past-call}
use Rattle.plan_repeat.proofs.Reading.{reads-num, reads-call, reads-add, reads-mul, reads-neg, reads-sub, reads-div}
use Rattle.plan_repeat.proofs.rolling.+changing.Goals as goal

pub any_reads-reads_changing-requires : goal.any_reads-reads_changing-requires
any_reads-reads_changing-requires t c = (omega (arith, deepest-get _ c.loop-part.part-index c.part-item.result c.loop-part-test.true c.part-item.is, c.decreases), tt)

pub reads_changing-any_reads-requires : goal.reads_changing-any_reads-requires
reads_changing-any_reads-requires t c = (omega (arith, add_is_deeper _ _ c.in-Add.is, ap deepest c.as_slice.ensures, c.decreases), tt)

pub reads_changing-any_reads-requires-in-Mul : goal.reads_changing-any_reads-requires-in-Mul
reads_changing-any_reads-requires-in-Mul t c = (omega (arith, mul_is_deeper _ _ c.in-Mul.is, ap deepest c.as_slice-in-Mul.ensures, c.decreases), tt)

pub reads_changing-reads_changing-requires : goal.reads_changing-reads_changing-requires
reads_changing-reads_changing-requires t c = (omega (arith, neg_is_deeper _ _ c.in-Neg.is, ap depth_of c.get.ensures, c.decreases), tt)

pub reads_changing-either_reads-requires : goal.reads_changing-either_reads-requires
reads_changing-either_reads-requires t c = (omega (arith, sub_is_deeper _ _ _ c.in-Sub.is, ap depth_of c.get-in-Sub.ensures, ap depth_of c.get-in-Sub-2.ensures, c.decreases), tt)

pub reads_changing-either_reads-requires-in-Div : goal.reads_changing-either_reads-requires-in-Div
reads_changing-either_reads-requires-in-Div t c = (omega (arith, div_is_deeper _ _ _ c.in-Div.is, ap depth_of c.get-in-Div.ensures, ap depth_of c.get-in-Div-2.ensures, c.decreases), tt)

pub reads_changing-returns-in-Num : goal.reads_changing-returns-in-Num
reads_changing-returns-in-Num t c = reads-num (is_changing_func c.args.task.now.actions) _ _ _ c.in-Num.is refl

pub reads_changing-returns-in-Add : goal.reads_changing-returns-in-Add
reads_changing-returns-in-Add t c = reads-add (is_changing_func c.args.task.now.actions) _ _ _ _ c.in-Add.is c.as_slice.ensures c.any_reads.ensures

pub reads_changing-returns-in-Mul : goal.reads_changing-returns-in-Mul
reads_changing-returns-in-Mul t c = reads-mul (is_changing_func c.args.task.now.actions) _ _ _ _ c.in-Mul.is c.as_slice-in-Mul.ensures c.any_reads-in-Mul.ensures

pub reads_changing-returns-in-Neg : goal.reads_changing-returns-in-Neg
reads_changing-returns-in-Neg t c = reads-neg (is_changing_func c.args.task.now.actions) _ _ _ _ c.in-Neg.is c.get.ensures c.reads_changing.ensures

pub reads_changing-returns-in-Sub : goal.reads_changing-returns-in-Sub
reads_changing-returns-in-Sub t c = reads-sub (is_changing_func c.args.task.now.actions) _ _ _ _ _ _ c.in-Sub.is c.get-in-Sub.ensures c.get-in-Sub-2.ensures c.either_reads.ensures

pub reads_changing-returns-in-Div : goal.reads_changing-returns-in-Div
reads_changing-returns-in-Div t c = reads-div (is_changing_func c.args.task.now.actions) _ _ _ _ _ _ c.in-Div.is c.get-in-Div.ensures c.get-in-Div-2.ensures c.either_reads-in-Div.ensures

pub reads_changing-returns-then-func-funcs : goal.reads_changing-returns-then-func-funcs
reads_changing-returns-then-func-funcs t c = reads-call (is_changing_func c.args.task.now.actions) _ _ _ _ c.in-Call.is c.changing_func.ensures

pub reads_changing-returns-else-func-funcs : goal.reads_changing-returns-else-func-funcs
reads_changing-returns-else-func-funcs t c =
    reads-call (is_changing_func c.args.task.now.actions) _ _ _ _ c.in-Call.is (past-call c.args.task.now c.funcs.ensures.numbered c.in-Call.func c.funcs.result c.funcs.ensures.value c.if-func-funcs.false)
