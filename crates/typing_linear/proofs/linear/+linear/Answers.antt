use Rattle.typing_linear.proofs.Reading.{one_more_so_far, all_faults, num_reads, num_faults, call_reads, call_faults, op_reads, op_faults, nonlinear_operation}
use Rattle.typing_linear.proofs.linear.+linear.Goals as goal

pub read_arguments-loop-at-preserved : goal.read_arguments-loop-at-preserved
read_arguments-loop-at-preserved t c = one_more_so_far _ _ _ _ _ _ _ _ _ _ _ _ _ _ c.loop-at.invariant c.loop-at-test.true c.index-args-at.is c.read_expression-one.ensures.reads c.read_expression-one.ensures.faults c.with-reads.ensures.any c.with-reads.ensures.two c.with-reads.ensures.second

pub read_arguments-returns-clause-faults : goal.read_arguments-returns-clause-faults
read_arguments-returns-clause-faults t c = all_faults _ _ _ _ _ _ _ _ c.loop-at.invariant c.loop-at-test.false

pub read_expression-returns-in-Num-clause-reads : goal.read_expression-returns-in-Num-clause-reads
read_expression-returns-in-Num-clause-reads t c = num_reads _ _ _ c.in-Num.is

pub read_expression-returns-in-Num-clause-faults : goal.read_expression-returns-in-Num-clause-faults
read_expression-returns-in-Num-clause-faults t c = num_faults _ _ _ _ c.in-Num.is

pub read_expression-returns-in-Call-clause-reads : goal.read_expression-returns-in-Call-clause-reads
read_expression-returns-in-Call-clause-reads t c = call_reads _ _ _ _ _ _ c.in-Call.is c.as_str.ensures c.has.ensures

pub read_expression-returns-in-Call-clause-faults : goal.read_expression-returns-in-Call-clause-faults
read_expression-returns-in-Call-clause-faults t c = call_faults _ _ _ _ _ c.in-Call.is

pub read_expression-returns-in-Op-clause-reads : goal.read_expression-returns-in-Op-clause-reads
read_expression-returns-in-Op-clause-reads t c = op_reads _ _ _ _ _ _ c.in-Op.is c.as_slice.ensures c.read_operation.ensures.reads

pub read_expression-returns-in-Op-clause-faults : goal.read_expression-returns-in-Op-clause-faults
read_expression-returns-in-Op-clause-faults t c = op_faults _ _ _ _ _ _ _ c.in-Op.is c.as_slice.ensures c.read_operation.ensures.faults

pub read_operation-returns-then-is_nonlinear-clause-faults : goal.read_operation-returns-then-is_nonlinear-clause-faults
read_operation-returns-then-is_nonlinear-clause-faults t c = nonlinear_operation c.args.changing.now c.args.op.now _ c.args.args.now _ _ _ c.args.faults.now _ _ c.as_str.ensures c.read_arguments-reads.ensures.two c.read_arguments-reads.ensures.second c.is_nonlinear.ensures c.if-is_nonlinear.true c.read_arguments-reads.ensures.faults c.note_nonlinear.ensures
