use Rattle.ground_check.proofs.ValueAtoms.{not_read}
use Rattle.ground_check.proofs.values.never_reads.Goals as goal

pub returns-then-no_value_reads : goal.returns-then-no_value_reads
returns-then-no_value_reads c e =
    not_read c.args.a.now c.args.f (c.no_comparison_reads.ensures c.if-no_comparison_reads.true) (c.no_value_reads.ensures c.if-no_value_reads.true)
    (c.no_increment_reads.ensures e)
