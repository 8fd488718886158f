use Rattle.std.proofs.Common.{◌<◌}
use Rattle.ground_check.proofs.Parts.{all_read}
use Rattle.ground_check.proofs.numbered.reads_below.Goals as goal

pub returns-then-values_are_below : goal.returns-then-values_are_below
returns-then-values_are_below c e =
    all_read (λ f. f < c.args.funcs) c.args.a.now (c.comparisons_are_below.ensures c.if-comparisons_are_below.true)
    (c.values_are_below.ensures c.if-values_are_below.true) (c.increments_are_below.ensures e)
