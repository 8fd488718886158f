use Rattle.std.proofs.Common.{◌≡◌, false}
use Rattle.std.specs.List.{list_all}
use Rattle.task_core.specs.Task.{read_by}
use Rattle.relaxed.specs.Layers.{has_interval}
use Rattle.relaxed.specs.inside.Kept.{layer_of}
use Rattle.relaxed.proofs.ReadLaws.{all-read, and_with, and_without}
use Rattle.relaxed.proofs.support.reads.Goals as goal

pub returns-then-reads_comparisons : goal.returns-then-reads_comparisons
returns-then-reads_comparisons c =
    and_with _ _ _ c.reads_comparisons.result c.reads_changes.result (all-read (has_interval (layer_of c.args.table.now)) c.args.a.now)
    c.reads_comparisons.ensures c.if-reads_comparisons.true c.reads_changes.ensures

pub returns-else-reads_comparisons : goal.returns-else-reads_comparisons
returns-else-reads_comparisons c =
    let fails : list_all (has_interval (layer_of c.args.table.now)) (read_by c.args.a.now) ≡ false =
    and_without _ _ _ c.reads_comparisons.result (all-read (has_interval (layer_of c.args.table.now)) c.args.a.now) c.reads_comparisons.ensures c.if-reads_comparisons.false in
    cc
