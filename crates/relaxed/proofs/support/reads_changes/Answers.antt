use Rattle.std.proofs.Common.{◌≡◌, false, ◌++◌}
use Rattle.std.specs.List.{list_all, flat_map}
use Rattle.task_core.specs.Task.{variables, numbers}
use Rattle.relaxed.specs.Layers.{has_interval}
use Rattle.relaxed.specs.inside.Kept.{layer_of}
use Rattle.relaxed.proofs.ReadLaws.{changes-read, and_with, and_without}
use Rattle.relaxed.proofs.support.reads_changes.Goals as goal

pub returns-then-reads_sets : goal.returns-then-reads_sets
returns-then-reads_sets c =
    and_with _ _ _ c.reads_sets.result c.reads_increments.result (changes-read (has_interval (layer_of c.args.table.now)) c.args.a.now)
    c.reads_sets.ensures c.if-reads_sets.true c.reads_increments.ensures

pub returns-else-reads_sets : goal.returns-else-reads_sets
returns-else-reads_sets c =
    let fails : list_all (has_interval (layer_of c.args.table.now)) (flat_map (λ s. variables s.1) c.args.a.now.sets ++ numbers c.args.a.now.incs) ≡ false =
    and_without _ _ _ c.reads_sets.result (changes-read (has_interval (layer_of c.args.table.now)) c.args.a.now) c.reads_sets.ensures c.if-reads_sets.false in
    cc
