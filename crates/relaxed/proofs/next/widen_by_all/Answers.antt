use Rattle.std.proofs.Common.{◌<◌, length, sym, subst, arith}
use Rattle.task_core.specs.Task.{IsOrderly}
use Rattle.relaxed.proofs.next.widen_by_all.Goals as goal

pub widen_if-requires : goal.widen_if-requires
widen_if-requires c =
    let below : c.loop-i.i < length c.args.actions.now = omega arith in
    subst IsOrderly (sym c.index-actions-i.is) (c.requires.orderly c.loop-i.i c.index-actions-i.result below)
