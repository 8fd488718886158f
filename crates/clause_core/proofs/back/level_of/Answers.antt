use Rattle.std.proofs.Common.{arith}
use Rattle.clause_core.proofs.Depths.{two_late}
use Rattle.clause_core.proofs.back.level_of.Goals as goal

pub returns : goal.returns
returns c = λ d lt.
    let i = c.loop-lit.invariant in
    two_late c.entries-entries.ensures.apart (i.keep (omega arith)) (i.top (omega (arith, i.order (omega arith)))) (i.order (omega arith)) d lt
