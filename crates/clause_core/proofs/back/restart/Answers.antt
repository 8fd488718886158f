use Rattle.clause_core.proofs.Cores.{core_back}
use Rattle.clause_core.proofs.back.restart.Goals as goal

pub invariant_of-core : goal.invariant_of-core
invariant_of-core g c =
    let b = c.back_to-core-inside.ensures in
    core_back c.core.invariant b.sane b.told b.seen b.booleans
