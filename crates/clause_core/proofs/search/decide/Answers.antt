use Rattle.clause_trail.proofs.Bridge.{lits_stand}
use Rattle.clause_core.proofs.Cores.{core_decided}
use Rattle.clause_core.proofs.search.decide.Goals as goal

pub push-requires-clause-open : goal.push-requires-clause-open
push-requires-clause-open g c = λ p l s e.
    let free = rw (← c.core.view_is) at c.requires.unassigned in
    free l (lits_stand c.core.inside.trail.entries p l s) e

pub invariant_of-core : goal.invariant_of-core
invariant_of-core g c =
    let quiet = rw (← c.core.view_is) at c.requires.quiet in
    let low = rw (← c.core.view_is) at c.requires.low in
    core_decided c.push.result c.core.inside.trail c.push.new.self c.core.invariant _ low quiet c.push.ensures.ok c.push.ensures.err c.push.ensures.booleans
