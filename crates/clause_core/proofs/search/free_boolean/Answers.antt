use Rattle.clause_core.proofs.Choices.{free_lits}
use Rattle.clause_core.proofs.search.free_boolean.Goals as goal

pub returns : goal.returns
returns g c = rw (← c.core.view_is) (free_lits c.core.inside.trail.entries _ _ c.free_in.result c.core.invariant.booleans c.free_in.ensures)
