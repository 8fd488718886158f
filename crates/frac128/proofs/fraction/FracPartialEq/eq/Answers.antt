use Rattle.frac128.proofs.Parts.{eq_read}
use Rattle.frac128.proofs.fraction.FracPartialEq.eq.Goals as goal

pub returns : goal.returns
returns c = eq_read c.t1-1.inside c.t2-1.inside _ _ c.t1-1.view_is c.t1-1.invariant c.t2-1.view_is c.t2-1.invariant _ _ c.eq.ensures c.and_eq.ensures
