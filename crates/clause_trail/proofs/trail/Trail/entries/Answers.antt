use Rattle.std.proofs.Common.{subst}
use Rattle.clause_trail.specs.Standing.{IsApart, Trailed}
use Rattle.clause_trail.proofs.Places.{apart}
use Rattle.clause_trail.proofs.trail.Trail.entries.Goals as goal

pub returns-clause-apart : goal.returns-clause-apart
returns-clause-apart c = subst (λ (t : Trailed). IsApart t.entries) c.self.view_is (apart _ _ c.self.invariant.placed)
