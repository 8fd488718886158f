use Rattle.std.proofs.Common.{refl, sym}
use Rattle.rational.proofs.OrderLaws.{<ℚ-apart}
use Rattle.simplex_atoms.proofs.same.same_fraction.Goals as goal

pub returns-in-Less : goal.returns-in-Less
returns-in-Less c = ((λ h. absurd (cc)), (λ e. absurd (<ℚ-apart _ _ c.in-Less.ensures e)))

pub returns-in-Equal : goal.returns-in-Equal
returns-in-Equal c = ((λ h. c.in-Equal.ensures), (λ e. refl))

pub returns-in-Greater : goal.returns-in-Greater
returns-in-Greater c = ((λ h. absurd (cc)), (λ e. absurd (<ℚ-apart _ _ c.in-Greater.ensures (sym e))))
