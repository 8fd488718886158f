use Rattle.std.proofs.Common.{subst}
use Rattle.rational.specs.Fraction.{Fraction, ◌<ℚ◌}
use Rattle.rational.proofs.OrderLaws.{<ℚ_irrefl, <ℚ-weaken, ≤ℚ-<ℚ_trans}
use Rattle.cert_check.proofs.known.is_below.Goals as goal

pub returns-in-Equal : goal.returns-in-Equal
returns-in-Equal c = (λ t. absurd (cc), λ lt. absurd (<ℚ_irrefl c.args.y.now (subst (λ (x : Fraction). x <ℚ c.args.y.now) c.in-Equal.ensures lt)))

pub returns-in-Greater : goal.returns-in-Greater
returns-in-Greater c = (λ t. absurd (cc), λ lt. absurd (<ℚ_irrefl c.args.y.now (≤ℚ-<ℚ_trans c.args.y.now c.args.x.now c.args.y.now (<ℚ-weaken c.args.y.now c.args.x.now c.in-Greater.ensures) lt)))
