use Rattle.std.proofs.Common.{subst, ◌∙◌}
use Rattle.rational.specs.Fraction.{Fraction, ◌<ℚ◌}
use Rattle.rational.proofs.OrderLaws.{<ℚ-apart, <ℚ-not-≥, <ℚ-weaken}
use Rattle.simplex_check.proofs.choice.is_negative.Goals as goal

pub returns-in-Equal : goal.returns-in-Equal
returns-in-Equal c = ((λ h. cc), (λ h. absurd (<ℚ-apart _ _ h (c.in-Equal.ensures ∙ c.zero.ensures))))

pub returns-in-Greater : goal.returns-in-Greater
returns-in-Greater c = ((λ h. cc), (λ h. absurd (<ℚ-not-≥ _ _ h (<ℚ-weaken _ _ (subst (λ (w : Fraction). w <ℚ c.args.x.now) c.zero.ensures c.in-Greater.ensures)))))
