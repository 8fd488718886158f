use Rattle.std.proofs.Common.{sym, subst, ◌∙◌}
use Rattle.rational.specs.Fraction.{Fraction, ◌<ℚ◌}
use Rattle.rational.proofs.OrderLaws.{<ℚ-apart, <ℚ-not-≥, <ℚ-weaken}
use Rattle.simplex_check.proofs.choice.is_positive.Goals as goal

pub returns-in-Equal : goal.returns-in-Equal
returns-in-Equal c = ((λ h. cc), (λ h. absurd (<ℚ-apart _ _ h (sym c.zero.ensures ∙ c.in-Equal.ensures))))

pub returns-in-Greater : goal.returns-in-Greater
returns-in-Greater c = ((λ h. cc), (λ h. absurd (<ℚ-not-≥ _ _ h (<ℚ-weaken _ _ (subst (λ (w : Fraction). c.args.x.now <ℚ w) c.zero.ensures c.in-Greater.ensures)))))
