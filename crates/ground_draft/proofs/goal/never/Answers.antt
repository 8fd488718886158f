use Rattle.std.proofs.Common.{◌∙◌, ap, pos}
use Rattle.rational.specs.Fraction.{whole}
use Rattle.rational.proofs.FieldLaws.{quotient-itself}
use Rattle.lin.specs.Linear.{fixed}
use Rattle.lin.specs.declared.comparison.Cmp.TheVariants.{Le}
use Rattle.ground_draft.proofs.goal.never.Goals as goal

pub returns : goal.returns
returns c = ap (λ l. (l, Le)) (c.fixed.ensures ∙ ap fixed (c.ratio.ensures ∙ quotient-itself (whole (pos 1))))
