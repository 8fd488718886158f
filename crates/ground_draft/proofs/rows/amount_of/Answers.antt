use Rattle.std.proofs.Common.{◌∙◌, sym, ap, pos}
use Rattle.rational.specs.Fraction.{whole}
use Rattle.rational.proofs.FieldLaws.{quotient-itself}
use Rattle.ground_draft.specs.inside.Acts.{amount_of}
use Rattle.ground_draft.proofs.rows.amount_of.Goals as goal

pub returns-in-Linear : goal.returns-in-Linear
returns-in-Linear c = c.ratio.ensures ∙ quotient-itself (whole (pos 0)) ∙ ap amount_of (sym c.in-Linear.is)
