use Rattle.std.proofs.Common.{◌∙◌, pos}
use Rattle.rational.specs.Fraction.{whole}
use Rattle.rational.proofs.FieldLaws.{quotient-itself}
use Rattle.relaxed.proofs.interval.zero.Goals as goal

pub returns : goal.returns
returns c = c.ratio.ensures ∙ quotient-itself (whole (pos 0))
