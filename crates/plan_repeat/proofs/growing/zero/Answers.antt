use Rattle.std.proofs.Common.{◌∙◌}
use lib.IntN.{pos}
use Rattle.rational.specs.Fraction.{whole}
use Rattle.rational.proofs.FieldLaws.{quotient-itself}
use Rattle.plan_repeat.proofs.growing.zero.Goals as goal

pub returns : goal.returns
returns c = c.ratio.ensures ∙ quotient-itself (whole (pos 0))
