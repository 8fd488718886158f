use Rattle.std.proofs.Common.{◌∙◌, ap, sym}
use lib.IntN.{pos}
use Rattle.rational.specs.Fraction.{whole}
use Rattle.rational.proofs.FieldLaws.{quotient-itself}
use Rattle.lin.specs.Linear.{fixed}
use Rattle.encode.specs.inside.Starting.{constant_value}
use Rattle.encode.proofs.starting.constant_value.Goals as goal

pub returns-in-None : goal.returns-in-None
returns-in-None c = c.fixed-in-None.ensures ∙ ap fixed (c.ratio.ensures ∙ quotient-itself (whole (pos 0))) ∙ sym (ap constant_value c.in-None.is)
