use Rattle.std.proofs.Common.{◌∙◌, ap}
use Rattle.rational.specs.Fraction.{Fraction, whole}
use Rattle.rational.specs.Floor.{floor_of}
use Rattle.encode_rows.proofs.RoundingLaws.{ceiling_is}
use Rattle.encode_rows.proofs.rounding.ceiling.Goals as goal

pub returns : goal.returns
returns c = ceiling_is c.args.b.now c.floor.result _ (c.floor.ensures ∙ ap (λ (x : Fraction). whole (floor_of x)) c.neg.ensures) c.neg-2.ensures
