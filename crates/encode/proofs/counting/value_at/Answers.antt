use Rattle.std.proofs.Common.{◌∙◌, ◌≡◌, sym}
use Rattle.std.specs.Prelude.{None, slice_get}
use lib.IntN.{pos}
use Rattle.rational.specs.Fraction.{whole}
use Rattle.rational.proofs.FieldLaws.{quotient-itself}
use Rattle.encode.proofs.CountingLaws.{none-at}
use Rattle.encode.proofs.counting.value_at.Goals as goal

pub returns-in-None : goal.returns-in-None
returns-in-None c =
    let e : slice_get c.args.p.now.values c.args.c ≡ None = sym c.get.ensures.value ∙ sym c.copied.ensures ∙ c.in-None.is in
    c.ratio.ensures ∙ quotient-itself (whole (pos 0)) ∙ sym (none-at c.args.p.now.values c.args.c (whole (pos 0)) e)
