use Rattle.std.proofs.Common.{Bool, cond, ◌∙◌, ap, sym}
use lib.IntN.{pos}
use Rattle.rational.specs.Fraction.{whole}
use Rattle.rational.proofs.FieldLaws.{quotient-itself}
use Rattle.encode.proofs.counting.one_or_zero.Goals as goal

pub returns-then-is_true : goal.returns-then-is_true
returns-then-is_true c = c.ratio.ensures ∙ quotient-itself (whole (pos 1)) ∙ sym (ap (λ (b : Bool). cond b (whole (pos 1)) (whole (pos 0))) c.if-is_true.true)

pub returns-else-is_true : goal.returns-else-is_true
returns-else-is_true c = c.ratio-else-is_true.ensures ∙ quotient-itself (whole (pos 0)) ∙ sym (ap (λ (b : Bool). cond b (whole (pos 1)) (whole (pos 0))) c.if-is_true.false)
