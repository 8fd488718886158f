use Rattle.std.proofs.Common.{Option, Some, None, refl, ap, subst, ◌∙◌}
use Rattle.std.specs.Option.{ok_or}
use Rattle.rational.specs.Fraction.{Fraction, neg_ℚ}
use Rattle.frac128.specs.declared.operations.Op.TheVariants.{Sub}
use Rattle.frac128.specs.declared.operations.Wide.{Wide}
use Rattle.frac128.specs.Operations.{Answers, SumOrPast}
use Rattle.frac128.proofs.fraction.Frac.sub.Goals as goal

abbrev refusal : Fraction → Fraction → Wide
refusal x y = record { op = Sub; x = x; y = y }

difference : (x y : Fraction) (o : Option Fraction) → SumOrPast x (neg_ℚ y) o → Answers Sub x y (ok_or o (refusal x y))
difference x y (Some r) h = h
difference x y None h = (h, refl)

pub returns : goal.returns
returns c =
    let x = c.args.self.now in let y = c.args.y.now in
    let P = λ (z : Fraction). SumOrPast x z c.sum.result in
    rw (c.ok_or.ensures.value ∙ ap (λ (w : Wide). ok_or c.sum.result w) c.refusal.ensures) (difference x y c.sum.result (subst P c.neg.ensures c.sum.ensures))
