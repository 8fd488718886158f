use Rattle.std.proofs.Common.{ℤ, ap₂, ◌∙◌}
use lib.IntN.{nat_abs}
use Rattle.rational.specs.Fraction.{quotient, neg_ℚ}
use Rattle.frac128.proofs.Passed.{read, minus_passed}
use Rattle.frac128.proofs.fraction.Frac.neg.Goals as goal

pub returns : goal.returns
unfolding neg_ℚ
returns c =
    c.lowest.ensures ∙ ap₂ (λ (z w : ℤ). quotient z (nat_abs w)) (minus_passed c.num.ensures.within c.num.ensures.value) (read c.den.ensures.within c.den.ensures.value)
