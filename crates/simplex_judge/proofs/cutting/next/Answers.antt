use Rattle.std.proofs.Common.{◌≡◌, ◌∙◌, ap, subst, ◌<◌, ◌^◌}
use lib.IntN.{ℤ, pos, nat_abs}
use Rattle.rational.specs.Fraction.{Fraction, whole, ◌+ℚ◌}
use Rattle.rational.proofs.FieldLaws.{quotient-itself}
use Rattle.simplex_judge.proofs.cutting.next.Goals as goal

pub returns-in-Ok : goal.returns-in-Ok
returns-in-Ok c =
    let one : c.ratio.result ≡ whole (pos 1) = c.ratio.ensures ∙ quotient-itself (whole (pos 1)) in
    record {
      is = c.in-Ok.ensures.1 ∙ ap (λ (x : Fraction). c.args.k.now +ℚ x) one;
      fits = record {
        num = subst (λ (z : ℤ). nat_abs z < 2 ^ 127) c.num-num.ensures.value c.num-num.ensures.within;
        den = subst (λ (z : ℤ). nat_abs z < 2 ^ 127) c.den-den.ensures.value c.den-den.ensures.within;
      };
    }
