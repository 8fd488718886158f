use Rattle.std.proofs.Common.{◌≡◌, ◌∙◌, ap, sym, subst, ◌<◌, ◌^◌}
use lib.IntN.{ℤ, pos, nat_abs}
use Rattle.rational.specs.Fraction.{Fraction, whole, ◌+ℚ◌}
use Rattle.rational.proofs.FieldLaws.{quotient-itself}
use Rattle.frac128.specs.Bounds.{IsFrac}
use Rattle.clause_rows.proofs.bounds.has_next.Goals as goal

pub returns-in-Ok : goal.returns-in-Ok
returns-in-Ok c = λ _.
    let one : c.ratio.result ≡ whole (pos 1) = c.ratio.ensures ∙ quotient-itself (whole (pos 1)) in
    let is = c.in-Ok.ensures.1 ∙ ap (λ (x : Fraction). c.args.k.now +ℚ x) one in
    let fits : IsFrac c.in-Ok.sum = record {
      num = subst (λ (z : ℤ). nat_abs z < 2 ^ 127) c.num-num.ensures.value c.num-num.ensures.within;
      den = subst (λ (z : ℤ). nat_abs z < 2 ^ 127) c.den-den.ensures.value c.den-den.ensures.within;
    } in
    subst IsFrac is fits
