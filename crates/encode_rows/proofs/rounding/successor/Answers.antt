use Rattle.std.proofs.Common.{◌∙◌, ◌<◌, ◌^◌, [], ap, subst, refl}
use Rattle.std.specs.Prelude.{unsigned_abs}
use Rattle.std.proofs.lemmas.Result.{err_from_is_err_and}
use lib.IntN.{ℤ, pos}
use Rattle.rational.specs.Fraction.{Fraction, whole, ◌+ℚ◌}
use Rattle.rational.proofs.FieldLaws.{quotient-itself}
use Rattle.frac128.specs.Operations.{Fits}
use Rattle.frac128.specs.declared.operations.Op.TheVariants.{Add}
use Rattle.encode_rows.proofs.Passing.{passes-first}
use Rattle.encode_rows.proofs.RoundingLaws.{in_range}
use Rattle.encode_rows.proofs.rounding.successor.Goals as goal

pub returns-in_err-next : goal.returns-in_err-next
returns-in_err-next c =
    let p = err_from_is_err_and c.from_residual.result c.from_residual.ensures.1 in
    rw (p.1, p.2) (passes-first Add c.args.k.now (whole (pos 1)) _ _ _ [] refl (c.ratio.ensures ∙ quotient-itself (whole (pos 1))) c.in_err-next.ensures.0 c.in_err-next.ensures.1)

pub returns : goal.returns
returns c =
    let one = c.ratio.ensures ∙ quotient-itself (whole (pos 1)) in (
      (subst (λ (x : Fraction). Fits Add c.args.k.now x) one c.in_ok-next.ensures.0, tt),
      in_range c.in_ok-next.next (c.args.k.now +ℚ whole (pos 1)) (c.in_ok-next.ensures.1 ∙ ap (λ (x : Fraction). c.args.k.now +ℚ x) one)
          (subst (λ (z : ℤ). unsigned_abs z < 2 ^ 127) c.num.ensures.value c.num.ensures.within)
          (subst (λ (z : ℤ). unsigned_abs z < 2 ^ 127) c.den.ensures.value c.den.ensures.within),
    )
