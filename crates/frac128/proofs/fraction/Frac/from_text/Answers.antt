use Rattle.std.proofs.Common.{inl, refl, arith}
use Rattle.std.proofs.lemmas.Bool.{false≢true}
use Rattle.frac128.proofs.Named.{divisor_passed}
use Rattle.frac128.proofs.Passed.{read}
use Rattle.frac128.proofs.Reading.{reads_made, no_form}
use Rattle.frac128.proofs.fraction.Frac.from_text.Goals as goal
use Rattle.frac128.proofs.fraction.Frac.from_text.Goals.{then-not-is_numerator-via-then-not-is_numerator, then-not-is_numerator-via-else-not-is_numerator+then-not-is_denominator}

pub returns-then-not-is_numerator : goal.returns-then-not-is_numerator
returns-then-not-is_numerator c =
    elim c.then-not-is_numerator.branch [
      | then-not-is_numerator-via-then-not-is_numerator w ↦ inl (no_form _ c.in-Some.ensures (λ p q. absurd (false≢true (w.if-not-is_numerator.ensures.1 p))))
      | then-not-is_numerator-via-else-not-is_numerator+then-not-is_denominator w ↦ inl (no_form _ c.in-Some.ensures (λ p q. absurd (false≢true (w.if-not-is_denominator.ensures.1 q))))
    ]

pub returns : goal.returns
returns c =
    let v = c.in-Some-number.ensures in let w = c.in-Some-number_behind.ensures in
    reads_made _ c.make_reduced.result c.in-Some.ensures (c.if-not-is_numerator.ensures.0 refl) (c.if-not-is_denominator.ensures.0 refl) v w (read c.signed.ensures.within c.signed.ensures.value) (divisor_passed c.in-Some-number_behind.den (omega (arith, w.0, w.1))) c.make_reduced.ensures
