use Rattle.std.proofs.Common.{inl, inr, Option, Ok, refl, subst}
use Rattle.rational.specs.Fraction.{Fraction, ◌≤ℚ◌}
use Rattle.rational.proofs.OrderLaws.{≤ℚ_refl, ≤ℚ-same, <ℚ-weaken, ≥-from_not}
use Rattle.simplex_law.proofs.PairLaws.{fails}
use Rattle.simplex_point.specs.inside.Narrowing.{QuotientAnswers}
use Rattle.simplex_point.proofs.small.narrowed.Goals as goal

pub returns-in-None : goal.returns-in-None
returns-in-None c =
    let f : Option Fraction → Type 0 = λ o. QuotientAnswers c.args.x.now c.args.y.now (Ok o) in
    let h = subst f c.in-None.is c.in_ok-quotient.ensures in
    (≤ℚ_refl c.args.d.now, (λ n. absurd (h n)), inl refl)

pub returns-then-is_below : goal.returns-then-is_below
returns-then-is_below c =
    let f : Option Fraction → Type 0 = λ o. QuotientAnswers c.args.x.now c.args.y.now (Ok o) in
    let h = subst f c.in-Some.is c.in_ok-quotient.ensures in
    (<ℚ-weaken c.in-Some.q c.args.d.now (c.is_below.ensures.0 c.if-is_below.true), (λ n. ≤ℚ-same _ _ h.1), inr h)

pub returns-else-is_below : goal.returns-else-is_below
returns-else-is_below c =
    let f : Option Fraction → Type 0 = λ o. QuotientAnswers c.args.x.now c.args.y.now (Ok o) in
    let h = subst f c.in-Some.is c.in_ok-quotient.ensures in
    (≤ℚ_refl c.args.d.now, (λ n. subst (λ (z : Fraction). c.args.d.now ≤ℚ z) h.1 (≥-from_not c.in-Some.q c.args.d.now (fails c.is_below.result c.if-is_below.false c.is_below.ensures.1))), inl refl)
