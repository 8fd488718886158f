use Rattle.std.proofs.Common.{◌≡◌, ℤ, pos, sym, ap, ap₂, ◌∙◌, arith}
use Rattle.std.proofs.lemmas.Int.{ints, to_z-of_z}
use mir.Syntax.{w128}
use lib.IntN.{nat_abs}
use Rattle.algebra.specs.Gcd.{gcd}
use Rattle.rational.specs.Fraction.{Fraction, quotient}
use Rattle.rational.proofs.FieldLaws.{quotient-lowest}
use Rattle.frac128.proofs.Parts.{of_positive}
use Rattle.frac128.proofs.text.make_reduced.Goals as goal

pub returns-then-divisor-eq1 : goal.returns-then-divisor-eq1
returns-then-divisor-eq1 c =
    let n = c.args.num in let d = c.args.den in let p = of_positive d (omega (arith, ints)) in
    let i = to_z-of_z w128 n c.ranges.num in let j = to_z-of_z w128 d c.ranges.den in
    let g : gcd (nat_abs n) (nat_abs d) ≡ 1 = sym (ap₂ (λ (y z : ℤ). gcd (nat_abs y) (nat_abs z)) i j) ∙ sym c.divisor.ensures.value ∙ c.if-divisor-eq1.true in
    let e = c.lowest.ensures ∙ ap₂ (λ (y z : ℤ). quotient y (nat_abs z)) i j ∙ quotient-lowest n (nat_abs d) p.1 g in
    (ap (λ (x : Fraction). x.num) e, ap (λ (x : Fraction). pos x.den) e ∙ p.0)
