use Rattle.std.proofs.Common.{refl, ap, ◌∙◌, ◌<◌, ◌^◌, arith}
use Rattle.std.specs.Int.{w128}
use Rattle.std.proofs.lemmas.Int.{to_z_pos}
use Rattle.std.specs.Prelude.{ℤ}
use lib.IntN.{pos}
use Rattle.rational.specs.Fraction.{whole, quotient}
use Rattle.rational.proofs.FieldLaws.{quotient-itself}
use Rattle.plan_repeat.proofs.RollingOn.{most-is}
use Rattle.plan_repeat.proofs.growing.multiplier.Goals as goal

pub returns-then-steps : goal.returns-then-steps
returns-then-steps c =
    let m = most-is c.ratio.result c.ratio-then-steps.result _ refl (c.ratio.ensures ∙ quotient-itself (whole (pos 170141183460469231731687303715884105727))) (c.ratio-then-steps.ensures ∙ quotient-itself (whole (pos 1))) in
    let above = c.if-steps.true in
    (omega arith, m.0, m.1)

pub returns : goal.returns
returns c =
    let small : c.args.steps < 2 ^ 127 = let h = c.if-steps.false in omega arith in
    c.ratio-2.ensures ∙ ap (λ (z : ℤ). quotient z 1) (to_z_pos w128 c.args.steps small) ∙ quotient-itself (whole (pos c.args.steps))
