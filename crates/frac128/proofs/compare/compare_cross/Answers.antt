use Rattle.std.proofs.Common.{◌≡◌, ℤ, pos, ◌*ℤ◌, sym, ap, ap₂, ◌∙◌, arith}
use Rattle.std.proofs.lemmas.Int.{ints, to_z-of_z}
use mir.Syntax.{w128}
use mir.Val.{to_z}
use lib.IntN.{nat_abs}
use Rattle.std.specs.Ordering.{int_cmp}
use Rattle.frac128.proofs.Parts.{of_positive}
use Rattle.frac128.proofs.Order.{int_cmp-times}
use Rattle.frac128.proofs.compare.compare_cross.Goals as goal

pub returns-then-b-d : goal.returns-then-b-d
returns-then-b-d c =
    let a = c.args.a in let b = c.args.b in let d = c.args.d in
    let e : b ≡ d = sym (to_z-of_z w128 b c.ranges.b) ∙ ap (to_z w128) c.if-b-d.true ∙ to_z-of_z w128 d c.ranges.d in
    let p = of_positive b (omega (arith, ints)) in let q = of_positive d (omega (arith, ints)) in
    c.cmp.ensures ∙ ap₂ int_cmp (to_z-of_z w128 a c.ranges.a) (to_z-of_z w128 c.args.c c.ranges.c) ∙ int_cmp-times a c.args.c (nat_abs b) p.1
    ∙ ap₂ (λ (z w : ℤ). int_cmp (a *ℤ z) (c.args.c *ℤ w)) (p.0 ∙ e) p.0

pub returns-else-is_half : goal.returns-else-is_half
returns-else-is_half c =
    let b = c.args.b in let d = c.args.d in
    let p = of_positive b (omega (arith, ints)) in let q = of_positive d (omega (arith, ints)) in
    let eb : pos c.unsigned_abs.result ≡ b = ap pos (c.unsigned_abs.ensures.value ∙ ap nat_abs (to_z-of_z w128 b c.ranges.b)) ∙ p.0 in
    let ed : pos c.unsigned_abs-else-is_half.result ≡ d = ap pos (c.unsigned_abs-else-is_half.ensures.value ∙ ap nat_abs (to_z-of_z w128 d c.ranges.d)) ∙ q.0 in
    c.compare_wide.ensures
    ∙ ap₂ int_cmp (ap₂ (λ (z w : ℤ). z *ℤ w) (to_z-of_z w128 c.args.a c.ranges.a) ed) (ap₂ (λ (z w : ℤ). z *ℤ w) (to_z-of_z w128 c.args.c c.ranges.c) eb)
