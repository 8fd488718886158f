use Rattle.std.proofs.Common.{ℕ, ◌*◌, ◌%◌, ◌^◌, sym, ap, ◌∙◌}
use Rattle.algebra.specs.Gcd.{gcd}
use Rattle.algebra.proofs.GcdLaws.{gcd_comm, gcd-zero}
use Rattle.frac128.proofs.Stein.{turn, odd_min, ended}
use Rattle.frac128.proofs.gcd.binary_divisor.Goals as goal

pub returns-then-a-eq0 : goal.returns-then-a-eq0
returns-then-a-eq0 c = sym (gcd_comm c.args.a c.args.b ∙ gcd-zero c.args.b c.args.a c.if-a-eq0.true)

pub loop-x-preserved : goal.loop-x-preserved
loop-x-preserved c =
    let i = c.loop-x.invariant in let o = c.odd_part-x-in-loop-x.ensures in (
      o.odd,
      ap (λ (n : ℕ). n % 2) c.min-y.ensures ∙ odd_min c.loop-x.x c.loop-x.y i.0 i.1,
      ap (gcd c.odd_part-x-in-loop-x.result) c.min-y.ensures ∙ turn c.loop-x.x c.loop-x.y _ c.odd_part-x-in-loop-x.result i.0 i.1 (o.value ∙ c.abs_diff-difference.ensures) ∙ i.2,
    )

pub returns : goal.returns
returns c =
    let p = c.odd_part-x.ensures in let q = c.odd_part-y.ensures in
    ap (λ (n : ℕ). (c.loop-x.x * 2 ^ n) % 2 ^ 64) c.min.ensures
    ∙ ended c.args.a c.args.b c.odd_part-x.result c.odd_part-y.result c.loop-x.x _ _ c.requires c.ranges.b.fits p.odd q.odd p.value q.value (ap (gcd c.loop-x.x) c.loop-x-test.false ∙ c.loop-x.invariant.2)
