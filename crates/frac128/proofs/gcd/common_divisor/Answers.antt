use Rattle.std.proofs.Common.{sym, ap, ◌∙◌, arith}
use Rattle.algebra.specs.Gcd.{gcd}
use Rattle.algebra.proofs.Reduce.{gcd-one}
use Rattle.algebra.proofs.GcdLaws.{gcd-zero, gcd-mod}
use Rattle.frac128.proofs.gcd.common_divisor.Goals as goal

pub loop-y-preserved : goal.loop-y-preserved
loop-y-preserved c = gcd-mod c.loop-y.x c.loop-y.y (omega arith) ∙ c.loop-y.invariant

pub returns-then-y-eq1 : goal.returns-then-y-eq1
returns-then-y-eq1 c = sym (gcd-one c.loop-y.x) ∙ ap (gcd c.loop-y.x) (sym c.if-y-eq1.true) ∙ c.loop-y.invariant

pub returns-else-y-eq1 : goal.returns-else-y-eq1
returns-else-y-eq1 c = sym (gcd-zero c.loop-y.x c.loop-y.y (omega arith)) ∙ c.loop-y.invariant
