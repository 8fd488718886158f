use Rattle.std.proofs.Common.{◌<◌, ◌≡◌, ap₂, ◌∙◌, arith}
use Rattle.std.proofs.lemmas.Int.{ints, to_z-of_z}
use mir.Syntax.{w128}
use mir.Val.{SFits}
use lib.IntN.{nat_abs}
use Rattle.algebra.specs.Gcd.{gcd}
use Rattle.algebra.proofs.GcdLaws.{gcd_pos, gcd_le}
use Rattle.frac128.proofs.gcd.divisor.Goals as goal

is : (c : goal.After-common_divisor) → c.common_divisor.result ≡ gcd (nat_abs c.args.num) (nat_abs c.args.den)
is c =
    let f : SFits w128 c.args.num = c.ranges.num in let g : SFits w128 c.args.den = c.ranges.den in
    c.common_divisor.ensures ∙ ap₂ gcd (simp to_z-of_z at c.unsigned_abs.ensures.value) (simp to_z-of_z at c.unsigned_abs-2.ensures.value)

pub returns-clause-value : goal.returns-clause-value
returns-clause-value c = is c

pub returns-clause-positive : goal.returns-clause-positive
returns-clause-positive c =
    let p : 0 < nat_abs c.args.den = omega (arith, ints) in omega (arith, is c, gcd_pos (nat_abs c.args.num) (nat_abs c.args.den) p)

pub returns-clause-bound : goal.returns-clause-bound
returns-clause-bound c =
    let p : 0 < nat_abs c.args.den = omega (arith, ints) in omega (arith, ints, is c, gcd_le (nat_abs c.args.num) (nat_abs c.args.den) p)
