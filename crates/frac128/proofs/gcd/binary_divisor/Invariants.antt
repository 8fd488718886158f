use Rattle.std.proofs.Common.{◌≡◌, ◌+◌, ◌%◌}
use Rattle.algebra.specs.Gcd.{gcd}
use Rattle.frac128.proofs.gcd.binary_divisor.Given as goal

abbrev pub invariant-loop-x : goal.invariant-loop-x
invariant-loop-x l = (l.x % 2 ≡ 1) × (l.y % 2 ≡ 1) × (gcd l.x l.y ≡ gcd l.initial.x l.initial.y)

abbrev pub decreases-loop-x : goal.decreases-loop-x
decreases-loop-x l = l.x + l.y
