-- Powers of ten below the bound.
use Rattle.std.proofs.Common.{ℕ, ◌<◌, ◌≤◌, ◌^◌, arith}
use Rattle.std.proofs.Math.Nat.{pow-le-pow_right, one-le-pow}

pub power_below : (k : ℕ) → k ≤ 38 → 10 ^ k < 2 ^ 127
power_below k h = let l : 10 ^ k ≤ 10 ^ 38 = pow-le-pow_right (omega arith) h in omega arith

pub power_above : (k : ℕ) → 0 < 10 ^ k
power_above k = omega (arith, one-le-pow k 10 (omega arith))
