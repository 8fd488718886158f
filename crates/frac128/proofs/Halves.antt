-- The product of two numbers of at most 63 bits is within the bound.
use Rattle.std.proofs.Common.{◌≡◌, ℕ, ◌*◌, ◌<◌, ◌≤◌, ◌^◌, sym, ap₂, arith}
use Rattle.std.proofs.lemmas.Int.{unsigned_abs-mul, to_z-of_z}
use Rattle.std.proofs.lemmas.Nat.{mul-le}
use mir.Syntax.{w128}
use mir.Val.{SFits}
use lib.IntN.{ℤ, nat_abs, ◌*ℤ◌}
use Rattle.frac128.specs.Bounds.{IsWithin}
use Rattle.frac128.proofs.Passed.{passed, read, within_at}

product_below : (m n k : ℕ) → m < k → n < k → m * n ≤ k * k
product_below m n k p q = mul-le m n k k (omega arith) (omega arith)

pub within_halves : (a b : ℤ) → nat_abs a < 2 ^ 63 → nat_abs b < 2 ^ 63 → IsWithin (a *ℤ b)
within_halves a b p q = omega (arith, unsigned_abs-mul a b, product_below (nat_abs a) (nat_abs b) (2 ^ 63) p q)

pub halves_passed : (a b : ℤ) → SFits w128 a → SFits w128 b → nat_abs a < 2 ^ 63 → nat_abs b < 2 ^ 63 → passed (passed a *ℤ passed b) ≡ a *ℤ b
halves_passed a b f g p q =
    let e : passed a *ℤ passed b ≡ a *ℤ b = ap₂ (λ (z w : ℤ). z *ℤ w) (to_z-of_z w128 a f) (to_z-of_z w128 b g) in
    read (within_at (sym e) (within_halves a b p q)) e
