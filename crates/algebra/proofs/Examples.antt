-- The greatest common divisor of small numbers, and the normaliser's forms over ℤ.
use Rattle.std.proofs.Common.{◌≡◌, [], ◌∷◌, refl}
use lib.IntN.{ℤ, pos, ◌+ℤ◌, ◌*ℤ◌, ◌-ℤ◌}
use lib.Signed.{◌≤ℤ◌, ◌<ℤ◌}
use Rattle.algebra.specs.Gcd.{gcd, gcd_in}
use Rattle.algebra.proofs.Solve.{v, k, ◌⊕◌, ◌⊖◌, ◌⊗◌, solve, solve_from, eq, bound_from, strict_from, le, lt, done}
use Rattle.algebra.proofs.IntRing.{int-ring, int-order}

-- gcd 12 18 is 6, no factor is common to 8 and 15, and 0 divides nothing but 0
small : (gcd 12 18 ≡ 6) × (gcd 8 15 ≡ 1) × (gcd 0 5 ≡ 5) × (gcd 5 0 ≡ 5) × (gcd 0 0 ≡ 0)
unfolding gcd gcd_in
small = (refl, refl, refl, refl, refl)

-- an identity: (a + b) * (a - b) is a * a - b * b
identity : (a b : ℤ) → (a +ℤ b) *ℤ (a -ℤ b) ≡ a *ℤ a -ℤ b *ℤ b
identity a b = solve int-ring ((v 0 ⊕ v 1) ⊗ (v 0 ⊖ v 1)) (v 0 ⊗ v 0 ⊖ v 1 ⊗ v 1) (a ∷ b ∷ []) refl

-- an equation from another: a * d is c * b where a is c * e and b is e * d. It is d times the first, less c times the second
equation : (a b c d e : ℤ) → a ≡ c *ℤ e → b ≡ e *ℤ d → a *ℤ d ≡ c *ℤ b
equation a b c d e h j =
    solve_from int-ring (v 0 ⊗ v 3) (v 2 ⊗ v 1) (a ∷ b ∷ c ∷ d ∷ e ∷ [])
    (eq (v 3) (v 0) (v 2 ⊗ v 4) h (eq (k (pos 0) ⊖ v 2) (v 1) (v 4 ⊗ v 3) j done)) refl

-- an inequality: 3 * a ≤ 3 * b + 6 where a ≤ b + 2. It is the first, three times
inequality : (a b : ℤ) → a ≤ℤ (b +ℤ pos 2) → (pos 3 *ℤ a) ≤ℤ (pos 3 *ℤ b +ℤ pos 6)
inequality a b h =
    bound_from int-order (k (pos 3) ⊗ v 0) (k (pos 3) ⊗ v 1 ⊕ k (pos 6)) (a ∷ b ∷ [])
    (le (k (pos 3)) (v 0) (v 1 ⊕ k (pos 2)) tt h done) refl

-- a strict one: a < b and b ≤ c give 2 * a < 2 * c
strict : (a b c : ℤ) → a <ℤ b → b ≤ℤ c → (pos 2 *ℤ a) <ℤ (pos 2 *ℤ c)
strict a b c h j =
    strict_from int-order (k (pos 2) ⊗ v 0) (k (pos 2) ⊗ v 2) (a ∷ b ∷ c ∷ [])
    (lt (k (pos 2)) (v 0) (v 1) tt h (le (k (pos 2)) (v 1) (v 2) tt j done)) tt refl
