-- How a product is found in lowest terms without multiplying first: each numerator is divided by what it has in common with
-- the other's denominator, and then the products of what is left have no factor in common. The numbers stay small.
use Rattle.std.proofs.Common.{◌≡◌, ℕ, ◌*◌, ◌/◌, ◌<◌, [], ◌∷◌, refl, sym, ap, ap₂, subst, ◌∙◌, arith}
use native.Mathlib.Nat.{mul-div_cancel', mul-pos}
use Rattle.std.proofs.lemmas.Int.{ints, unsigned_abs-mul}
use lib.IntN.{ℤ, pos, nat_abs, ◌*ℤ◌}
use lib.Signed.{quot_z, ◌<ℤ◌}
use Rattle.algebra.specs.Gcd.{gcd}
use Rattle.algebra.proofs.GcdLaws.{gcd_divides, crosswise, reduced}
use Rattle.algebra.proofs.Reduce.{nat_abs-quot, quot-times, quot_pos}
use Rattle.algebra.proofs.Solve.{v, ◌⊗◌, solve_from, done, eq}
use Rattle.algebra.proofs.IntRing.{int-ring}
use Rattle.rational.specs.Fraction.{Fraction, quotient, ◌*ℚ◌}
use Rattle.rational.proofs.FieldLaws.{itself, mul_is, quotient_is, same_quotient}

-- n / d is x, in lowest terms: what a reduction gives
pub record IsLowest (n d : ℤ) (x : Fraction) : Type 0 where
  pub positive : pos 0 <ℤ d
  pub coprime : gcd (nat_abs n) (nat_abs d) ≡ 1
  pub value : quotient n (nat_abs d) ≡ x

-- the same of equal numbers
pub IsLowest-at : {n n' d d' : ℤ} {x : Fraction} → n' ≡ n → d' ≡ d → IsLowest n d x → IsLowest n' d' x
IsLowest-at {n} {n'} {d} {d'} {x} e f h = let P : ℤ → Type 0 = λ m. IsLowest m d' x in let Q : ℤ → Type 0 = λ m. IsLowest n m x in subst P (sym e) (subst Q (sym f) h)

-- n / d with no factor in common
pub lowest_of : (n : ℤ) (d : ℕ) (x : Fraction) → 0 < d → gcd (nat_abs n) d ≡ 1 → quotient n d ≡ x → IsLowest n (pos d) x
lowest_of n d x p c e = record { positive = omega (arith, ints); coprime = c; value = e }

-- z / d, both divided by their greatest common divisor, is in lowest terms
pub ratio_lowest : (z : ℤ) (d : ℕ) → 0 < d → IsLowest (quot_z z (pos (gcd (nat_abs z) d))) (pos (d / gcd (nat_abs z) d)) (quotient z d)
ratio_lowest z d h =
    let g = gcd (nat_abs z) d in let n = quot_z z (pos g) in let q = gcd_divides (nat_abs z) d in
    let p : 0 < d / g = quot_pos d g h q.right in
    lowest_of _ _ _ p
    (ap (λ (m : ℕ). gcd m (d / g)) (nat_abs-quot z g) ∙ reduced (nat_abs z) d h)
    (same_quotient _ _ _ _ _ _ (quotient_is n (d / g) p) (quotient_is z d h) (
    solve_from int-ring (v 0 ⊗ v 1) (v 2 ⊗ v 3) (n ∷ pos d ∷ z ∷ pos (d / g) ∷ pos g ∷ [])
    (eq (v 0) (v 1) (v 4 ⊗ v 3) (ap pos (sym (mul-div_cancel' g q.right))) (eq (v 3) (v 0 ⊗ v 4) (v 2) (quot-times z g q.left) done)) refl))

-- the product by crosswise division is in lowest terms
pub mul_lowest : (x y : Fraction) → IsLowest (quot_z x.num (pos (gcd (nat_abs x.num) y.den)) *ℤ quot_z y.num (pos (gcd (nat_abs y.num) x.den))) (pos (x.den / gcd (nat_abs y.num) x.den) *ℤ pos (y.den / gcd (nat_abs x.num) y.den)) (x *ℚ y)
mul_lowest x y =
    let g = gcd (nat_abs x.num) y.den in let h = gcd (nat_abs y.num) x.den in
    let a = quot_z x.num (pos g) in let c = quot_z y.num (pos h) in let b = x.den / h in let d = y.den / g in
    let G = gcd_divides (nat_abs x.num) y.den in let H = gcd_divides (nat_abs y.num) x.den in
    let p : 0 < b * d = mul-pos (quot_pos x.den h x.positive H.right) (quot_pos y.den g y.positive G.right) in
    lowest_of _ _ _ p
    (ap (λ (m : ℕ). gcd m (b * d)) (unsigned_abs-mul a c ∙ ap₂ (λ (m n : ℕ). m * n) (nat_abs-quot x.num g) (nat_abs-quot y.num h)) ∙ crosswise _ _ _ _ x.positive y.positive x.coprime y.coprime)
    (same_quotient _ _ _ _ _ _ (quotient_is (a *ℤ c) (b * d) p) (mul_is _ _ _ _ _ _ (itself x) (itself y)) (
    solve_from int-ring (v 0 ⊗ v 1 ⊗ (v 6 ⊗ v 7)) (v 2 ⊗ v 3 ⊗ (v 4 ⊗ v 5)) (a ∷ c ∷ x.num ∷ y.num ∷ pos b ∷ pos d ∷ pos x.den ∷ pos y.den ∷ pos g ∷ pos h ∷ [])
    (eq (v 0 ⊗ v 1 ⊗ v 7) (v 6) (v 9 ⊗ v 4) (ap pos (sym (mul-div_cancel' h H.right)))
    (eq (v 0 ⊗ v 1 ⊗ v 9 ⊗ v 4) (v 7) (v 8 ⊗ v 5) (ap pos (sym (mul-div_cancel' g G.right)))
    (eq (v 1 ⊗ v 9 ⊗ v 4 ⊗ v 5) (v 0 ⊗ v 8) (v 2) (quot-times x.num g G.left)
    (eq (v 2 ⊗ v 4 ⊗ v 5) (v 1 ⊗ v 9) (v 3) (quot-times y.num h H.left) done)))) refl))
