-- How a sum is found in lowest terms with small numbers: it is written over the least common denominator, and then only
-- what its numerator has in common with the greatest common divisor of the two denominators is left to divide by.
use Rattle.std.proofs.Common.{◌≡◌, ℕ, ◌+◌, ◌*◌, ◌/◌, ◌<◌, ◌⊎◌, inl, inr, [], ◌∷◌, refl, sym, ap, subst, ◌∙◌, arith}
use Prim.Native.Nat.{◌∣◌}
use native.Mathlib.Nat.{mul-div_cancel', mul-pos, dvd-add_iff_right, dvd-add, dvd_trans, dvd-mul_left, dvd_refl, eq_of_mul-eq-mul_left, one-dvd}
use Rattle.std.proofs.lemmas.Int.{unsigned_abs-mul}
use lib.IntN.{ℤ, pos, nat_abs, ◌+ℤ◌, ◌*ℤ◌, +ℤ_comm}
use lib.Signed.{quot_z}
use borrow.Author.Differences.{abs_is, sum_is_lem}
use Rattle.algebra.specs.Gcd.{gcd}
use Rattle.algebra.proofs.GcdLaws.{Divides-IsGcd, gcd_divides, gcd_pos, gcd_is, gcd_below, gcd_comm, gcd-times, div_dvd, reduced}
use Rattle.algebra.proofs.Reduce.{nat_abs-quot, quot-times, quot_pos}
use Rattle.algebra.proofs.Solve.{v, ◌⊕◌, ◌⊗◌, inv, solve_from, done, eq}
use Rattle.algebra.proofs.IntRing.{int-ring}
use Rattle.rational.specs.Fraction.{Fraction, ◌+ℚ◌}
use Rattle.rational.proofs.FieldLaws.{itself, add_is, quotient_is, same_quotient}
use Rattle.rational.proofs.MulLaws.{IsLowest, lowest_of}

-- the absolute value of a sum is the sum or the difference of the absolute values
abs-sum : (u w : ℤ) → (nat_abs (u +ℤ w) ≡ nat_abs u + nat_abs w) ⊎ ((nat_abs u ≡ nat_abs (u +ℤ w) + nat_abs w) ⊎ (nat_abs w ≡ nat_abs (u +ℤ w) + nat_abs u))
abs-sum u w = grind (arith, abs_is u, abs_is w, abs_is (u +ℤ w), sum_is_lem u w)

-- what divides a sum and one part divides the other
dvd_other : (n : ℕ) (u w : ℤ) → n ∣ nat_abs (u +ℤ w) → n ∣ nat_abs w → n ∣ nat_abs u
dvd_other n u w h j = by_case (abs-sum u w)
  where
    by_case : (nat_abs (u +ℤ w) ≡ nat_abs u + nat_abs w) ⊎ ((nat_abs u ≡ nat_abs (u +ℤ w) + nat_abs w) ⊎ (nat_abs w ≡ nat_abs (u +ℤ w) + nat_abs u)) → n ∣ nat_abs u
    by_case (inl e) = let f : nat_abs (u +ℤ w) ≡ nat_abs w + nat_abs u = omega arith in (dvd-add_iff_right n j).1 (subst (λ m. n ∣ m) f h)
    by_case (inr (inl e)) = subst (λ m. n ∣ m) (sym e) (dvd-add n h j)
    by_case (inr (inr e)) = (dvd-add_iff_right n h).1 (subst (λ m. n ∣ m) e j)

-- a sum has no factor in common with b where one part is a multiple of b and the other has none
coprime_sum : (u w : ℤ) (b : ℕ) → gcd (nat_abs u) b ≡ 1 → b ∣ nat_abs w → gcd (nat_abs (u +ℤ w)) b ≡ 1
coprime_sum u w b e h = gcd_is _ _ 1 (
  one-dvd _,
  one-dvd b,
  λ d x y.
      subst (λ m. d ∣ m) e ((Divides-IsGcd _ _ _ (gcd_divides (nat_abs u) b)).2 d (dvd_other d u w x (dvd_trans d y h)) y),
)

-- the least common denominator's parts: D / h is (D / g) * (g / h)
div_parts : (D g h : ℕ) → 0 < h → g ∣ D → h ∣ g → D / h ≡ (D / g) * (g / h)
div_parts D g h p q r =
    let e1 = mul-div_cancel' g q in let e2 = mul-div_cancel' h r in let e3 = mul-div_cancel' h (dvd_trans h r q) in
    eq_of_mul-eq-mul_left h p _ _ (e3 ∙ sym e1 ∙ ap (λ (m : ℕ). m * (D / g)) (sym e2) ∙ omega arith)

-- the numerator of the sum has no factor in common with the part b of its own denominator
coprime_part : (z w : ℤ) (b d : ℕ) → gcd (nat_abs z) b ≡ 1 → gcd b d ≡ 1 → gcd (nat_abs (z *ℤ pos d +ℤ w *ℤ pos b)) b ≡ 1
coprime_part z w b d p q =
    coprime_sum (z *ℤ pos d) (w *ℤ pos b) b
    (ap (λ (m : ℕ). gcd m b) (unsigned_abs-mul z (pos d)) ∙ gcd_comm (nat_abs z * d) b ∙ gcd-times b (nat_abs z) d (gcd_comm b (nat_abs z) ∙ p) q)
    (subst (λ m. b ∣ m) (sym (unsigned_abs-mul w (pos b))) (dvd-mul_left b (nat_abs w)))

-- ---- the numbers of that sum
-- what the denominators have in common
abbrev pub common : Fraction → Fraction → ℕ
common x y = gcd x.den y.den

-- the numerator over the least common denominator
abbrev pub total : Fraction → Fraction → ℤ
total x y = x.num *ℤ pos (y.den / common x y) +ℤ y.num *ℤ pos (x.den / common x y)

-- what is left to divide by
abbrev pub rest : Fraction → Fraction → ℕ
rest x y = gcd (nat_abs (total x y)) (common x y)

-- the sum, divided so, is in lowest terms
pub add_lowest : (x y : Fraction) → IsLowest (quot_z (total x y) (pos (rest x y))) (pos (x.den / common x y) *ℤ pos (y.den / rest x y)) (x +ℚ y)
add_lowest x y =
    let g = common x y in let b = x.den / g in let d = y.den / g in let t = total x y in let h = rest x y in
    let G = gcd_divides x.den y.den in let H = gcd_divides (nat_abs t) g in
    let gp : 0 < g = gcd_pos x.den y.den y.positive in let hp : 0 < h = gcd_pos (nat_abs t) g gp in
    let bd : gcd b d ≡ 1 = reduced x.den y.den y.positive in
    let tb : gcd (nat_abs t) b ≡ 1 = coprime_part x.num y.num b d (gcd_below _ _ _ _ x.coprime (dvd_refl _) (div_dvd x.den g G.left)) bd in
    let td : gcd (nat_abs t) d ≡ 1 = ap (λ (z : ℤ). gcd (nat_abs z) d) (+ℤ_comm (x.num *ℤ pos d) (y.num *ℤ pos b))
    ∙ coprime_part y.num x.num d b (gcd_below _ _ _ _ y.coprime (dvd_refl _) (div_dvd y.den g G.right)) (gcd_comm d b ∙ bd) in
    let n = nat_abs t / h in let nt = div_dvd (nat_abs t) h H.left in
    let e : y.den / h ≡ d * (g / h) = div_parts y.den g h hp G.right H.right in
    let c : gcd n (b * (y.den / h)) ≡ 1 = ap (λ (m : ℕ). gcd n (b * m)) e ∙ gcd-times n b (d * (g / h)) (gcd_below _ _ _ _ tb nt (dvd_refl b))
    (gcd-times n d (g / h) (gcd_below _ _ _ _ td nt (dvd_refl d)) (reduced (nat_abs t) g gp)) in
    let p : 0 < b * (y.den / h) = mul-pos (quot_pos x.den g x.positive G.left) (quot_pos y.den h y.positive (dvd_trans h H.right G.right)) in
    lowest_of _ _ _ p (ap (λ (m : ℕ). gcd m (b * (y.den / h))) (nat_abs-quot t h) ∙ c)
    (same_quotient _ _ _ _ _ _ (quotient_is (quot_z t (pos h)) (b * (y.den / h)) p) (add_is _ _ _ _ _ _ (itself x) (itself y))
    (solve_from int-ring (v 0 ⊗ (v 1 ⊗ v 2)) ((v 3 ⊗ v 2 ⊕ v 4 ⊗ v 1) ⊗ (v 5 ⊗ v 6))
    (quot_z t (pos h) ∷ pos x.den ∷ pos y.den ∷ x.num ∷ y.num ∷ pos b ∷ pos (y.den / h) ∷ pos h ∷ pos g ∷ pos d ∷ [])
    (eq (v 0 ⊗ v 1) (v 2) (v 7 ⊗ v 6) (ap pos (sym (mul-div_cancel' h (dvd_trans h H.right G.right))))
    (eq (v 1 ⊗ v 6) (v 0 ⊗ v 7) (v 3 ⊗ v 9 ⊕ v 4 ⊗ v 5) (quot-times t h H.left)
    (eq (v 3 ⊗ v 6 ⊗ v 9) (v 1) (v 8 ⊗ v 5) (ap pos (sym (mul-div_cancel' g G.left)))
    (eq (inv (v 3 ⊗ v 6 ⊗ v 5)) (v 2) (v 8 ⊗ v 9) (ap pos (sym (mul-div_cancel' g G.right))) done)))) refl))
