-- The laws of the inverse and of division, and a simplex pivot: a row solved for one of its variables, and put into another.
use Rattle.std.proofs.Common.{◌≡◌, ◌≢◌, ℕ, zero, suc, ◌*◌, ◌<◌, [], ◌∷◌, refl, ap, subst, arith}
use borrow.Author.Differences.{up}
use native.Mathlib.Nat.{zero-lt-suc}
use lib.IntN.{ℤ, pos, negsuc, neg_ℤ, ◌*ℤ◌}
use Rattle.algebra.proofs.Solve.{v, k, ◌⊕◌, ◌⊖◌, ◌⊗◌, inv, solve, solve_from, done, eq}
use Rattle.algebra.proofs.IntRing.{int-ring}
use Rattle.rational.specs.Fraction.{Fraction, whole, quotient, inverse_of, inv_ℚ, ◌/ℚ◌, ◌+ℚ◌, ◌*ℚ◌, ◌-ℚ◌}
use Rattle.rational.proofs.FieldLaws.{IsQuotient, itself, quotient_is, mul_is, whole_is, same_quotient, zero_num, num_zero, fraction-ring}

-- x * (1 / x) is 1, where x is z / d and z isn't 0
times_inverse : (x : Fraction) (z : ℤ) (d : ℕ) → IsQuotient x z d → z ≢ pos 0 → x *ℚ inverse_of z d ≡ whole (pos 1)
times_inverse x (pos zero) d q n = absurd (n refl)
times_inverse x (pos (suc m)) d q n =
    same_quotient _ _ _ _ _ _ (mul_is _ _ _ _ _ _ q (quotient_is (pos d) (suc m) (zero-lt-suc m))) (whole_is (pos 1))
    (solve int-ring (v 0 ⊗ v 1 ⊗ k (pos 1)) (k (pos 1) ⊗ (v 1 ⊗ v 0)) (pos (suc m) ∷ pos d ∷ []) refl)
times_inverse x (negsuc m) d q n =
    same_quotient _ _ _ _ _ _ (mul_is _ _ _ _ _ _ q (quotient_is (neg_ℤ (pos d)) (suc m) (zero-lt-suc m))) (whole_is (pos 1))
    (solve int-ring (inv (v 0) ⊗ inv (v 1) ⊗ k (pos 1)) (k (pos 1) ⊗ (v 1 ⊗ v 0)) (pos (suc m) ∷ pos d ∷ []) refl)

-- x * (1 / x) is 1, where x isn't 0
pub mul-inv : (x : Fraction) → x ≢ whole (pos 0) → x *ℚ inv_ℚ x ≡ whole (pos 1)
unfolding inv_ℚ
mul-inv x n = times_inverse x x.num x.den (itself x) (λ e. n (zero_num x e))

-- the inverse of 0 is taken as 0
pub inv-zero : inv_ℚ (whole (pos 0)) ≡ whole (pos 0)
unfolding inv_ℚ quotient
inv-zero = refl

-- what times x is 1 is the inverse of x
pub inv_is : (x y : Fraction) → x ≢ whole (pos 0) → x *ℚ y ≡ whole (pos 1) → y ≡ inv_ℚ x
inv_is x y n e =
    solve_from fraction-ring (v 1) (v 2) (x ∷ y ∷ inv_ℚ x ∷ [])
    (eq (inv (v 1)) (v 0 ⊗ v 2) (k (pos 1)) (mul-inv x n) (eq (v 2) (v 0 ⊗ v 1) (k (pos 1)) e done)) refl

-- (x / y) * y is x, where y isn't 0
pub div-mul : (x y : Fraction) → y ≢ whole (pos 0) → (x /ℚ y) *ℚ y ≡ x
div-mul x y n = solve_from fraction-ring (v 0 ⊗ v 2 ⊗ v 1) (v 0) (x ∷ y ∷ inv_ℚ y ∷ []) (eq (v 0) (v 1 ⊗ v 2) (k (pos 1)) (mul-inv y n) done) refl

-- (x * y) / y is x, where y isn't 0
pub mul-div : (x y : Fraction) → y ≢ whole (pos 0) → (x *ℚ y) /ℚ y ≡ x
mul-div x y n = solve_from fraction-ring (v 0 ⊗ v 1 ⊗ v 2) (v 0) (x ∷ y ∷ inv_ℚ y ∷ []) (eq (v 0) (v 1 ⊗ v 2) (k (pos 1)) (mul-inv y n) done) refl

-- what times y is x is x / y, where y isn't 0
pub div_is : (x y z : Fraction) → y ≢ whole (pos 0) → z *ℚ y ≡ x → z ≡ x /ℚ y
div_is x y z n e =
    solve_from fraction-ring (v 2) (v 0 ⊗ v 3) (x ∷ y ∷ z ∷ inv_ℚ y ∷ [])
    (eq (inv (v 2)) (v 1 ⊗ v 3) (k (pos 1)) (mul-inv y n) (eq (v 3) (v 2 ⊗ v 1) (v 0) e done)) refl

-- a product is 0 only where a part is
pub mul_zero : (x y : Fraction) → x ≢ whole (pos 0) → x *ℚ y ≡ whole (pos 0) → y ≡ whole (pos 0)
mul_zero x y n e =
    solve_from fraction-ring (v 1) (k (pos 0)) (x ∷ y ∷ inv_ℚ x ∷ [])
    (eq (inv (v 1)) (v 0 ⊗ v 2) (k (pos 1)) (mul-inv x n) (eq (v 2) (v 0 ⊗ v 1) (k (pos 0)) e done)) refl

-- equal products with one factor that isn't 0 have equal other factors
pub mul_cancel : (c x y : Fraction) → c ≢ whole (pos 0) → c *ℚ x ≡ c *ℚ y → x ≡ y
mul_cancel c x y n e =
    solve_from fraction-ring (v 1) (v 2) (c ∷ x ∷ y ∷ inv_ℚ c ∷ [])
    (eq (v 2 ⊖ v 1) (v 0 ⊗ v 3) (k (pos 1)) (mul-inv c n) (eq (v 3) (v 0 ⊗ v 1) (v 0 ⊗ v 2) e done)) refl

-- a / b divided by c / d is (a * d) / (b * c), as an equation, since c may be below 0
pub div_cross : (x y : Fraction) → y ≢ whole (pos 0) → (x /ℚ y).num *ℤ (pos x.den *ℤ y.num) ≡ (x.num *ℤ pos y.den) *ℤ pos (x /ℚ y).den
div_cross x y n =
    let q = x /ℚ y in
    let P : Fraction → Type 0 = λ z. IsQuotient z (q.num *ℤ y.num) (q.den * y.den) in
    let h : P x = subst P (div-mul x y n) (mul_is _ _ _ _ _ _ (itself q) (itself y)) in
    solve_from int-ring (v 0 ⊗ (v 1 ⊗ v 2)) (v 3 ⊗ v 4 ⊗ v 5) (q.num ∷ pos x.den ∷ y.num ∷ x.num ∷ pos y.den ∷ pos q.den ∷ [])
    (eq (k (negsuc 0)) (v 3 ⊗ (v 5 ⊗ v 4)) (v 0 ⊗ v 2 ⊗ v 1) h.cross done) refl

-- z / d is `whole z` divided by `whole d`
pub quotient-div : (z : ℤ) (d : ℕ) → 0 < d → quotient z d ≡ whole z /ℚ whole (pos d)
quotient-div z d p =
    div_is (whole z) (whole (pos d)) (quotient z d) (λ e. absurd (omega (arith, ap up (num_zero _ e))))
    (same_quotient _ _ _ _ _ _ (mul_is _ _ _ _ _ _ (quotient_is z d p) (whole_is (pos d))) (whole_is z)
    (solve int-ring (v 0 ⊗ v 1 ⊗ k (pos 1)) (v 0 ⊗ (v 1 ⊗ k (pos 1))) (z ∷ pos d ∷ []) refl))

-- ---- a pivot
-- the row `r = a * e + s` solved for e, where a isn't 0: `e = r / a - s / a`
pub pivot : (r a e s : Fraction) → a ≢ whole (pos 0) → r ≡ a *ℚ e +ℚ s → e ≡ inv_ℚ a *ℚ r -ℚ inv_ℚ a *ℚ s
pivot r a e s n h =
    solve_from fraction-ring (v 2) (v 4 ⊗ v 0 ⊖ v 4 ⊗ v 3) (r ∷ a ∷ e ∷ s ∷ inv_ℚ a ∷ [])
    (eq (inv (v 4)) (v 0) (v 1 ⊗ v 2 ⊕ v 3) h (eq (inv (v 2)) (v 1 ⊗ v 4) (k (pos 1)) (mul-inv a n) done)) refl

-- the solved row put into another, `i = c * e + t`: `i = (c / a) * r + (t - (c / a) * s)`
pub replaced : (i c e t r s a : Fraction) → i ≡ c *ℚ e +ℚ t → e ≡ inv_ℚ a *ℚ r -ℚ inv_ℚ a *ℚ s → i ≡ (c *ℚ inv_ℚ a) *ℚ r +ℚ (t -ℚ (c *ℚ inv_ℚ a) *ℚ s)
replaced i c e t r s a h j =
    solve_from fraction-ring (v 0) ((v 1 ⊗ v 6) ⊗ v 4 ⊕ (v 3 ⊖ (v 1 ⊗ v 6) ⊗ v 5)) (i ∷ c ∷ e ∷ t ∷ r ∷ s ∷ inv_ℚ a ∷ [])
    (eq (k (pos 1)) (v 0) (v 1 ⊗ v 2 ⊕ v 3) h (eq (v 1) (v 2) (v 6 ⊗ v 4 ⊖ v 6 ⊗ v 5) j done)) refl
