-- The laws of + and * of the fractions. Each is one call of `same_quotient` (two quotients with equal cross products are one
-- fraction) over an identity of ℤ, which `solve` proves. At the end stands `fraction-ring`, by which `solve` then works
-- over fractions too.
use Rattle.std.proofs.Common.{◌≡◌, ◌↔◌, ℕ, zero, suc, ◌*◌, ◌/◌, ◌<◌, [], ◌∷◌, refl, sym, ap, subst, ◌∙◌, arith}
use native.Mathlib.Nat.{ℕ_set, mul-pos, eq_of_mul-eq-mul_right}
use native.Mathlib.Bridge.{le_prop}
use Rattle.std.proofs.lemmas.Int.{unsigned_abs-mul}
use lib.IntN.{ℤ, ℤ_set, pos, neg_ℤ, nat_abs, ◌+ℤ◌, ◌*ℤ◌, ◌-ℤ◌, zero-*ℤ}
use lib.Signed.{quot_z}
use borrow.Author.Differences.{same_in, up, down, product_is as int_product_is}
use Rattle.algebra.specs.Gcd.{gcd}
use Rattle.algebra.proofs.GcdLaws.{same_den}
use Rattle.algebra.proofs.Reduce.{shrink_den, shrink_num}
use Rattle.algebra.proofs.Solve.{CommutativeRing, v, k, ◌⊕◌, ◌⊖◌, ◌⊗◌, inv, solve, done, eq, solve_from}
use Rattle.algebra.proofs.IntRing.{int-ring}
pub use Rattle.rational.specs.Fraction.{IsQuotient}
use Rattle.rational.specs.Fraction.{Fraction, quotient, whole, ◌+ℚ◌, ◌*ℚ◌, neg_ℚ, ◌-ℚ◌}

-- ---- equality by parts
-- the fraction of numbers in lowest terms
abbrev pub made : (z : ℤ) (d : ℕ) → 0 < d → gcd (nat_abs z) d ≡ 1 → Fraction
made z d p r = record { num = z; den = d; positive = p; coprime = r }

same_den_parts : (z : ℤ) (d d' : ℕ) (p : 0 < d) (r : gcd (nat_abs z) d ≡ 1) → d ≡ d' → (q : 0 < d') (s : gcd (nat_abs z) d' ≡ 1) → made z d p r ≡ made z d' q s
same_den_parts z d d' p r e = let P : ℕ → Type 0 = λ n. (q : 0 < n) (s : gcd (nat_abs z) n ≡ 1) → made z d p r ≡ made z n q s in
    subst P e (λ q s. ap (λ (x : 0 < d). made z d x r) (le_prop p q) ∙ ap (made z d q) (ℕ_set _ _ r s))

same_made : (z z' : ℤ) (d d' : ℕ) (p : 0 < d) (r : gcd (nat_abs z) d ≡ 1) → z ≡ z' → d ≡ d' → (q : 0 < d') (s : gcd (nat_abs z') d' ≡ 1) → made z d p r ≡ made z' d' q s
same_made z z' d d' p r f e = let P : ℤ → Type 0 = λ y. (q : 0 < d') (s : gcd (nat_abs y) d' ≡ 1) → made z d p r ≡ made y d' q s in
    subst P f (same_den_parts z d d' p r e)

-- two fractions with one numerator and one denominator are equal
pub same_parts : (x y : Fraction) → x.num ≡ y.num → x.den ≡ y.den → x ≡ y
same_parts x y f e = same_made x.num y.num x.den y.den x.positive x.coprime f e y.positive y.coprime

-- ---- a factor above 0 cancels
-- equal products with one factor above 0 have equal other factors
pub cancel_z : (a b : ℤ) (n : ℕ) → 0 < n → a *ℤ pos n ≡ b *ℤ pos n → a ≡ b
cancel_z a b n h e =
    let pa = int_product_is a (pos n) in let pb = int_product_is b (pos n) in
    let u : up a * n ≡ up b * n = omega (arith, pa, pb, ap up e) in let d : down a * n ≡ down b * n = omega (arith, pa, pb, ap down e) in
    same_in a b (omega (arith, eq_of_mul-eq-mul_right n h _ _ u, eq_of_mul-eq-mul_right n h _ _ d))

-- two proofs that fractions are equal are one, so a ghost field may hold such an equation
pub Fraction_set : IsSet Fraction
Fraction_set = hlevel (ℤ_set, ℕ_set, le_prop)

-- ---- equality is that of the cross products
-- fractions with equal cross products are equal
pub same_cross : (x y : Fraction) → x.num *ℤ pos y.den ≡ y.num *ℤ pos x.den → x ≡ y
same_cross x y e =
    let c : nat_abs x.num * y.den ≡ nat_abs y.num * x.den =
    sym (unsigned_abs-mul x.num (pos y.den)) ∙ ap nat_abs e ∙ unsigned_abs-mul y.num (pos x.den) in
    let d : x.den ≡ y.den = same_den _ _ _ _ x.coprime y.coprime c in
    same_parts x y (cancel_z x.num y.num x.den x.positive (ap (λ (n : ℕ). x.num *ℤ pos n) d ∙ e)) d

-- equal fractions have equal cross products
pub cross_same : (x y : Fraction) → x ≡ y → x.num *ℤ pos y.den ≡ y.num *ℤ pos x.den
cross_same x y e = let P : Fraction → Type 0 = λ z. x.num *ℤ pos z.den ≡ z.num *ℤ pos x.den in subst P e refl

-- two fractions are equal exactly where their cross products are
pub same_iff_cross : (x y : Fraction) → (x ≡ y) ↔ (x.num *ℤ pos y.den ≡ y.num *ℤ pos x.den)
same_iff_cross x y = (cross_same x y, same_cross x y)

-- ---- x is a / b, whatever the terms
-- each fraction is num / den
pub itself : (x : Fraction) → IsQuotient x x.num x.den
itself x = record { below = x.positive; cross = refl }

-- `quotient a b` is a / b
pub quotient_is : (a : ℤ) (b : ℕ) → 0 < b → IsQuotient (quotient a b) a b
unfolding quotient
quotient_is a zero h = absurd (omega arith)
quotient_is a (suc d) h = record {
  below = h;
  cross =
      let g = gcd (nat_abs a) (suc d) in let m = suc d / gcd (nat_abs a) (suc d) in
      solve_from int-ring (v 0 ⊗ v 1) (v 2 ⊗ v 3) (quot_z a (pos g) ∷ pos (suc d) ∷ a ∷ pos m ∷ pos g ∷ [])
      (eq (v 0) (v 1) (v 4 ⊗ v 3) (ap pos (sym (shrink_den (nat_abs a) d))) (eq (v 3) (v 0 ⊗ v 4) (v 2) (shrink_num a d) done)) refl;
}

-- a / b and c / d are equal where a * d is c * b
pub same_quotient : (x y : Fraction) (a c : ℤ) (b d : ℕ) → IsQuotient x a b → IsQuotient y c d → a *ℤ pos d ≡ c *ℤ pos b → x ≡ y
same_quotient x y a c b d p q e = same_cross x y (cancel_z _ _ (b * d) (mul-pos p.below q.below) (
    solve_from int-ring (v 0 ⊗ v 3 ⊗ (v 4 ⊗ v 5)) (v 2 ⊗ v 1 ⊗ (v 4 ⊗ v 5)) (x.num ∷ pos x.den ∷ y.num ∷ pos y.den ∷ pos b ∷ pos d ∷ a ∷ c ∷ [])
    (eq (v 3 ⊗ v 5) (v 0 ⊗ v 4) (v 6 ⊗ v 1) p.cross (eq (v 1 ⊗ v 3) (v 6 ⊗ v 5) (v 7 ⊗ v 4) e (eq (inv (v 1 ⊗ v 4)) (v 2 ⊗ v 5) (v 7 ⊗ v 3) q.cross done))) refl))

-- what is a / b is `quotient a b`
pub is_quotient : (x : Fraction) (a : ℤ) (b : ℕ) → IsQuotient x a b → x ≡ quotient a b
is_quotient x a b h = same_quotient x (quotient a b) a a b b h (quotient_is a b h.below) refl

-- ---- the operations, on any numbers that stand for the fractions
-- a / b + c / d is (a * d + c * b) / (b * d)
pub add_is : (x y : Fraction) (a c : ℤ) (b d : ℕ) → IsQuotient x a b → IsQuotient y c d → IsQuotient (x +ℚ y) (a *ℤ pos d +ℤ c *ℤ pos b) (b * d)
unfolding ◌+ℚ◌
add_is x y a c b d p q =
    let n : ℤ = x.num *ℤ pos y.den +ℤ y.num *ℤ pos x.den in let m = x.den * y.den in let f = quotient_is n m (mul-pos x.positive y.positive) in
    record {
      below = mul-pos p.below q.below;
      cross = cancel_z _ _ m f.below (
          solve_from int-ring (v 4 ⊗ (v 6 ⊗ v 7) ⊗ (v 1 ⊗ v 3)) ((v 8 ⊗ v 7 ⊕ v 9 ⊗ v 6) ⊗ v 5 ⊗ (v 1 ⊗ v 3))
          (x.num ∷ pos x.den ∷ y.num ∷ pos y.den ∷ (quotient n m).num ∷ pos (quotient n m).den ∷ pos b ∷ pos d ∷ a ∷ c ∷ [])
          (eq (v 6 ⊗ v 7) (v 4 ⊗ (v 1 ⊗ v 3)) ((v 0 ⊗ v 3 ⊕ v 2 ⊗ v 1) ⊗ v 5) f.cross
          (eq (v 3 ⊗ v 7 ⊗ v 5) (v 0 ⊗ v 6) (v 8 ⊗ v 1) p.cross (eq (v 1 ⊗ v 6 ⊗ v 5) (v 2 ⊗ v 7) (v 9 ⊗ v 3) q.cross done))) refl);
    }

-- a / b times c / d is (a * c) / (b * d)
pub mul_is : (x y : Fraction) (a c : ℤ) (b d : ℕ) → IsQuotient x a b → IsQuotient y c d → IsQuotient (x *ℚ y) (a *ℤ c) (b * d)
unfolding ◌*ℚ◌
mul_is x y a c b d p q =
    let n : ℤ = x.num *ℤ y.num in let m = x.den * y.den in let f = quotient_is n m (mul-pos x.positive y.positive) in
    record {
      below = mul-pos p.below q.below;
      cross = cancel_z _ _ m f.below (
          solve_from int-ring (v 4 ⊗ (v 6 ⊗ v 7) ⊗ (v 1 ⊗ v 3)) ((v 8 ⊗ v 9) ⊗ v 5 ⊗ (v 1 ⊗ v 3))
          (x.num ∷ pos x.den ∷ y.num ∷ pos y.den ∷ (quotient n m).num ∷ pos (quotient n m).den ∷ pos b ∷ pos d ∷ a ∷ c ∷ [])
          (eq (v 6 ⊗ v 7) (v 4 ⊗ (v 1 ⊗ v 3)) ((v 0 ⊗ v 2) ⊗ v 5) f.cross
          (eq (v 2 ⊗ v 7 ⊗ v 5) (v 0 ⊗ v 6) (v 8 ⊗ v 1) p.cross (eq (v 8 ⊗ v 1 ⊗ v 5) (v 2 ⊗ v 7) (v 9 ⊗ v 3) q.cross done))) refl);
    }

-- -(a / b) is (-a) / b
pub neg_is : (x : Fraction) (a : ℤ) (b : ℕ) → IsQuotient x a b → IsQuotient (neg_ℚ x) (neg_ℤ a) b
unfolding neg_ℚ
neg_is x a b p =
    let f = quotient_is (neg_ℤ x.num) x.den x.positive in
    record {
      below = p.below;
      cross = cancel_z _ _ x.den x.positive (
          solve_from int-ring (v 2 ⊗ v 4 ⊗ v 1) (inv (v 5) ⊗ v 3 ⊗ v 1)
          (x.num ∷ pos x.den ∷ (quotient (neg_ℤ x.num) x.den).num ∷ pos (quotient (neg_ℤ x.num) x.den).den ∷ pos b ∷ a ∷ [])
          (eq (v 4) (v 2 ⊗ v 1) (inv (v 0) ⊗ v 3) f.cross (eq (inv (v 3)) (v 0 ⊗ v 4) (v 5 ⊗ v 1) p.cross done)) refl);
    }

-- a whole number z is z / 1
pub whole_is : (z : ℤ) → IsQuotient (whole z) z 1
whole_is z = itself (whole z)

-- ---- the laws of a commutative ring
-- (x + y) + z is x + (y + z)
pub add_assoc_q : (x y z : Fraction) → (x +ℚ y) +ℚ z ≡ x +ℚ (y +ℚ z)
add_assoc_q x y z = same_quotient _ _ _ _ _ _ (add_is _ _ _ _ _ _ (add_is _ _ _ _ _ _ (itself x) (itself y)) (itself z)) (add_is _ _ _ _ _ _ (itself x) (add_is _ _ _ _ _ _ (itself y) (itself z)))
    (solve int-ring (((v 0 ⊗ v 3 ⊕ v 2 ⊗ v 1) ⊗ v 5 ⊕ v 4 ⊗ (v 1 ⊗ v 3)) ⊗ (v 1 ⊗ (v 3 ⊗ v 5))) ((v 0 ⊗ (v 3 ⊗ v 5) ⊕ (v 2 ⊗ v 5 ⊕ v 4 ⊗ v 3) ⊗ v 1) ⊗ ((v 1 ⊗ v 3) ⊗ v 5))
    (x.num ∷ pos x.den ∷ y.num ∷ pos y.den ∷ z.num ∷ pos z.den ∷ []) refl)

-- x + y is y + x
pub add_comm_q : (x y : Fraction) → x +ℚ y ≡ y +ℚ x
add_comm_q x y = same_quotient _ _ _ _ _ _ (add_is _ _ _ _ _ _ (itself x) (itself y)) (add_is _ _ _ _ _ _ (itself y) (itself x))
    (solve int-ring ((v 0 ⊗ v 3 ⊕ v 2 ⊗ v 1) ⊗ (v 3 ⊗ v 1)) ((v 2 ⊗ v 1 ⊕ v 0 ⊗ v 3) ⊗ (v 1 ⊗ v 3)) (x.num ∷ pos x.den ∷ y.num ∷ pos y.den ∷ []) refl)

-- 0 + x is x
pub zero-add_q : (x : Fraction) → whole (pos 0) +ℚ x ≡ x
zero-add_q x = same_quotient _ _ _ _ _ _ (add_is _ _ _ _ _ _ (whole_is (pos 0)) (itself x)) (itself x)
    (solve int-ring ((k (pos 0) ⊗ v 1 ⊕ v 0 ⊗ k (pos 1)) ⊗ v 1) (v 0 ⊗ (k (pos 1) ⊗ v 1)) (x.num ∷ pos x.den ∷ []) refl)

-- x + -x is 0
pub add-neg_q : (x : Fraction) → x +ℚ neg_ℚ x ≡ whole (pos 0)
add-neg_q x = same_quotient _ _ _ _ _ _ (add_is _ _ _ _ _ _ (itself x) (neg_is _ _ _ (itself x))) (whole_is (pos 0))
    (solve int-ring ((v 0 ⊗ v 1 ⊕ inv (v 0) ⊗ v 1) ⊗ k (pos 1)) (k (pos 0) ⊗ (v 1 ⊗ v 1)) (x.num ∷ pos x.den ∷ []) refl)

-- (x * y) * z is x * (y * z)
pub mul_assoc_q : (x y z : Fraction) → (x *ℚ y) *ℚ z ≡ x *ℚ (y *ℚ z)
mul_assoc_q x y z = same_quotient _ _ _ _ _ _ (mul_is _ _ _ _ _ _ (mul_is _ _ _ _ _ _ (itself x) (itself y)) (itself z)) (mul_is _ _ _ _ _ _ (itself x) (mul_is _ _ _ _ _ _ (itself y) (itself z)))
    (solve int-ring ((v 0 ⊗ v 2) ⊗ v 4 ⊗ (v 1 ⊗ (v 3 ⊗ v 5))) (v 0 ⊗ (v 2 ⊗ v 4) ⊗ ((v 1 ⊗ v 3) ⊗ v 5)) (x.num ∷ pos x.den ∷ y.num ∷ pos y.den ∷ z.num ∷ pos z.den ∷ []) refl)

-- x * y is y * x
pub mul_comm_q : (x y : Fraction) → x *ℚ y ≡ y *ℚ x
mul_comm_q x y = same_quotient _ _ _ _ _ _ (mul_is _ _ _ _ _ _ (itself x) (itself y)) (mul_is _ _ _ _ _ _ (itself y) (itself x))
    (solve int-ring ((v 0 ⊗ v 2) ⊗ (v 3 ⊗ v 1)) ((v 2 ⊗ v 0) ⊗ (v 1 ⊗ v 3)) (x.num ∷ pos x.den ∷ y.num ∷ pos y.den ∷ []) refl)

-- 1 * x is x
pub one-mul_q : (x : Fraction) → whole (pos 1) *ℚ x ≡ x
one-mul_q x = same_quotient _ _ _ _ _ _ (mul_is _ _ _ _ _ _ (whole_is (pos 1)) (itself x)) (itself x)
    (solve int-ring ((k (pos 1) ⊗ v 0) ⊗ v 1) (v 0 ⊗ (k (pos 1) ⊗ v 1)) (x.num ∷ pos x.den ∷ []) refl)

-- (x + y) * z is x * z + y * z
pub add-mul_q : (x y z : Fraction) → (x +ℚ y) *ℚ z ≡ x *ℚ z +ℚ y *ℚ z
add-mul_q x y z = same_quotient _ _ _ _ _ _ (mul_is _ _ _ _ _ _ (add_is _ _ _ _ _ _ (itself x) (itself y)) (itself z)) (add_is _ _ _ _ _ _ (mul_is _ _ _ _ _ _ (itself x) (itself z)) (mul_is _ _ _ _ _ _ (itself y) (itself z)))
    (solve int-ring ((v 0 ⊗ v 3 ⊕ v 2 ⊗ v 1) ⊗ v 4 ⊗ ((v 1 ⊗ v 5) ⊗ (v 3 ⊗ v 5))) ((v 0 ⊗ v 4 ⊗ (v 3 ⊗ v 5) ⊕ v 2 ⊗ v 4 ⊗ (v 1 ⊗ v 5)) ⊗ ((v 1 ⊗ v 3) ⊗ v 5))
    (x.num ∷ pos x.den ∷ y.num ∷ pos y.den ∷ z.num ∷ pos z.den ∷ []) refl)

-- a sum of whole numbers, as fractions
pub whole-add : (m n : ℤ) → whole (m +ℤ n) ≡ whole m +ℚ whole n
whole-add m n = same_quotient _ _ _ _ _ _ (whole_is (m +ℤ n)) (add_is _ _ _ _ _ _ (whole_is m) (whole_is n))
    (solve int-ring ((v 0 ⊕ v 1) ⊗ (k (pos 1) ⊗ k (pos 1))) ((v 0 ⊗ k (pos 1) ⊕ v 1 ⊗ k (pos 1)) ⊗ k (pos 1)) (m ∷ n ∷ []) refl)

-- a product of whole numbers, as fractions
pub whole-mul : (m n : ℤ) → whole (m *ℤ n) ≡ whole m *ℚ whole n
whole-mul m n = same_quotient _ _ _ _ _ _ (whole_is (m *ℤ n)) (mul_is _ _ _ _ _ _ (whole_is m) (whole_is n))
    (solve int-ring ((v 0 ⊗ v 1) ⊗ (k (pos 1) ⊗ k (pos 1))) ((v 0 ⊗ v 1) ⊗ k (pos 1)) (m ∷ n ∷ []) refl)

-- the ring of the fractions
abbrev pub fraction-ring : CommutativeRing Fraction
fraction-ring = record {
  add = λ x y. x +ℚ y;
  mul = λ x y. x *ℚ y;
  neg = neg_ℚ;
  int = whole;
  add_assoc = add_assoc_q;
  add_comm = add_comm_q;
  zero-add = zero-add_q;
  add-neg = add-neg_q;
  mul_assoc = mul_assoc_q;
  mul_comm = mul_comm_q;
  one-mul = one-mul_q;
  add-mul = add-mul_q;
  int-add = whole-add;
  int-mul = whole-mul;
}

-- num / den is the fraction itself
pub quotient-itself : (x : Fraction) → quotient x.num x.den ≡ x
quotient-itself x = sym (is_quotient x x.num x.den (itself x))

-- numbers in lowest terms are those of their fraction
pub quotient-lowest : (z : ℤ) (d : ℕ) (h : 0 < d) (e : gcd (nat_abs z) d ≡ 1) → quotient z d ≡ made z d h e
quotient-lowest z d h e = quotient-itself (made z d h e)

-- a fraction with the numerator 0 is 0
pub zero_num : (x : Fraction) → x.num ≡ pos 0 → x ≡ whole (pos 0)
zero_num x e = same_quotient x (whole (pos 0)) _ _ _ _ (itself x) (whole_is (pos 0)) (ap (λ (n : ℤ). n *ℤ pos 1) e ∙ sym (zero-*ℤ (pos x.den)))

-- the numerator of 0 is 0
pub num_zero : (x : Fraction) → x ≡ whole (pos 0) → x.num ≡ pos 0
num_zero x e = ap (λ (y : Fraction). y.num) e

-- whole numbers that are one fraction are equal
pub whole_injective : (m n : ℤ) → whole m ≡ whole n → m ≡ n
whole_injective m n e = ap (λ (y : Fraction). y.num) e

-- the negative of a whole number
pub whole-neg : (z : ℤ) → whole (neg_ℤ z) ≡ neg_ℚ (whole z)
whole-neg z = same_quotient _ _ _ _ _ _ (whole_is (neg_ℤ z)) (neg_is _ _ _ (whole_is z)) refl

-- the difference of whole numbers
pub whole-sub : (m n : ℤ) → whole (m +ℤ neg_ℤ n) ≡ whole m -ℚ whole n
whole-sub m n = whole-add m (neg_ℤ n) ∙ ap (λ w. whole m +ℚ w) (whole-neg n)

-- -(-x) is x
pub neg-neg_q : (x : Fraction) → neg_ℚ (neg_ℚ x) ≡ x
neg-neg_q x = solve fraction-ring (inv (inv (v 0))) (v 0) (x ∷ []) refl

-- ---- the operations by cross products
-- a / b + c / d is (a * d + c * b) / (b * d)
pub sum_is : (x y : Fraction) → IsQuotient (x +ℚ y) (x.num *ℤ pos y.den +ℤ y.num *ℤ pos x.den) (x.den * y.den)
sum_is x y = add_is _ _ _ _ _ _ (itself x) (itself y)

-- a / b - c / d is (a * d - c * b) / (b * d)
pub difference_is : (x y : Fraction) → IsQuotient (x -ℚ y) (x.num *ℤ pos y.den -ℤ y.num *ℤ pos x.den) (x.den * y.den)
difference_is x y = let Q : ℤ → Type 0 = λ n. IsQuotient (x -ℚ y) n (x.den * y.den) in
    subst Q (solve int-ring (v 0 ⊗ v 1 ⊕ inv (v 2) ⊗ v 3) (v 0 ⊗ v 1 ⊖ v 2 ⊗ v 3) (x.num ∷ pos y.den ∷ y.num ∷ pos x.den ∷ []) refl)
    (add_is _ _ _ _ _ _ (itself x) (neg_is _ _ _ (itself y)))

-- a / b times c / d is (a * c) / (b * d)
pub product_is : (x y : Fraction) → IsQuotient (x *ℚ y) (x.num *ℤ y.num) (x.den * y.den)
product_is x y = mul_is _ _ _ _ _ _ (itself x) (itself y)

-- -(a / b) is (-a) / b
pub negative_is : (x : Fraction) → IsQuotient (neg_ℚ x) (neg_ℤ x.num) x.den
negative_is x = neg_is _ _ _ (itself x)
