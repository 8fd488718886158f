-- The signs of fractions, which are those of their numerators, and `fraction-order`: with it `bound_from` and `strict_from`
-- prove an inequality between fractions in one line.
use Rattle.std.proofs.Common.{ℕ, zero, suc, ◌*◌, ◌<◌, sym, subst, arith}
use native.Mathlib.Nat.{zero-lt-suc}
use Rattle.std.proofs.lemmas.Int.{ints}
use lib.IntN.{ℤ, pos, negsuc, ◌*ℤ◌}
use lib.Signed.{non_neg, lt_z}
use lib.Dec.{T, lt→ltb, ltb→lt}
use borrow.Author.Differences.{not_negative_out, lt_T, neg_is as int_neg_is}
use Rattle.algebra.proofs.Solve.{Order}
use Rattle.algebra.proofs.IntRing.{sum_not_negative, product_not_negative, sum_positive, product_positive}
use Rattle.rational.specs.Fraction.{Fraction, ◌+ℚ◌, ◌*ℚ◌, ◌≤ℚ◌, ◌<ℚ◌, IsNotNegative, IsPositive}
use Rattle.rational.proofs.FieldLaws.{IsQuotient, itself, add_is, mul_is, fraction-ring}

-- ---- signs
cancel_not_negative : (a : ℤ) (n : ℕ) → 0 < n → T (non_neg (a *ℤ pos n)) → T (non_neg a)
cancel_not_negative (pos a) n p h = tt
cancel_not_negative (negsuc a) zero p h = absurd (omega arith)
cancel_not_negative (negsuc a) (suc n) p h = absurd (omega (arith, not_negative_out _ h, int_neg_is (pos (suc a * suc n))))

cancel_positive : (a : ℤ) (n : ℕ) → T (lt_z (pos 0) (a *ℤ pos n)) → T (lt_z (pos 0) a)
cancel_positive (pos zero) n h = absurd (omega (arith, ltb→lt 0 (0 * n) h))
cancel_positive (pos (suc a)) n h = lt→ltb 0 (suc a) (zero-lt-suc a)
cancel_positive (negsuc a) n h = absurd (omega (arith, lt_T (pos 0) (negsuc a *ℤ pos n) h, int_neg_is (pos (suc a * n))))

-- a / b isn't negative where a isn't
pub not_negative_is : (x : Fraction) (a : ℤ) (b : ℕ) → IsQuotient x a b → T (non_neg a) → IsNotNegative x
not_negative_is x a b q h = cancel_not_negative x.num b q.below (subst (λ (z : ℤ). T (non_neg z)) (sym q.cross) (product_not_negative a (pos x.den) h tt))

-- where a / b isn't negative, a isn't
pub is_not_negative : (x : Fraction) (a : ℤ) (b : ℕ) → IsQuotient x a b → IsNotNegative x → T (non_neg a)
is_not_negative x a b q h = cancel_not_negative a x.den x.positive (subst (λ (z : ℤ). T (non_neg z)) q.cross (product_not_negative x.num (pos b) h tt))

-- a / b is positive where a is
pub positive_is : (x : Fraction) (a : ℤ) (b : ℕ) → IsQuotient x a b → T (lt_z (pos 0) a) → IsPositive x
positive_is x a b q h = cancel_positive x.num b (subst (λ (z : ℤ). T (lt_z (pos 0) z)) (sym q.cross) (product_positive a (pos x.den) h (lt→ltb 0 x.den x.positive)))

-- where a / b is positive, a is
pub is_positive : (x : Fraction) (a : ℤ) (b : ℕ) → IsQuotient x a b → IsPositive x → T (lt_z (pos 0) a)
is_positive x a b q h = cancel_positive a x.den (subst (λ (z : ℤ). T (lt_z (pos 0) z)) q.cross (product_positive x.num (pos b) h (lt→ltb 0 b q.below)))

-- a sum of fractions that aren't negative
pub add_not_negative : (x y : Fraction) → IsNotNegative x → IsNotNegative y → IsNotNegative (x +ℚ y)
add_not_negative x y h j =
    not_negative_is _ _ _ (add_is _ _ _ _ _ _ (itself x) (itself y))
    (sum_not_negative _ _ (product_not_negative x.num (pos y.den) h tt) (product_not_negative y.num (pos x.den) j tt))

-- a product of fractions that aren't negative
pub mul_not_negative : (x y : Fraction) → IsNotNegative x → IsNotNegative y → IsNotNegative (x *ℚ y)
mul_not_negative x y h j = not_negative_is _ _ _ (mul_is _ _ _ _ _ _ (itself x) (itself y)) (product_not_negative x.num y.num h j)

-- a sum with a positive part
pub add_positive : (x y : Fraction) → IsPositive x → IsNotNegative y → IsPositive (x +ℚ y)
add_positive x y h j =
    positive_is _ _ _ (add_is _ _ _ _ _ _ (itself x) (itself y))
    (sum_positive _ _ (product_positive x.num (pos y.den) h (lt→ltb 0 y.den y.positive)) (product_not_negative y.num (pos x.den) j tt))

-- a product of positive fractions
pub mul_positive : (x y : Fraction) → IsPositive x → IsPositive y → IsPositive (x *ℚ y)
mul_positive x y h j = positive_is _ _ _ (mul_is _ _ _ _ _ _ (itself x) (itself y)) (product_positive x.num y.num h j)

-- what is positive isn't negative
pub weaken_positive : (x : Fraction) → IsPositive x → IsNotNegative x
weaken_positive x h = omega (arith, ints)

-- the order of the fractions, for `bound_from` and `strict_from`
abbrev pub fraction-order : Order fraction-ring
fraction-order = record {
  IsNotNegative = λ x. IsNotNegative x;
  IsPositive = λ x. IsPositive x;
  IsAtMost = λ x y. x ≤ℚ y;
  IsBelow = λ x y. x <ℚ y;
  zero = tt;
  weaken = weaken_positive;
  add = add_not_negative;
  mul = mul_not_negative;
  add_positive = add_positive;
  mul_positive = mul_positive;
  at_most_in = λ x y h. record { le = h };
  at_most_out = λ x y h. h.le;
  below_in = λ x y h. record { lt = h };
  below_out = λ x y h. h.lt;
}
