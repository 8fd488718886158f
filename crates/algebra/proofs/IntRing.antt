-- ℤ as a ring and as an ordered ring, for the normaliser of `Solve`.
use Rattle.std.proofs.Common.{◌≡◌, ◌*◌, ap, refl, ◌∙◌, arith}
use native.Mathlib.Nat.{mul-pos}
use lib.Dec.{T, lt→ltb, ltb→lt}
use lib.Signed.{non_neg, lt_z, ◌≤ℤ◌, ◌<ℤ◌}
use Rattle.std.proofs.lemmas.Int.{ints}
use lib.IntN.{ℤ, pos, negsuc, ◌+ℤ◌, ◌*ℤ◌, neg_ℤ, +ℤ_assoc, +ℤ_comm, +ℤ_idl, +ℤ_invr, *ℤ_comm}
use Rattle.algebra.proofs.Differences.{mul_assoc_z, mul-add_z}
use Rattle.algebra.proofs.Ring.{CommutativeRing, Order}

-- 1 * x is x
pub one-mul_z : (x : ℤ) → pos 1 *ℤ x ≡ x
one-mul_z x = omega (arith, ints)

-- the ring of the integers
abbrev pub int-ring : CommutativeRing ℤ
int-ring = record {
  add = λ a b. a +ℤ b;
  mul = λ a b. a *ℤ b;
  neg = neg_ℤ;
  int = λ z. z;
  add_assoc = +ℤ_assoc;
  add_comm = +ℤ_comm;
  zero-add = +ℤ_idl;
  add-neg = +ℤ_invr;
  mul_assoc = mul_assoc_z;
  mul_comm = *ℤ_comm;
  one-mul = one-mul_z;
  add-mul = λ x y z. *ℤ_comm (x +ℤ y) z ∙ mul-add_z z x y ∙ ap (λ w. w +ℤ z *ℤ y) (*ℤ_comm z x) ∙ ap (λ w. x *ℤ z +ℤ w) (*ℤ_comm z y);
  int-add = λ m n. refl;
  int-mul = λ m n. refl;
}

-- ---- the order
-- a sum of numbers that aren't negative
pub sum_not_negative : (a b : ℤ) → T (non_neg a) → T (non_neg b) → T (non_neg (a +ℤ b))
sum_not_negative a b h j = omega (arith, ints)

-- a product of numbers that aren't negative
pub product_not_negative : (a b : ℤ) → T (non_neg a) → T (non_neg b) → T (non_neg (a *ℤ b))
product_not_negative (pos a) (pos b) h j = tt
product_not_negative (pos a) (negsuc b) h j = absurd j
product_not_negative (negsuc a) b h j = absurd h

-- a sum with a positive part
pub sum_positive : (a b : ℤ) → T (lt_z (pos 0) a) → T (non_neg b) → T (lt_z (pos 0) (a +ℤ b))
sum_positive a b h j = omega (arith, ints)

-- a product of positive numbers
pub product_positive : (a b : ℤ) → T (lt_z (pos 0) a) → T (lt_z (pos 0) b) → T (lt_z (pos 0) (a *ℤ b))
product_positive (pos a) (pos b) h j = lt→ltb 0 (a * b) (mul-pos (ltb→lt 0 a h) (ltb→lt 0 b j))
product_positive (pos a) (negsuc b) h j = absurd j
product_positive (negsuc a) b h j = absurd h

-- the order of the integers
abbrev pub int-order : Order int-ring
int-order = record {
  IsNotNegative = λ z. T (non_neg z);
  IsPositive = λ z. T (lt_z (pos 0) z);
  IsAtMost = λ a b. a ≤ℤ b;
  IsBelow = λ a b. a <ℤ b;
  zero = tt;
  weaken = λ a h. omega (arith, ints);
  add = sum_not_negative;
  mul = product_not_negative;
  add_positive = sum_positive;
  mul_positive = product_positive;
  at_most_in = λ a b h. omega (arith, ints);
  at_most_out = λ a b h. omega (arith, ints);
  below_in = λ a b h. omega (arith, ints);
  below_out = λ a b h. omega (arith, ints);
}
