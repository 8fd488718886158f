-- A commutative ring that holds the integers, as ℤ does and as the fractions do, and the laws that follow in any.
-- The normaliser of `Solve` works over such a record: `int-ring` of `IntRing`, or the fractions' `fraction-ring`.
use Rattle.std.proofs.Common.{◌≡◌, sym, ap, ◌∙◌}
use lib.IntN.{ℤ, pos, negsuc, ◌+ℤ◌, ◌*ℤ◌}

-- a commutative ring, with the integers in it
pub record CommutativeRing (R : Type 0) : Type 0 where
  pub add : R → R → R
  pub mul : R → R → R
  pub neg : R → R
  pub int : ℤ → R
  pub add_assoc : (x y z : R) → add (add x y) z ≡ add x (add y z)
  pub add_comm : (x y : R) → add x y ≡ add y x
  pub zero-add : (x : R) → add (int (pos 0)) x ≡ x
  pub add-neg : (x : R) → add x (neg x) ≡ int (pos 0)
  pub mul_assoc : (x y z : R) → mul (mul x y) z ≡ mul x (mul y z)
  pub mul_comm : (x y : R) → mul x y ≡ mul y x
  pub one-mul : (x : R) → mul (int (pos 1)) x ≡ x
  pub add-mul : (x y z : R) → mul (add x y) z ≡ add (mul x z) (mul y z)
  pub int-add : (m n : ℤ) → int (m +ℤ n) ≡ add (int m) (int n)
  pub int-mul : (m n : ℤ) → int (m *ℤ n) ≡ mul (int m) (int n)

-- what isn't negative and what is positive in a ring, and the order and the strict order that these two make
pub record Order {R : Type 0} (K : CommutativeRing R) : Type 1 where
  pub IsNotNegative : R → Type 0
  pub IsPositive : R → Type 0
  pub IsAtMost : R → R → Type 0
  pub IsBelow : R → R → Type 0
  pub zero : IsNotNegative (K.int (pos 0))
  pub weaken : (x : R) → IsPositive x → IsNotNegative x
  pub add : (x y : R) → IsNotNegative x → IsNotNegative y → IsNotNegative (K.add x y)
  pub mul : (x y : R) → IsNotNegative x → IsNotNegative y → IsNotNegative (K.mul x y)
  pub add_positive : (x y : R) → IsPositive x → IsNotNegative y → IsPositive (K.add x y)
  pub mul_positive : (x y : R) → IsPositive x → IsPositive y → IsPositive (K.mul x y)
  pub at_most_in : (x y : R) → IsNotNegative (K.add y (K.neg x)) → IsAtMost x y
  pub at_most_out : (x y : R) → IsAtMost x y → IsNotNegative (K.add y (K.neg x))
  pub below_in : (x y : R) → IsPositive (K.add y (K.neg x)) → IsBelow x y
  pub below_out : (x y : R) → IsBelow x y → IsPositive (K.add y (K.neg x))

module _ {R : Type 0} (K : CommutativeRing R) where
  open K use {add, mul, neg, int, add_assoc, add_comm, zero-add, add-neg, mul_assoc, mul_comm, one-mul, add-mul, int-add}

  -- x + (y + z) is y + (x + z)
  pub add_left_comm : (x y z : R) → add x (add y z) ≡ add y (add x z)
  add_left_comm x y z = sym (add_assoc x y z) ∙ ap (λ w. add w z) (add_comm x y) ∙ add_assoc y x z

  -- x * (y * z) is y * (x * z)
  pub mul_left_comm : (x y z : R) → mul x (mul y z) ≡ mul y (mul x z)
  mul_left_comm x y z = sym (mul_assoc x y z) ∙ ap (λ w. mul w z) (mul_comm x y) ∙ mul_assoc y x z

  -- x + 0 is x
  pub add-zero : (x : R) → add x (int (pos 0)) ≡ x
  add-zero x = add_comm x (int (pos 0)) ∙ zero-add x

  -- x * 1 is x
  pub mul-one : (x : R) → mul x (int (pos 1)) ≡ x
  mul-one x = mul_comm x (int (pos 1)) ∙ one-mul x

  -- a product with a sum is the sum of the products
  pub mul-add : (x y z : R) → mul x (add y z) ≡ add (mul x y) (mul x z)
  mul-add x y z = mul_comm x (add y z) ∙ add-mul y z x ∙ ap (λ w. add w (mul z x)) (mul_comm y x) ∙ ap (λ w. add (mul x y) w) (mul_comm z x)

  neg-add-add : (x w : R) → add (neg x) (add x w) ≡ w
  neg-add-add x w = sym (add_assoc (neg x) x w) ∙ ap (λ u. add u w) (add_comm (neg x) x ∙ add-neg x) ∙ zero-add w

  -- equal sums with one part in common have equal other parts
  pub add_cancel : (x y z : R) → add x y ≡ add x z → y ≡ z
  add_cancel x y z e = sym (neg-add-add x y) ∙ ap (add (neg x)) e ∙ neg-add-add x z

  -- 0 * x is 0
  pub zero-mul : (x : R) → mul (int (pos 0)) x ≡ int (pos 0)
  zero-mul x =
      let o = mul (int (pos 0)) x in
      add_cancel o o (int (pos 0)) (sym (add-mul (int (pos 0)) (int (pos 0)) x) ∙ ap (λ w. mul w x) (zero-add (int (pos 0))) ∙ sym (add-zero o))

  -- x * 0 is 0
  pub mul-zero : (x : R) → mul x (int (pos 0)) ≡ int (pos 0)
  mul-zero x = mul_comm x (int (pos 0)) ∙ zero-mul x

  -- -1 * x is -x
  pub minus_one-mul : (x : R) → mul (int (negsuc 0)) x ≡ neg x
  minus_one-mul x =
      let n = mul (int (negsuc 0)) x in
      add_cancel x n (neg x) (ap (λ w. add w n) (sym (one-mul x)) ∙ sym (add-mul (int (pos 1)) (int (negsuc 0)) x)
      ∙ ap (λ w. mul w x) (sym (int-add (pos 1) (negsuc 0))) ∙ zero-mul x ∙ sym (add-neg x))

  -- the difference of equals is 0
  pub sub_same : (x y : R) → x ≡ y → add x (neg y) ≡ int (pos 0)
  sub_same x y e = ap (λ w. add w (neg y)) e ∙ add-neg y

  -- what has the difference 0 is equal
  pub same_sub : (x y : R) → add x (neg y) ≡ int (pos 0) → x ≡ y
  same_sub x y e = sym (zero-add x) ∙ ap (λ w. add w x) (sym (add-neg y)) ∙ add_assoc y (neg y) x ∙ ap (add y) (add_comm (neg y) x ∙ e) ∙ add-zero y
