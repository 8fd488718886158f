-- What an expression and a normal form are worth in a ring, and that both are worth the same: each step of the
-- normaliser keeps the value. The end of it is `sound`.
use Rattle.std.proofs.Common.{◌≡◌, ℕ, List, [], ◌∷◌, Bool, true, false, zero, suc, refl, sym, ap, subst, ◌∙◌}
use lib.Dec.{ltb, eqb, eqb→eq, T}
use lib.IntN.{ℤ, pos, negsuc, ◌+ℤ◌, ◌*ℤ◌}
use Rattle.algebra.proofs.Ring.{CommutativeRing, add_left_comm, mul_left_comm, add-zero, mul-one, mul-add, zero-mul, mul-zero, minus_one-mul}
use Rattle.algebra.proofs.Expression.{Expression, v, k, ◌⊕◌, ◌⊖◌, ◌⊗◌, inv, Monomial, norm, same_list, less_list, is_zero, put, insert, plus, insert_variable, join, times_one, times, minus_one}

-- ---- what the tests say
same_by : (x y : ℕ) (xs ys : List ℕ) → (same_list xs ys ≡ true → xs ≡ ys) → (t : Bool) → eqb x y ≡ t
    → (elim t as (λ _. Bool) [ true ↦ same_list xs ys | false ↦ false ]) ≡ true → x ∷ xs ≡ y ∷ ys
same_by x y xs ys ih true e h = let a : x ≡ y = eqb→eq x y (subst T (sym e) tt) in let b : xs ≡ ys = ih h in cc
same_by x y xs ys ih false e h = cc

same_list→eq : (xs ys : List ℕ) → same_list xs ys ≡ true → xs ≡ ys
same_list→eq [] [] h = refl
same_list→eq [] (y ∷ ys) h = cc
same_list→eq (x ∷ xs) [] h = cc
same_list→eq (x ∷ xs) (y ∷ ys) h = same_by x y xs ys (same_list→eq xs ys) (eqb x y) refl h

is_zero→eq : (z : ℤ) → is_zero z ≡ true → z ≡ pos 0
is_zero→eq (pos zero) h = refl
is_zero→eq (pos (suc n)) h = cc
is_zero→eq (negsuc n) h = cc

module _ {R : Type 0} (K : CommutativeRing R) where
  open K use {add, mul, neg, int, add_assoc, zero-add, mul_assoc, one-mul, add-mul, int-add, int-mul}

  -- the value at a place of the list; 0 past its end
  abbrev pub at : List R → ℕ → R
  at [] i = int (pos 0)
  at (x ∷ ρ) zero = x
  at (x ∷ ρ) (suc i) = at ρ i

  -- the value of an expression
  abbrev pub eval : Expression → List R → R
  eval (v n) ρ = at ρ n
  eval (k z) ρ = int z
  eval (e ⊕ f) ρ = add (eval e ρ) (eval f ρ)
  eval (e ⊖ f) ρ = add (eval e ρ) (neg (eval f ρ))
  eval (e ⊗ f) ρ = mul (eval e ρ) (eval f ρ)
  eval (inv e) ρ = neg (eval e ρ)

  -- ---- normal forms
  -- the value of a product of variables
  abbrev pub prod : List R → List ℕ → R
  prod ρ [] = int (pos 1)
  prod ρ (n ∷ ns) = mul (at ρ n) (prod ρ ns)

  -- the value of a monomial
  abbrev pub monomial : List R → Monomial → R
  monomial ρ m = mul (int m.factor) (prod ρ m.variables)

  -- the value of a sum of monomials
  abbrev pub poly : List R → List Monomial → R
  poly ρ [] = int (pos 0)
  poly ρ (m ∷ p) = add (monomial ρ m) (poly ρ p)

  -- ---- each step of the normaliser keeps the value
  put_by : (ρ : List R) (m : Monomial) (p : List Monomial) (t : Bool) → is_zero m.factor ≡ t
      → poly ρ (elim t as (λ _. List Monomial) [ true ↦ p | false ↦ m ∷ p ]) ≡ add (monomial ρ m) (poly ρ p)
  put_by ρ m p true e = sym (ap (λ z. add (mul (int z) (prod ρ m.variables)) (poly ρ p)) (is_zero→eq m.factor e) ∙ ap (λ w. add w (poly ρ p)) (zero-mul K (prod ρ m.variables)) ∙ zero-add (poly ρ p))
  put_by ρ m p false e = refl

  poly-put : (ρ : List R) (m : Monomial) (p : List Monomial) → poly ρ (put m p) ≡ add (monomial ρ m) (poly ρ p)
  poly-put ρ m p = put_by ρ m p (is_zero m.factor) refl

  insert_other : (ρ : List R) (m x : Monomial) (p : List Monomial) → poly ρ (insert m p) ≡ add (monomial ρ m) (poly ρ p) → (t : Bool)
      → poly ρ (elim t as (λ _. List Monomial) [ true ↦ put m (x ∷ p) | false ↦ x ∷ insert m p ]) ≡ add (monomial ρ m) (poly ρ (x ∷ p))
  insert_other ρ m x p ih true = poly-put ρ m (x ∷ p)
  insert_other ρ m x p ih false = ap (add (monomial ρ x)) ih ∙ add_left_comm K (monomial ρ x) (monomial ρ m) (poly ρ p)

  insert_by : (ρ : List R) (m x : Monomial) (p : List Monomial) → poly ρ (insert m p) ≡ add (monomial ρ m) (poly ρ p) → (t : Bool) → same_list m.variables x.variables ≡ t
      → poly ρ (elim t as (λ _. List Monomial) [ true ↦ put (record { factor = m.factor +ℤ x.factor; variables = m.variables }) p | false ↦ elim (less_list m.variables x.variables) [ true ↦ put m (x ∷ p) | false ↦ x ∷ insert m p ] ])
      ≡ add (monomial ρ m) (poly ρ (x ∷ p))
  insert_by ρ m x p ih true e =
      let V = prod ρ m.variables in
      poly-put ρ (record { factor = m.factor +ℤ x.factor; variables = m.variables }) p
      ∙ ap (λ w. add (mul w V) (poly ρ p)) (int-add m.factor x.factor) ∙ ap (λ w. add w (poly ρ p)) (add-mul (int m.factor) (int x.factor) V)
      ∙ add_assoc (mul (int m.factor) V) (mul (int x.factor) V) (poly ρ p)
      ∙ ap (λ (xs : List ℕ). add (monomial ρ m) (add (mul (int x.factor) (prod ρ xs)) (poly ρ p))) (same_list→eq m.variables x.variables e)
  insert_by ρ m x p ih false e = insert_other ρ m x p ih (less_list m.variables x.variables)

  poly-insert : (ρ : List R) (m : Monomial) (p : List Monomial) → poly ρ (insert m p) ≡ add (monomial ρ m) (poly ρ p)
  poly-insert ρ m [] = poly-put ρ m []
  poly-insert ρ m (x ∷ p) = insert_by ρ m x p (poly-insert ρ m p) (same_list m.variables x.variables) refl

  poly-plus : (ρ : List R) (p q : List Monomial) → poly ρ (plus p q) ≡ add (poly ρ p) (poly ρ q)
  poly-plus ρ [] q = sym (zero-add (poly ρ q))
  poly-plus ρ (m ∷ p) q = poly-insert ρ m (plus p q) ∙ ap (add (monomial ρ m)) (poly-plus ρ p q) ∙ sym (add_assoc (monomial ρ m) (poly ρ p) (poly ρ q))

  insert_variable_by : (ρ : List R) (n x : ℕ) (xs : List ℕ) → prod ρ (insert_variable n xs) ≡ mul (at ρ n) (prod ρ xs) → (t : Bool)
      → prod ρ (elim t as (λ _. List ℕ) [ true ↦ x ∷ insert_variable n xs | false ↦ n ∷ x ∷ xs ]) ≡ mul (at ρ n) (prod ρ (x ∷ xs))
  insert_variable_by ρ n x xs ih true = ap (mul (at ρ x)) ih ∙ mul_left_comm K (at ρ x) (at ρ n) (prod ρ xs)
  insert_variable_by ρ n x xs ih false = refl

  prod-insert_variable : (ρ : List R) (n : ℕ) (xs : List ℕ) → prod ρ (insert_variable n xs) ≡ mul (at ρ n) (prod ρ xs)
  prod-insert_variable ρ n [] = refl
  prod-insert_variable ρ n (x ∷ xs) = insert_variable_by ρ n x xs (prod-insert_variable ρ n xs) (ltb x n)

  prod-join : (ρ : List R) (xs ys : List ℕ) → prod ρ (join xs ys) ≡ mul (prod ρ xs) (prod ρ ys)
  prod-join ρ [] ys = sym (one-mul (prod ρ ys))
  prod-join ρ (x ∷ xs) ys = prod-insert_variable ρ x (join xs ys) ∙ ap (mul (at ρ x)) (prod-join ρ xs ys) ∙ sym (mul_assoc (at ρ x) (prod ρ xs) (prod ρ ys))

  monomial-times : (ρ : List R) (m x : Monomial) → monomial ρ (record { factor = m.factor *ℤ x.factor; variables = join m.variables x.variables }) ≡ mul (monomial ρ m) (monomial ρ x)
  monomial-times ρ m x =
      let a = int m.factor in let b = int x.factor in let V = prod ρ m.variables in let W = prod ρ x.variables in
      ap (λ w. mul w (prod ρ (join m.variables x.variables))) (int-mul m.factor x.factor) ∙ ap (mul (mul a b)) (prod-join ρ m.variables x.variables)
      ∙ mul_assoc a b (mul V W) ∙ ap (mul a) (mul_left_comm K b V W) ∙ sym (mul_assoc a V (mul b W))

  poly-times_one : (ρ : List R) (m : Monomial) (p : List Monomial) → poly ρ (times_one m p) ≡ mul (monomial ρ m) (poly ρ p)
  poly-times_one ρ m [] = sym (mul-zero K (monomial ρ m))
  poly-times_one ρ m (x ∷ p) =
      poly-insert ρ (record { factor = m.factor *ℤ x.factor; variables = join m.variables x.variables }) (times_one m p)
      ∙ ap (λ w. add w (poly ρ (times_one m p))) (monomial-times ρ m x) ∙ ap (add (mul (monomial ρ m) (monomial ρ x))) (poly-times_one ρ m p) ∙ sym (mul-add K (monomial ρ m) (monomial ρ x) (poly ρ p))

  poly-times : (ρ : List R) (p q : List Monomial) → poly ρ (times p q) ≡ mul (poly ρ p) (poly ρ q)
  poly-times ρ [] q = sym (zero-mul K (poly ρ q))
  poly-times ρ (m ∷ p) q =
      poly-plus ρ (times_one m q) (times p q) ∙ ap (λ w. add w (poly ρ (times p q))) (poly-times_one ρ m q)
      ∙ ap (add (mul (monomial ρ m) (poly ρ q))) (poly-times ρ p q) ∙ sym (add-mul (monomial ρ m) (poly ρ p) (poly ρ q))

  poly-minus : (ρ : List R) (p : List Monomial) → poly ρ (times_one minus_one p) ≡ neg (poly ρ p)
  poly-minus ρ p = poly-times_one ρ minus_one p ∙ ap (λ w. mul w (poly ρ p)) (mul-one K (int (negsuc 0))) ∙ minus_one-mul K (poly ρ p)

  -- an expression has its normal form's value
  pub sound : (e : Expression) (ρ : List R) → eval e ρ ≡ poly ρ (norm e)
  sound (v n) ρ = sym (add-zero K (monomial ρ (record { factor = pos 1; variables = n ∷ [] })) ∙ one-mul (mul (at ρ n) (int (pos 1))) ∙ mul-one K (at ρ n))
  sound (k z) ρ = sym (poly-put ρ (record { factor = z; variables = [] }) [] ∙ add-zero K (mul (int z) (int (pos 1))) ∙ mul-one K (int z))
  sound (e ⊕ f) ρ = ap (λ w. add w (eval f ρ)) (sound e ρ) ∙ ap (add (poly ρ (norm e))) (sound f ρ) ∙ sym (poly-plus ρ (norm e) (norm f))
  sound (e ⊖ f) ρ = ap (λ w. add w (neg (eval f ρ))) (sound e ρ) ∙ ap (λ w. add (poly ρ (norm e)) (neg w)) (sound f ρ)
      ∙ ap (add (poly ρ (norm e))) (sym (poly-minus ρ (norm f))) ∙ sym (poly-plus ρ (norm e) (times_one minus_one (norm f)))
  sound (e ⊗ f) ρ = ap (λ w. mul w (eval f ρ)) (sound e ρ) ∙ ap (mul (poly ρ (norm e))) (sound f ρ) ∙ sym (poly-times ρ (norm e) (norm f))
  sound (inv e) ρ = ap neg (sound e ρ) ∙ sym (poly-minus ρ (norm e))
