-- Expressions over a commutative ring, and their normal form, which computes: sums of monomials in a fixed order,
-- like ones joined, none with the factor 0.
use Rattle.std.proofs.Common.{ℕ, List, [], ◌∷◌, Bool, true, false, zero, suc}
use lib.Dec.{ltb, eqb}
use lib.IntN.{ℤ, pos, negsuc, ◌+ℤ◌, ◌*ℤ◌}

infixl 6 ◌⊕◌ ◌⊖◌
infixl 7 ◌⊗◌
-- `v n` is variable n, `k z` the constant z, and `inv e` is -e
pub data Expression : Type 0 where
  v : ℕ → Expression
  k : ℤ → Expression
  ◌⊕◌ ◌⊖◌ ◌⊗◌ : Expression → Expression → Expression
  inv : Expression → Expression

-- a factor times some variables, whose numbers stand in order
pub record Monomial : Type 0 where
  pub factor : ℤ
  pub variables : List ℕ

-- the same variables?
abbrev pub same_list : List ℕ → List ℕ → Bool
same_list [] [] = true
same_list [] (y ∷ ys) = false
same_list (x ∷ xs) [] = false
same_list (x ∷ xs) (y ∷ ys) = elim (eqb x y) [ true ↦ same_list xs ys | false ↦ false ]

-- the order of the monomials
abbrev pub less_list : List ℕ → List ℕ → Bool
less_list [] [] = false
less_list [] (y ∷ ys) = true
less_list (x ∷ xs) [] = false
less_list (x ∷ xs) (y ∷ ys) = elim (eqb x y) [ true ↦ less_list xs ys | false ↦ ltb x y ]

-- is z 0?
abbrev pub is_zero : ℤ → Bool
is_zero (pos zero) = true
is_zero (pos (suc n)) = false
is_zero (negsuc n) = false

-- m in front of p, unless its factor is 0
abbrev pub put : Monomial → List Monomial → List Monomial
put m p = elim (is_zero m.factor) [ true ↦ p | false ↦ m ∷ p ]

-- m added at its place
abbrev pub insert : Monomial → List Monomial → List Monomial
insert m [] = put m []
insert m (x ∷ p) =
    elim (same_list m.variables x.variables) [
      | true ↦ put (record { factor = m.factor +ℤ x.factor; variables = m.variables }) p
      | false ↦ elim (less_list m.variables x.variables) [ true ↦ put m (x ∷ p) | false ↦ x ∷ insert m p ]
    ]

-- the sum
abbrev pub plus : List Monomial → List Monomial → List Monomial
plus [] q = q
plus (m ∷ p) q = insert m (plus p q)

-- one more variable at its place
abbrev pub insert_variable : ℕ → List ℕ → List ℕ
insert_variable n [] = n ∷ []
insert_variable n (x ∷ xs) = elim (ltb x n) [ true ↦ x ∷ insert_variable n xs | false ↦ n ∷ x ∷ xs ]

-- the variables of a product
abbrev pub join : List ℕ → List ℕ → List ℕ
join [] ys = ys
join (x ∷ xs) ys = insert_variable x (join xs ys)

-- the product with one monomial
abbrev pub times_one : Monomial → List Monomial → List Monomial
times_one m [] = []
times_one m (x ∷ p) = insert (record { factor = m.factor *ℤ x.factor; variables = join m.variables x.variables }) (times_one m p)

-- the product
abbrev pub times : List Monomial → List Monomial → List Monomial
times [] q = []
times (m ∷ p) q = plus (times_one m q) (times p q)

-- the number -1
abbrev pub minus_one : Monomial
minus_one = record { factor = negsuc 0; variables = [] }

-- the normal form
abbrev pub norm : Expression → List Monomial
norm (v n) = record { factor = pos 1; variables = n ∷ [] } ∷ []
norm (k z) = put (record { factor = z; variables = [] }) []
norm (e ⊕ f) = plus (norm e) (norm f)
norm (e ⊖ f) = plus (norm e) (times_one minus_one (norm f))
norm (e ⊗ f) = times (norm e) (norm f)
norm (inv e) = times_one minus_one (norm e)
