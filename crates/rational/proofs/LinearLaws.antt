-- The laws of linear expressions: the value and the coefficients of two together and of a multiple, and that the value depends
-- on the coefficients alone, however often a variable stands in the expression.
use Rattle.std.proofs.Common.{◌≡◌, ℕ, zero, suc, ◌≤◌, Bool, true, false, cond, [], ◌∷◌, ◌++◌, map, length, refl, sym, ap, subst, ◌∙◌, arith, nat_eq}
use lib.Dec.{T, eqb→eq, eqb_refl}
use lib.IntN.{pos, negsuc}
use Rattle.algebra.proofs.Solve.{v, k, ◌⊕◌, ◌⊗◌, solve, solve_from, eq, done}
use Rattle.rational.specs.Fraction.{Fraction, whole, ◌+ℚ◌, ◌*ℚ◌}
use Rattle.rational.specs.Sums.{combination}
use Rattle.rational.specs.Linear.{Terms, value_at, coefficient_of}
use Rattle.rational.proofs.FieldLaws.{fraction-ring}

-- ---- the value of a linear expression
-- a linear expression, each coefficient taken c times
abbrev pub multiple_of : Fraction → Terms → Terms
multiple_of c ts = map (λ t. (t.0, c *ℚ t.1)) ts

-- the value is a weighted sum
pub value_at-combination : (point : ℕ → Fraction) (ts : Terms) → value_at point ts ≡ combination (map (λ t. (t.1, point t.0)) ts)
value_at-combination point [] = refl
value_at-combination point (t ∷ ts) = ap (λ w. t.1 *ℚ point t.0 +ℚ w) (value_at-combination point ts)

-- the value of the terms of two
pub value_at-append : (point : ℕ → Fraction) (ts us : Terms) → value_at point (ts ++ us) ≡ value_at point ts +ℚ value_at point us
value_at-append point [] us = solve fraction-ring (v 0) (k (pos 0) ⊕ v 0) (value_at point us ∷ []) refl
value_at-append point (t ∷ ts) us =
    ap (λ w. t.1 *ℚ point t.0 +ℚ w) (value_at-append point ts us)
    ∙ solve fraction-ring (v 0 ⊕ (v 1 ⊕ v 2)) (v 0 ⊕ v 1 ⊕ v 2) ((t.1 *ℚ point t.0) ∷ value_at point ts ∷ value_at point us ∷ []) refl

-- the value of a multiple
pub value_at-multiple : (point : ℕ → Fraction) (c : Fraction) (ts : Terms) → value_at point (multiple_of c ts) ≡ c *ℚ value_at point ts
value_at-multiple point c [] = solve fraction-ring (k (pos 0)) (v 0 ⊗ k (pos 0)) (c ∷ []) refl
value_at-multiple point c (t ∷ ts) =
    ap (λ w. c *ℚ t.1 *ℚ point t.0 +ℚ w) (value_at-multiple point c ts)
    ∙ solve fraction-ring (v 0 ⊗ v 1 ⊗ v 2 ⊕ v 0 ⊗ v 3) (v 0 ⊗ (v 1 ⊗ v 2 ⊕ v 3)) (c ∷ t.1 ∷ point t.0 ∷ value_at point ts ∷ []) refl

-- ---- its coefficients
-- the coefficient in the terms of two
pub coefficient_of-append : (n : ℕ) (ts us : Terms) → coefficient_of n (ts ++ us) ≡ coefficient_of n ts +ℚ coefficient_of n us
coefficient_of-append n [] us = solve fraction-ring (v 0) (k (pos 0) ⊕ v 0) (coefficient_of n us ∷ []) refl
coefficient_of-append n (t ∷ ts) us =
    let c = cond (nat_eq t.0 n) t.1 (whole (pos 0)) in
    ap (λ w. c +ℚ w) (coefficient_of-append n ts us) ∙ solve fraction-ring (v 0 ⊕ (v 1 ⊕ v 2)) (v 0 ⊕ v 1 ⊕ v 2) (c ∷ coefficient_of n ts ∷ coefficient_of n us ∷ []) refl

cond-times : (b : Bool) (c x : Fraction) → cond b (c *ℚ x) (whole (pos 0)) ≡ c *ℚ cond b x (whole (pos 0))
cond-times true c x = refl
cond-times false c x = solve fraction-ring (k (pos 0)) (v 0 ⊗ k (pos 0)) (c ∷ []) refl

-- the coefficient in a multiple
pub coefficient_of-multiple : (n : ℕ) (c : Fraction) (ts : Terms) → coefficient_of n (multiple_of c ts) ≡ c *ℚ coefficient_of n ts
coefficient_of-multiple n c [] = solve fraction-ring (k (pos 0)) (v 0 ⊗ k (pos 0)) (c ∷ []) refl
coefficient_of-multiple n c (t ∷ ts) =
    let x = cond (nat_eq t.0 n) t.1 (whole (pos 0)) in
    ap (λ w. w +ℚ coefficient_of n (multiple_of c ts)) (cond-times (nat_eq t.0 n) c t.1) ∙ ap (λ w. c *ℚ x +ℚ w) (coefficient_of-multiple n c ts)
    ∙ solve fraction-ring (v 0 ⊗ v 1 ⊕ v 0 ⊗ v 2) (v 0 ⊗ (v 1 ⊕ v 2)) (c ∷ x ∷ coefficient_of n ts ∷ []) refl

-- ---- the value depends on the coefficients alone
-- the terms of the other variables
abbrev without : ℕ → Terms → Terms
without n [] = []
without n (t ∷ ts) = cond (nat_eq t.0 n) (without n ts) (t ∷ without n ts)

same_number : (m n : ℕ) → nat_eq m n ≡ true → m ≡ n
same_number m n e = eqb→eq m n (subst T (sym e) tt)

itself_is : (n : ℕ) → (b : Bool) → nat_eq n n ≡ b → b ≡ true
itself_is n true e = refl
itself_is n false e = absurd (subst T e (eqb_refl n))

length-without : (n : ℕ) (ts : Terms) → length (without n ts) ≤ length ts
length-without n [] = omega arith
length-without n (t ∷ ts) = by_test (nat_eq t.0 n) (length-without n ts)
  where
    by_test : (b : Bool) → length (without n ts) ≤ length ts → length (cond b (without n ts) (t ∷ without n ts)) ≤ length (t ∷ ts)
    by_test true h = omega arith
    by_test false h = omega arith

-- the value is that of variable n's terms and that of the others
value-split : (point : ℕ → Fraction) (n : ℕ) (ts : Terms) → value_at point ts ≡ coefficient_of n ts *ℚ point n +ℚ value_at point (without n ts)
value-split point n [] = solve fraction-ring (k (pos 0)) (k (pos 0) ⊗ v 0 ⊕ k (pos 0)) (point n ∷ []) refl
value-split point n (t ∷ ts) = by_test (nat_eq t.0 n) refl (value-split point n ts)
  where
    by_test : (b : Bool) → nat_eq t.0 n ≡ b → value_at point ts ≡ coefficient_of n ts *ℚ point n +ℚ value_at point (without n ts)
        → value_at point (t ∷ ts) ≡ (cond b t.1 (whole (pos 0)) +ℚ coefficient_of n ts) *ℚ point n +ℚ value_at point (cond b (without n ts) (t ∷ without n ts))
    by_test true e h =
        solve_from fraction-ring (v 0 ⊗ v 1 ⊕ v 2) ((v 0 ⊕ v 3) ⊗ v 4 ⊕ v 5) (t.1 ∷ point t.0 ∷ value_at point ts ∷ coefficient_of n ts ∷ point n ∷ value_at point (without n ts) ∷ [])
        (eq (v 0) (v 1) (v 4) (ap point (same_number t.0 n e)) (eq (k (pos 1)) (v 2) (v 3 ⊗ v 4 ⊕ v 5) h done)) refl
    by_test false e h =
        solve_from fraction-ring (v 0 ⊗ v 1 ⊕ v 2) ((k (pos 0) ⊕ v 3) ⊗ v 4 ⊕ (v 0 ⊗ v 1 ⊕ v 5)) (t.1 ∷ point t.0 ∷ value_at point ts ∷ coefficient_of n ts ∷ point n ∷ value_at point (without n ts) ∷ [])
        (eq (k (pos 1)) (v 2) (v 3 ⊗ v 4 ⊕ v 5) h done) refl

-- the others have no term of variable n
coefficient-without_same : (n : ℕ) (ts : Terms) → coefficient_of n (without n ts) ≡ whole (pos 0)
coefficient-without_same n [] = refl
coefficient-without_same n (t ∷ ts) = by_test (nat_eq t.0 n) refl (coefficient-without_same n ts)
  where
    by_test : (b : Bool) → nat_eq t.0 n ≡ b → coefficient_of n (without n ts) ≡ whole (pos 0) → coefficient_of n (cond b (without n ts) (t ∷ without n ts)) ≡ whole (pos 0)
    by_test true e h = h
    by_test false e h = ap (λ (b : Bool). cond b t.1 (whole (pos 0)) +ℚ coefficient_of n (without n ts)) e ∙ solve_from fraction-ring (k (pos 0) ⊕ v 0) (k (pos 0)) (coefficient_of n (without n ts) ∷ []) (eq (k (pos 1)) (v 0) (k (pos 0)) h done) refl

-- and the same terms of each other variable
coefficient-without_other : (n m : ℕ) → nat_eq n m ≡ false → (ts : Terms) → coefficient_of m (without n ts) ≡ coefficient_of m ts
coefficient-without_other n m d [] = refl
coefficient-without_other n m d (t ∷ ts) = by_test (nat_eq t.0 n) refl (coefficient-without_other n m d ts)
  where
    by_test : (b : Bool) → nat_eq t.0 n ≡ b → coefficient_of m (without n ts) ≡ coefficient_of m ts → coefficient_of m (cond b (without n ts) (t ∷ without n ts)) ≡ coefficient_of m (t ∷ ts)
    by_test true e h =
        let f : nat_eq t.0 m ≡ false = subst (λ (i : ℕ). nat_eq i m ≡ false) (sym (same_number t.0 n e)) d in
        h ∙ solve fraction-ring (v 0) (k (pos 0) ⊕ v 0) (coefficient_of m ts ∷ []) refl ∙ sym (ap (λ (b : Bool). cond b t.1 (whole (pos 0)) +ℚ coefficient_of m ts) f)
    by_test false e h = ap (λ w. cond (nat_eq t.0 m) t.1 (whole (pos 0)) +ℚ w) h

zero_in : (point : ℕ → Fraction) (fuel : ℕ) (ts : Terms) → length ts ≤ fuel → ((n : ℕ) → coefficient_of n ts ≡ whole (pos 0)) → value_at point ts ≡ whole (pos 0)
zero_in point fuel [] h z = refl
zero_in point zero (t ∷ ts) h z = absurd (omega arith)
zero_in point (suc fuel) (t ∷ ts) h z =
    let n = t.0 in
    let own : t.1 +ℚ coefficient_of n ts ≡ whole (pos 0) = sym (ap (λ (b : Bool). cond b t.1 (whole (pos 0)) +ℚ coefficient_of n ts) (itself_is n (nat_eq n n) refl)) ∙ z n in
    let rest : value_at point (without n ts) ≡ whole (pos 0) = zero_in point fuel (without n ts) (omega (arith, length-without n ts)) (λ m. by_test m (nat_eq n m) refl) in
    solve_from fraction-ring (v 0 ⊗ v 1 ⊕ v 2) (k (pos 0)) (t.1 ∷ point n ∷ value_at point ts ∷ coefficient_of n ts ∷ value_at point (without n ts) ∷ [])
    (eq (v 1) (v 0 ⊕ v 3) (k (pos 0)) own (eq (k (pos 1)) (v 2) (v 3 ⊗ v 1 ⊕ v 4) (value-split point n ts) (eq (k (pos 1)) (v 4) (k (pos 0)) rest done))) refl
  where
    by_test : (m : ℕ) (b : Bool) → nat_eq t.0 m ≡ b → coefficient_of m (without t.0 ts) ≡ whole (pos 0)
    by_test m true e = subst (λ (i : ℕ). coefficient_of i (without t.0 ts) ≡ whole (pos 0)) (same_number t.0 m e) (coefficient-without_same t.0 ts)
    by_test m false e =
        coefficient-without_other t.0 m e ts ∙ solve fraction-ring (v 0) (k (pos 0) ⊕ v 0) (coefficient_of m ts ∷ []) refl
        ∙ sym (ap (λ (b : Bool). cond b t.1 (whole (pos 0)) +ℚ coefficient_of m ts) e) ∙ z m

-- a linear expression whose coefficients are all 0 has the value 0 at each point
pub value_zero : (point : ℕ → Fraction) (ts : Terms) → ((n : ℕ) → coefficient_of n ts ≡ whole (pos 0)) → value_at point ts ≡ whole (pos 0)
value_zero point ts z = zero_in point (length ts) ts (omega arith) z

-- linear expressions with the same coefficients have the same value at each point
pub value_same : (point : ℕ → Fraction) (ts us : Terms) → ((n : ℕ) → coefficient_of n ts ≡ coefficient_of n us) → value_at point ts ≡ value_at point us
value_same point ts us h =
    let minus = whole (negsuc 0) in
    let z : value_at point (ts ++ multiple_of minus us) ≡ whole (pos 0) = value_zero point (ts ++ multiple_of minus us) (λ n.
    coefficient_of-append n ts (multiple_of minus us) ∙ ap (λ w. coefficient_of n ts +ℚ w) (coefficient_of-multiple n minus us)
    ∙ solve_from fraction-ring (v 0 ⊕ k (negsuc 0) ⊗ v 1) (k (pos 0)) (coefficient_of n ts ∷ coefficient_of n us ∷ []) (eq (k (pos 1)) (v 0) (v 1) (h n) done) refl) in
    let e : value_at point ts +ℚ minus *ℚ value_at point us ≡ whole (pos 0) =
    ap (λ w. value_at point ts +ℚ w) (sym (value_at-multiple point minus us)) ∙ sym (value_at-append point ts (multiple_of minus us)) ∙ z in
    solve_from fraction-ring (v 0) (v 1) (value_at point ts ∷ value_at point us ∷ []) (eq (k (pos 1)) (v 0 ⊕ k (negsuc 0) ⊗ v 1) (k (pos 0)) e done) refl
