-- Increments made again and again: an expression changes evenly, so what holds at two times holds between.
use Rattle.std.proofs.Common.{◌≡◌, ℕ, zero, suc, ◌+◌, ◌-◌, ◌≤◌, Bool, true, false, cond, [], ◌∷◌, refl, sym, ap, subst, ◌∙◌, nat_eq, arith}
use Rattle.std.proofs.lemmas.Bool.{eqb-true, eqb-false, eq-eqb, ne_eqb, lt-ltb}
use mathlib.Core.Path.{fun_ext}
use lib.Dec.{T}
use lib.IntN.{pos, ◌+ℤ◌}
use Rattle.algebra.proofs.Solve.{v, k, ◌⊕◌, ◌⊗◌, solve, solve_from, bound_from, strict_from, eq, le, lt, done}
use Rattle.rational.specs.Fraction.{Fraction, whole, ◌+ℚ◌, ◌*ℚ◌, IsPositive, IsNotNegative}
use Rattle.rational.specs.Linear.{Terms, value_at, coefficient_of}
use Rattle.rational.proofs.FieldLaws.{fraction-ring, whole-add}
use Rattle.rational.proofs.Signs.{fraction-order, weaken_positive}
use Rattle.rational.proofs.OrderLaws.{≤ℚ_cancel, <ℚ_cancel, <ℚ-weaken, positive_apart}
use Rattle.rational.proofs.Division.{mul_zero}
use Rattle.lin.specs.Linear.{Linear, value_of}
use Rattle.lin.specs.declared.comparison.Cmp.{Cmp}
use Rattle.lin.specs.declared.comparison.Cmp.TheVariants.{Le, Lt, Eq}
use Rattle.task_core.specs.State.{ComparesToZero}
use Rattle.task_core.specs.Growth.{grown, change_of}

pub whole-suc : (n : ℕ) → whole (pos (suc n)) ≡ whole (pos n) +ℚ whole (pos 1)
whole-suc n = let e : pos (suc n) ≡ pos n +ℤ pos 1 = ap pos (omega arith) in ap whole e ∙ whole-add (pos n) (pos 1)

-- ---- sums over two lists of terms, either way round

value-zero : (us : Terms) → value_at (λ n. whole (pos 0)) us ≡ whole (pos 0)
value-zero [] = refl
value-zero (u ∷ us) =
    solve_from fraction-ring (v 0 ⊗ k (pos 0) ⊕ v 1) (k (pos 0)) (u.1 ∷ value_at (λ n. whole (pos 0)) us ∷ [])
    (eq (k (pos 1)) (v 1) (k (pos 0)) (value-zero us) done) refl

-- the value at a point that was moved m times by d
pub value-moved : (p d : ℕ → Fraction) (m : Fraction) (ts : Terms) → value_at (λ n. p n +ℚ m *ℚ d n) ts ≡ value_at p ts +ℚ m *ℚ value_at d ts
value-moved p d m [] = solve fraction-ring (k (pos 0)) (k (pos 0) ⊕ v 0 ⊗ k (pos 0)) (m ∷ []) refl
value-moved p d m (t ∷ ts) = ap (λ w. t.1 *ℚ (p t.0 +ℚ m *ℚ d t.0) +ℚ w) (value-moved p d m ts)
    ∙ solve fraction-ring (v 0 ⊗ (v 1 ⊕ v 2 ⊗ v 3) ⊕ (v 4 ⊕ v 2 ⊗ v 5)) (v 0 ⊗ v 1 ⊕ v 4 ⊕ v 2 ⊗ (v 0 ⊗ v 3 ⊕ v 5))
    (t.1 ∷ p t.0 ∷ m ∷ d t.0 ∷ value_at p ts ∷ value_at d ts ∷ []) refl

test-sym : (m n : ℕ) (b : Bool) → nat_eq n m ≡ b → nat_eq m n ≡ b
test-sym m n true e = eq-eqb m n (sym (eqb-true n m e))
test-sym m n false e = ne_eqb m n (λ h. eqb-false n m e (sym h))

-- the value where one variable is c and the others are 0
value-single : (m : ℕ) (c : Fraction) (us : Terms) → value_at (λ n. cond (nat_eq m n) c (whole (pos 0))) us ≡ c *ℚ coefficient_of m us
value-single m c [] = solve fraction-ring (k (pos 0)) (v 0 ⊗ k (pos 0)) (c ∷ []) refl
value-single m c (u ∷ us) = by_test (nat_eq u.0 m) (test-sym m u.0 (nat_eq u.0 m) refl) (value-single m c us)
  where
    rest : Fraction
    rest = value_at (λ n. cond (nat_eq m n) c (whole (pos 0))) us

    by_test : (b : Bool) → nat_eq m u.0 ≡ b → rest ≡ c *ℚ coefficient_of m us
        → u.1 *ℚ cond (nat_eq m u.0) c (whole (pos 0)) +ℚ rest ≡ c *ℚ (cond b u.1 (whole (pos 0)) +ℚ coefficient_of m us)
    by_test true e h = ap (λ (b : Bool). u.1 *ℚ cond b c (whole (pos 0)) +ℚ rest) e
        ∙ solve_from fraction-ring (v 0 ⊗ v 1 ⊕ v 2) (v 1 ⊗ (v 0 ⊕ v 3)) (u.1 ∷ c ∷ rest ∷ coefficient_of m us ∷ [])
        (eq (k (pos 1)) (v 2) (v 1 ⊗ v 3) h done) refl
    by_test false e h = ap (λ (b : Bool). u.1 *ℚ cond b c (whole (pos 0)) +ℚ rest) e
        ∙ solve_from fraction-ring (v 0 ⊗ k (pos 0) ⊕ v 2) (v 1 ⊗ (k (pos 0) ⊕ v 3)) (u.1 ∷ c ∷ rest ∷ coefficient_of m us ∷ [])
        (eq (k (pos 1)) (v 2) (v 1 ⊗ v 3) h done) refl

-- the sum over the expression's terms of the increments is the sum over the increments of the expression's coefficients
pub value-swap : (ts us : Terms) → value_at (λ n. coefficient_of n us) ts ≡ value_at (λ n. coefficient_of n ts) us
value-swap [] us = sym (value-zero us)
value-swap (t ∷ ts) us =
    let one = value_at (λ n. cond (nat_eq t.0 n) t.1 (whole (pos 0))) us in
    let more = value_at (λ n. coefficient_of n ts) us in
    ap (λ w. t.1 *ℚ coefficient_of t.0 us +ℚ w) (value-swap ts us) ∙ ap (λ w. w +ℚ more) (sym (value-single t.0 t.1 us))
    ∙ solve fraction-ring (v 0 ⊕ v 1) (v 0 ⊕ k (pos 1) ⊗ v 1) (one ∷ more ∷ []) refl
    ∙ sym (value-moved (λ n. cond (nat_eq t.0 n) t.1 (whole (pos 0))) (λ n. coefficient_of n ts) (whole (pos 1)) us)
    ∙ ap (λ (f : ℕ → Fraction). value_at f us) (fun_ext (λ n.
    solve fraction-ring (v 0 ⊕ k (pos 1) ⊗ v 1) (v 0 ⊕ v 1) (cond (nat_eq t.0 n) t.1 (whole (pos 0)) ∷ coefficient_of n ts ∷ []) refl))

-- the value of an expression where each function has grown by m times its increment
pub value-grown_by : (incs : Terms) (m : Fraction) (old : ℕ → Fraction) (l : Linear)
    → value_of (λ f. old f +ℚ m *ℚ coefficient_of f incs) l ≡ value_of old l +ℚ m *ℚ change_of incs l.terms
value-grown_by incs m old l =
    ap (λ w. w +ℚ l.constant) (value-moved old (λ f. coefficient_of f incs) m l.terms ∙ ap (λ w. value_at old l.terms +ℚ m *ℚ w) (value-swap l.terms incs))
    ∙ solve fraction-ring (v 0 ⊕ v 1 ⊗ v 2 ⊕ v 3) (v 0 ⊕ v 3 ⊕ v 1 ⊗ v 2) (value_at old l.terms ∷ m ∷ change_of incs l.terms ∷ l.constant ∷ []) refl

pub value-grown : (incs : Terms) (n : ℕ) (old : ℕ → Fraction) (l : Linear)
    → value_of (grown incs n old) l ≡ value_of old l +ℚ whole (pos n) *ℚ change_of incs l.terms
value-grown incs n old l = value-grown_by incs (whole (pos n)) old l

-- ---- on a line from x, what holds at 0 and at m + n steps holds at m steps

true_T : {b : Bool} → b ≡ true → T b
true_T e = subst T (sym e) tt

positive_suc : (n : ℕ) → IsPositive (whole (pos (suc n)))
positive_suc n = true_T (lt-ltb 0 (suc n) (omega arith))

-- m steps, and one or more behind them
compares_on_line : (c : Cmp) (x d m n all : Fraction) → IsNotNegative m → IsPositive n → IsPositive all → all ≡ m +ℚ n
    → ComparesToZero c x → ComparesToZero c (x +ℚ all *ℚ d) → ComparesToZero c (x +ℚ m *ℚ d)
compares_on_line Le x d m n all pm pn pa e h j =
    ≤ℚ_cancel all _ _ pa
    (bound_from fraction-order (v 4 ⊗ (v 0 ⊕ v 2 ⊗ v 1)) (v 4 ⊗ k (pos 0)) (x ∷ d ∷ m ∷ n ∷ all ∷ [])
    (le (v 3) (v 0) (k (pos 0)) (weaken_positive n pn) h (le (v 2) (v 0 ⊕ v 4 ⊗ v 1) (k (pos 0)) pm j (eq (v 0) (v 4) (v 2 ⊕ v 3) e done))) refl)
compares_on_line Lt x d m n all pm pn pa e h j =
    <ℚ_cancel all _ _ pa
    (strict_from fraction-order (v 4 ⊗ (v 0 ⊕ v 2 ⊗ v 1)) (v 4 ⊗ k (pos 0)) (x ∷ d ∷ m ∷ n ∷ all ∷ [])
    (lt (v 3) (v 0) (k (pos 0)) pn h (le (v 2) (v 0 ⊕ v 4 ⊗ v 1) (k (pos 0)) pm (<ℚ-weaken _ _ j) (eq (v 0) (v 4) (v 2 ⊕ v 3) e done))) tt refl)
compares_on_line Eq x d m n all pm pn pa e h j =
    mul_zero all _ (positive_apart all pa)
    (solve_from fraction-ring (v 4 ⊗ (v 0 ⊕ v 2 ⊗ v 1)) (k (pos 0)) (x ∷ d ∷ m ∷ n ∷ all ∷ [])
    (eq (v 3) (v 0) (k (pos 0)) h (eq (v 2) (v 0 ⊕ v 4 ⊗ v 1) (k (pos 0)) j (eq (v 0) (v 4) (v 2 ⊕ v 3) e done))) refl)

whole-split : (m n : ℕ) → whole (pos (m + suc n)) ≡ whole (pos m) +ℚ whole (pos (suc n))
whole-split m n = whole-add (pos m) (pos (suc n))

compares_before : (c : Cmp) (x d : Fraction) (m n : ℕ) → ComparesToZero c x → ComparesToZero c (x +ℚ whole (pos (m + suc n)) *ℚ d) → ComparesToZero c (x +ℚ whole (pos m) *ℚ d)
compares_before c x d m n h j =
    let suc_of : m + suc n ≡ suc (m + n) = omega arith in
    compares_on_line c x d (whole (pos m)) (whole (pos (suc n))) (whole (pos (m + suc n))) tt (positive_suc n)
    (subst (λ (i : ℕ). IsPositive (whole (pos i))) (sym suc_of) (positive_suc (m + n))) (whole-split m n) h j

pub compares_between : (c : Cmp) (x d : Fraction) (m n : ℕ) → m ≤ n → ComparesToZero c x → ComparesToZero c (x +ℚ whole (pos n) *ℚ d) → ComparesToZero c (x +ℚ whole (pos m) *ℚ d)
compares_between c x d m n l h j = by_rest (n - m) refl
  where
    by_rest : (r : ℕ) → n - m ≡ r → ComparesToZero c (x +ℚ whole (pos m) *ℚ d)
    by_rest zero e = let same : n ≡ m = omega arith in subst (λ (i : ℕ). ComparesToZero c (x +ℚ whole (pos i) *ℚ d)) same j
    by_rest (suc r) e =
        let split : n ≡ m + suc r = omega arith in
        compares_before c x d m r h (subst (λ (i : ℕ). ComparesToZero c (x +ℚ whole (pos i) *ℚ d)) split j)

-- a comparison that holds at first and after n times holds after m of them
pub holds_between : (incs : Terms) (m n : ℕ) (old : ℕ → Fraction) (l : Linear) (c : Cmp) → m ≤ n
    → ComparesToZero c (value_of old l) → ComparesToZero c (value_of (grown incs n old) l) → ComparesToZero c (value_of (grown incs m old) l)
holds_between incs m n old l c h first last =
    subst (ComparesToZero c) (sym (value-grown incs m old l))
    (compares_between c (value_of old l) (change_of incs l.terms) m n h first (subst (ComparesToZero c) (value-grown incs n old l) last))
