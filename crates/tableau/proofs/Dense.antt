-- The row of a linear expression: a place for each variable, with its coefficient.
use Rattle.std.proofs.Common.{◌≡◌, ◌≢◌, ◌⊎◌, inl, inr, ℕ, zero, suc, ◌<◌, ◌≤◌, ◌+◌, ◌++◌, Bool, true, not, cond, List, [], ◌∷◌, Some, length, take, set, refl, sym, ap, subst, ◌∙◌, arith, nat_eq, nat_lt, nat_le}
use Rattle.std.specs.List.{slice_get, list_all}
use Rattle.std.proofs.lemmas.Bool.{cases_eq, and_parts, and_from}
use Rattle.std.proofs.lemmas.Bool.Decides.{nat_tests}
use Rattle.std.proofs.lemmas.List.{get_or-set_same, get_or-set_other, length-set, take_all}
use lib.IntN.{pos}
use Rattle.algebra.proofs.Solve.{v, k, ◌⊕◌, ◌⊗◌, inv, solve, solve_from, eq, done}
use Rattle.rational.specs.Fraction.{Fraction, whole, ◌+ℚ◌, ◌*ℚ◌}
use Rattle.rational.specs.Linear.{Terms, value_at, coefficient_of}
use Rattle.rational.proofs.FieldLaws.{fraction-ring}
use Rattle.rational.proofs.LinearLaws.{coefficient_of-append}
use Rattle.lin.specs.Linear.{AreBelow}
use Rattle.lin.specs.Normal.{is_zero, is_normal_from, IsNormal}
use Rattle.tableau.specs.FiniteSums.{sum_below, only}
use Rattle.tableau.specs.Table.{at}
use Rattle.tableau.specs.inside.Start.{IsDense}
use Rattle.tableau.proofs.SumLaws.{nat_eq-same, nat_eq-apart, sum_same, sum_zero, sum_add, sum_only, only-same, only-other}

true-below : (m n : ℕ) → nat_lt m n ≡ true → m < n
true-below m n h = grind (arith, nat_tests)

below-true : (m n : ℕ) → m < n → nat_lt m n ≡ true
below-true m n h = grind (arith, nat_tests)

true-least : (m n : ℕ) → nat_le m n ≡ true → m ≤ n
true-least m n h = grind (arith, nat_tests)

-- ---- variables below a number
pub below_more : (m n : ℕ) → m ≤ n → (ts : Terms) → AreBelow m ts → AreBelow n ts
below_more m n l [] h = refl
below_more m n l (t ∷ ts) h =
    let p = and_parts (nat_lt t.0 m) (list_all (λ t. nat_lt t.0 m) ts) h in
    let q : t.0 < m = true-below t.0 m p.0 in
    and_from (nat_lt t.0 n) (list_all (λ t. nat_lt t.0 n) ts) (below-true t.0 n (omega arith)) (below_more m n l ts p.1)

pub variable_below : (n : ℕ) (ts : Terms) (i : ℕ) (t : ℕ × Fraction) → AreBelow n ts → slice_get ts i ≡ Some t → t.0 < n
variable_below n [] i t h e = absurd (cc)
variable_below n (u ∷ ts) zero t h e =
    let same : u ≡ t = cc in
    true-below t.0 n (ap (λ (x : ℕ × Fraction). nat_lt x.0 n) (sym same) ∙ (and_parts (nat_lt u.0 n) (list_all (λ x. nat_lt x.0 n) ts) h).0)
variable_below n (u ∷ ts) (suc i) t h e = variable_below n ts i t (and_parts (nat_lt u.0 n) (list_all (λ x. nat_lt x.0 n) ts) h).1 e

-- a variable that isn't below has the coefficient 0
pub coefficient-past : (n : ℕ) (ts : Terms) → AreBelow n ts → (j : ℕ) → n ≤ j → coefficient_of j ts ≡ whole (pos 0)
coefficient-past n [] h j l = refl
coefficient-past n (t ∷ ts) h j l =
    let p = and_parts (nat_lt t.0 n) (list_all (λ t. nat_lt t.0 n) ts) h in
    let q : t.0 < n = true-below t.0 n p.0 in
    let d : t.0 ≢ j = omega arith in
    ap (λ (b : Bool). cond b t.1 (whole (pos 0)) +ℚ coefficient_of j ts) (nat_eq-apart t.0 j d)
    ∙ solve_from fraction-ring (k (pos 0) ⊕ v 0) (k (pos 0)) (coefficient_of j ts ∷ []) (eq (k (pos 1)) (v 0) (k (pos 0)) (coefficient-past n ts p.1 j l) done) refl

-- ---- normal terms: the variable of a term doesn't stand in front of it
least_of : (least : ℕ) (ts : Terms) → is_normal_from least ts ≡ true → (i : ℕ) (t : ℕ × Fraction) → slice_get ts i ≡ Some t → least ≤ t.0
least_of least [] h i t e = absurd (cc)
least_of least (u ∷ us) h zero t e =
    let same : u ≡ t = cc in
    let p = and_parts (nat_le least u.0) _ h in
    let q : least ≤ u.0 = true-least least u.0 p.0 in
    subst (λ (x : ℕ × Fraction). least ≤ x.0) same q
least_of least (u ∷ us) h (suc i) t e =
    let p = and_parts (nat_le least u.0) _ h in
    let q : least ≤ u.0 = true-least least u.0 p.0 in
    let r = (and_parts (not (is_zero u.1)) _ p.1).1 in
    let s : suc u.0 ≤ t.0 = least_of (suc u.0) us r i t e in omega arith

front_from : (least : ℕ) (ts : Terms) → is_normal_from least ts ≡ true → (i : ℕ) (t : ℕ × Fraction) → slice_get ts i ≡ Some t → coefficient_of t.0 (take i ts) ≡ whole (pos 0)
front_from least [] h i t e = absurd (cc)
front_from least (u ∷ us) h zero t e = refl
front_from least (u ∷ us) h (suc i) t e =
    let p = and_parts (nat_le least u.0) _ h in
    let r = (and_parts (not (is_zero u.1)) _ p.1).1 in
    let s : suc u.0 ≤ t.0 = least_of (suc u.0) us r i t e in
    let d : u.0 ≢ t.0 = omega arith in
    ap (λ (b : Bool). cond b u.1 (whole (pos 0)) +ℚ coefficient_of t.0 (take i us)) (nat_eq-apart u.0 t.0 d)
    ∙ solve_from fraction-ring (k (pos 0) ⊕ v 0) (k (pos 0)) (coefficient_of t.0 (take i us) ∷ []) (eq (k (pos 1)) (v 0) (k (pos 0)) (front_from (suc u.0) us r i t e) done) refl

-- ---- a row as far as it is made
take-next : (ts : Terms) (i : ℕ) (t : ℕ × Fraction) → slice_get ts i ≡ Some t → take (i + 1) ts ≡ take i ts ++ t ∷ []
take-next [] i t e = absurd (cc)
take-next (u ∷ us) zero t e = let same : u ≡ t = cc in ap (λ (x : ℕ × Fraction). x ∷ []) same
take-next (u ∷ us) (suc i) t e =
    let s : suc i + 1 ≡ suc (i + 1) = omega arith in ap (λ (n : ℕ). take n (u ∷ us)) s ∙ ap (λ (xs : Terms). u ∷ xs) (take-next us i t e)

pub dense_none : (n : ℕ) (ts : Terms) (row : List Fraction) → length row ≡ n → ((j : ℕ) → at row j ≡ whole (pos 0)) → IsDense n (take 0 ts) row
dense_none n ts row l z = record { long = l; cells = λ j h. z j }

pub dense_more : (n : ℕ) (ts : Terms) (row : List Fraction) (i : ℕ) (t : ℕ × Fraction) → IsNormal ts → AreBelow n ts → slice_get ts i ≡ Some t → IsDense n (take i ts) row
    → IsDense n (take (i + 1) ts) (set row t.0 t.1)
dense_more n ts row i t p b e h = record { long = length-set row t.0 t.1 ∙ h.long; cells = λ j l. by_place j l (cases_eq j t.0) }
  where
    last : (j : ℕ) → coefficient_of j (take (i + 1) ts) ≡ coefficient_of j (take i ts) +ℚ (cond (nat_eq t.0 j) t.1 (whole (pos 0)) +ℚ whole (pos 0))
    last j = ap (coefficient_of j) (take-next ts i t e) ∙ coefficient_of-append j (take i ts) (t ∷ [])

    by_place : (j : ℕ) → j < n → (j ≡ t.0) ⊎ (j ≡ t.0 → ⊥) → at (set row t.0 t.1) j ≡ coefficient_of j (take (i + 1) ts)
    by_place j l (inl s) =
        let P : ℕ → Type 0 = λ m. at (set row t.0 t.1) m ≡ coefficient_of m (take (i + 1) ts) in
        let u : t.0 < length row = omega (arith, h.long, variable_below n ts i t b e) in
        subst P (sym s) (get_or-set_same row t.0 t.1 (whole (pos 0)) u
        ∙ solve_from fraction-ring (v 0) (v 1 ⊕ (v 0 ⊕ k (pos 0))) (t.1 ∷ coefficient_of t.0 (take i ts) ∷ []) (eq (inv (k (pos 1))) (v 1) (k (pos 0)) (front_from 0 ts p i t e) done) refl
        ∙ sym (ap (λ (c : Bool). coefficient_of t.0 (take i ts) +ℚ (cond c t.1 (whole (pos 0)) +ℚ whole (pos 0))) (nat_eq-same t.0)) ∙ sym (last t.0))
    by_place j l (inr d) =
        get_or-set_other row t.0 j t.1 (whole (pos 0)) d ∙ h.cells j l ∙ solve fraction-ring (v 0) (v 0 ⊕ (k (pos 0) ⊕ k (pos 0))) (coefficient_of j (take i ts) ∷ []) refl
        ∙ sym (ap (λ (c : Bool). coefficient_of j (take i ts) +ℚ (cond c t.1 (whole (pos 0)) +ℚ whole (pos 0))) (nat_eq-apart t.0 j (λ s. d (sym s)))) ∙ sym (last j)

pub dense_all : (n m : ℕ) (ts : Terms) (row : List Fraction) → m ≡ length ts → IsDense n (take m ts) row → IsDense n ts row
dense_all n m ts row e h = subst (λ (us : Terms). IsDense n us row) (take_all m ts (omega arith)) h

-- ---- its sum
-- the coefficients of terms, each times the value of its variable, add up to the value
pub sum_of_terms : (n : ℕ) (ts : Terms) (point : ℕ → Fraction) → AreBelow n ts → sum_below n (λ j. coefficient_of j ts *ℚ point j) ≡ value_at point ts
sum_of_terms n [] point h = sum_zero n (λ j. whole (pos 0) *ℚ point j) (λ j l. solve fraction-ring (k (pos 0) ⊗ v 0) (k (pos 0)) (point j ∷ []) refl)
sum_of_terms n (t ∷ ts) point h =
    let p = and_parts (nat_lt t.0 n) (list_all (λ t. nat_lt t.0 n) ts) h in
    sum_same n (λ j. coefficient_of j (t ∷ ts) *ℚ point j) (λ j. only t.0 (t.1 *ℚ point t.0) j +ℚ coefficient_of j ts *ℚ point j) (λ j l. by_place j (cases_eq j t.0))
    ∙ sum_add n (only t.0 (t.1 *ℚ point t.0)) (λ j. coefficient_of j ts *ℚ point j)
    ∙ ap (λ w. w +ℚ sum_below n (λ j. coefficient_of j ts *ℚ point j)) (sum_only n t.0 (t.1 *ℚ point t.0) (true-below t.0 n p.0))
    ∙ ap (λ w. t.1 *ℚ point t.0 +ℚ w) (sum_of_terms n ts point p.1)
  where
    by_place : (j : ℕ) → (j ≡ t.0) ⊎ (j ≡ t.0 → ⊥) → coefficient_of j (t ∷ ts) *ℚ point j ≡ only t.0 (t.1 *ℚ point t.0) j +ℚ coefficient_of j ts *ℚ point j
    by_place j (inl s) =
        let P : ℕ → Type 0 = λ m. coefficient_of m (t ∷ ts) *ℚ point m ≡ only t.0 (t.1 *ℚ point t.0) m +ℚ coefficient_of m ts *ℚ point m in
        subst P (sym s) (ap (λ (c : Bool). (cond c t.1 (whole (pos 0)) +ℚ coefficient_of t.0 ts) *ℚ point t.0) (nat_eq-same t.0)
        ∙ solve fraction-ring ((v 0 ⊕ v 1) ⊗ v 2) (v 0 ⊗ v 2 ⊕ v 1 ⊗ v 2) (t.1 ∷ coefficient_of t.0 ts ∷ point t.0 ∷ []) refl
        ∙ sym (ap (λ w. w +ℚ coefficient_of t.0 ts *ℚ point t.0) (only-same t.0 (t.1 *ℚ point t.0))))
    by_place j (inr d) =
        ap (λ (c : Bool). (cond c t.1 (whole (pos 0)) +ℚ coefficient_of j ts) *ℚ point j) (nat_eq-apart t.0 j (λ s. d (sym s)))
        ∙ solve fraction-ring ((k (pos 0) ⊕ v 0) ⊗ v 1) (k (pos 0) ⊕ v 0 ⊗ v 1) (coefficient_of j ts ∷ point j ∷ []) refl
        ∙ sym (ap (λ w. w +ℚ coefficient_of j ts *ℚ point j) (only-other t.0 (t.1 *ℚ point t.0) j d))
