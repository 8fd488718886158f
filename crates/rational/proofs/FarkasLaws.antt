-- Farkas' lemma: inequalities of which a refutation is known hold together at no point. Their multiples add up to
-- `value ≤ bound` at the point, strictly where a strict one has a part; but the value is 0 and the bound fails.
use Rattle.std.proofs.Common.{◌≡◌, ℕ, zero, suc, ◌<◌, inl, inr, Bool, true, false, List, [], ◌∷◌, ◌++◌, map, length, refl, sym, ap, subst, ◌∙◌, arith, IsTrue, slice_index_or}
use Rattle.std.specs.List.{AllByRecursion, All, Any}
use Rattle.std.proofs.lemmas.List.Elements.{recursion_from_All}
use lib.IntN.{pos}
use Rattle.rational.specs.Fraction.{Fraction, whole, ◌+ℚ◌, ◌*ℚ◌, ◌≤ℚ◌, ◌<ℚ◌, IsNotNegative, IsPositive}
use Rattle.rational.specs.Sums.{combination}
use Rattle.rational.specs.Linear.{Terms, value_at, coefficient_of}
use Rattle.rational.specs.Farkas.{InOrder, Row, IsTrueAt, total_coefficient, total_bound, BoundFails, IsRefutation}
use Rattle.rational.proofs.OrderLaws.{≤ℚ_refl, ≤ℚ-add, ≤ℚ-mul, <ℚ-add, <ℚ-mul, <ℚ-weaken, <ℚ_irrefl, ≤ℚ-<ℚ_trans}
use Rattle.algebra.proofs.Solve.{v, k, ◌⊕◌, strict_from, le, lt, done}
use Rattle.rational.proofs.Signs.{fraction-order}
use Rattle.rational.proofs.LinearLaws.{multiple_of, value_zero, value_at-append, value_at-multiple, coefficient_of-append, coefficient_of-multiple}

-- the value of the sum of the multiples
abbrev pub total_value : (ℕ → Fraction) → List Row → Fraction
total_value point rows = combination (map (λ r. (r.factor, value_at point r.terms)) rows)

-- ---- the sum of the multiples, as one linear expression
-- the multiples, one after another
abbrev total_terms : List Row → Terms
total_terms [] = []
total_terms (r ∷ rows) = multiple_of r.factor r.terms ++ total_terms rows

-- it has the value of the sum
total_terms-value : (point : ℕ → Fraction) (rows : List Row) → value_at point (total_terms rows) ≡ total_value point rows
total_terms-value point [] = refl
total_terms-value point (r ∷ rows) =
    value_at-append point (multiple_of r.factor r.terms) (total_terms rows) ∙ ap (λ w. w +ℚ value_at point (total_terms rows)) (value_at-multiple point r.factor r.terms)
    ∙ ap (λ w. r.factor *ℚ value_at point r.terms +ℚ w) (total_terms-value point rows)

-- and its coefficients
total_terms-coefficient : (n : ℕ) (rows : List Row) → coefficient_of n (total_terms rows) ≡ total_coefficient n rows
total_terms-coefficient n [] = refl
total_terms-coefficient n (r ∷ rows) =
    coefficient_of-append n (multiple_of r.factor r.terms) (total_terms rows) ∙ ap (λ w. w +ℚ coefficient_of n (total_terms rows)) (coefficient_of-multiple n r.factor r.terms)
    ∙ ap (λ w. r.factor *ℚ coefficient_of n r.terms +ℚ w) (total_terms-coefficient n rows)

-- multiples that cancel each variable have the value 0 at each point
pub total_value_zero : (point : ℕ → Fraction) (rows : List Row) → ((n : ℕ) → total_coefficient n rows ≡ whole (pos 0)) → total_value point rows ≡ whole (pos 0)
total_value_zero point rows z = sym (total_terms-value point rows) ∙ value_zero point (total_terms rows) (λ n. total_terms-coefficient n rows ∙ z n)

-- ---- true inequalities add up
-- a strict inequality is one
pub InOrder-weaken : (strict : Bool) (x y : Fraction) → InOrder strict x y → x ≤ℚ y
InOrder-weaken true x y h = <ℚ-weaken x y h
InOrder-weaken false x y h = h

InOrder-strict : (strict : Bool) (x y : Fraction) → IsTrue strict → InOrder strict x y → x <ℚ y
InOrder-strict true x y s h = h
InOrder-strict false x y s h = cc

add_up : (point : ℕ → Fraction) (rows : List Row) → AllByRecursion (λ r. IsNotNegative r.factor) rows → AllByRecursion (λ r. IsTrueAt point r) rows
    → total_value point rows ≤ℚ total_bound rows
add_up point [] n h = ≤ℚ_refl (whole (pos 0))
add_up point (r ∷ rows) n h = ≤ℚ-add _ _ _ _ (≤ℚ-mul r.factor _ _ n.0 (InOrder-weaken r.strict _ _ h.0)) (add_up point rows n.1 h.1)

add_up_strict : (point : ℕ → Fraction) (rows : List Row) (i : ℕ) (s : Row) → AllByRecursion (λ r. IsNotNegative r.factor) rows → AllByRecursion (λ r. IsTrueAt point r) rows
    → i < length rows → slice_index_or rows i s ≡ s → IsTrue s.strict → IsPositive s.factor → total_value point rows <ℚ total_bound rows
add_up_strict point [] i s n h l e t p = absurd (omega arith)
add_up_strict point (r ∷ rows) zero s n h l e t p =
    let t' : IsTrue r.strict = ap (λ (q : Row). q.strict) e ∙ t in
    let P : Row → Type 0 = λ q. IsPositive q.factor in
    <ℚ-add _ _ _ _ (<ℚ-mul r.factor _ _ (subst P (sym e) p) (InOrder-strict r.strict _ _ t' h.0)) (add_up point rows n.1 h.1)
add_up_strict point (r ∷ rows) (suc i) s n h l e t p =
    let first : (r.factor *ℚ value_at point r.terms) ≤ℚ (r.factor *ℚ r.bound) = ≤ℚ-mul r.factor _ _ n.0 (InOrder-weaken r.strict _ _ h.0) in
    let others : total_value point rows <ℚ total_bound rows = add_up_strict point rows i s n.1 h.1 (omega arith) e t p in
    strict_from fraction-order (v 0 ⊕ v 1) (v 2 ⊕ v 3) ((r.factor *ℚ value_at point r.terms) ∷ total_value point rows ∷ (r.factor *ℚ r.bound) ∷ total_bound rows ∷ [])
    (le (k (pos 1)) (v 0) (v 2) tt first (lt (k (pos 1)) (v 1) (v 3) tt others done)) tt refl

-- true inequalities with factors that aren't negative add up
pub rows_add_up : (point : ℕ → Fraction) (rows : List Row) → All (λ r. IsNotNegative r.factor) rows → All (λ r. IsTrueAt point r) rows → total_value point rows ≤ℚ total_bound rows
rows_add_up point rows n h = add_up point rows (recursion_from_All _ rows n) (recursion_from_All _ rows h)

-- they add up strictly where a strict one has a positive factor
pub rows_add_up_strict : (point : ℕ → Fraction) (rows : List Row) → All (λ r. IsNotNegative r.factor) rows → All (λ r. IsTrueAt point r) rows
    → Any (λ r. IsTrue r.strict × IsPositive r.factor) rows → total_value point rows <ℚ total_bound rows
rows_add_up_strict point rows n h s = add_up_strict point rows s.0 s.1 (recursion_from_All _ rows n) (recursion_from_All _ rows h) s.2 s.3 s.4.0 s.4.1

-- ---- Farkas' lemma
-- where the multiples' value at a point is 0 and their bound fails, not all are true there
pub farkas_at : (point : ℕ → Fraction) (rows : List Row) → All (λ r. IsNotNegative r.factor) rows → total_value point rows ≡ whole (pos 0) → BoundFails rows
    → ¬ (All (λ r. IsTrueAt point r) rows)
farkas_at point rows n z (inl b) h = <ℚ_irrefl (whole (pos 0)) (≤ℚ-<ℚ_trans _ _ _ (subst (λ w. w ≤ℚ total_bound rows) z (rows_add_up point rows n h)) b)
farkas_at point rows n z (inr b) h = <ℚ_irrefl (whole (pos 0)) (subst (λ w. whole (pos 0) <ℚ w) b.0 (subst (λ w. w <ℚ total_bound rows) z (rows_add_up_strict point rows n h b.1)))

-- inequalities with a refutation hold together at no point
pub farkas : (rows : List Row) (point : ℕ → Fraction) → IsRefutation rows → ¬ (All (λ r. IsTrueAt point r) rows)
farkas rows point h = farkas_at point rows h.not_negative (total_value_zero point rows h.cancels) h.bound_fails
