-- The coefficients and the values of sums, multiples and substitutions. Collecting like terms changes no coefficient, and the
-- value depends on the coefficients alone.
use Rattle.std.proofs.Common.{◌≡◌, ℕ, zero, suc, Bool, true, false, cond, [], ◌∷◌, ◌++◌, refl, sym, ap, ◌∙◌, nat_eq, nat_lt}
use Rattle.std.proofs.lemmas.Bool.{eqb-true}
use lib.IntN.{ℤ, pos, negsuc}
use Rattle.algebra.proofs.Solve.{v, k, ◌⊕◌, ◌⊗◌, solve}
use Rattle.rational.specs.Fraction.{Fraction, whole, ◌+ℚ◌, ◌*ℚ◌}
use Rattle.rational.specs.Linear.{Terms, value_at, coefficient_of}
use Rattle.rational.proofs.FieldLaws.{fraction-ring, zero_num}
use Rattle.rational.proofs.LinearLaws.{value_at-append, value_at-multiple, coefficient_of-append, coefficient_of-multiple, value_same}
use Rattle.lin.specs.Normal.{is_zero, is_zero_ℤ, put_first, with_term, collected}
use Rattle.lin.specs.Linear.{Linear, value_of, fixed, var, times, add, scale, subst, subst_from}

zero_ℤ : (z : ℤ) → is_zero_ℤ z ≡ true → z ≡ pos 0
zero_ℤ (pos zero) h = refl
zero_ℤ (pos (suc n)) h = absurd (cc)
zero_ℤ (negsuc n) h = absurd (cc)

-- the test of 0
pub is_zero-true : (x : Fraction) → is_zero x ≡ true → x ≡ whole (pos 0)
is_zero-true x h = zero_num x (zero_ℤ x.num h)

-- ---- coefficients
module _ (n : ℕ) where
  -- what a term of variable m adds to the coefficient of n
  abbrev part : ℕ → Fraction → Fraction
  part m c = cond (nat_eq m n) c (whole (pos 0))

  part_zero : (b : Bool) (c : Fraction) → c ≡ whole (pos 0) → cond b c (whole (pos 0)) ≡ whole (pos 0)
  part_zero true c e = e
  part_zero false c e = refl

  coefficient-put_first : (t : ℕ × Fraction) (ts : Terms) → coefficient_of n (put_first t ts) ≡ part t.0 t.1 +ℚ coefficient_of n ts
  coefficient-put_first t ts = by_test (is_zero t.1) refl
    where
      by_test : (b : Bool) → is_zero t.1 ≡ b → coefficient_of n (cond b ts (t ∷ ts)) ≡ part t.0 t.1 +ℚ coefficient_of n ts
      by_test true e =
          solve fraction-ring (v 0) (k (pos 0) ⊕ v 0) (coefficient_of n ts ∷ []) refl
          ∙ ap (λ w. w +ℚ coefficient_of n ts) (sym (part_zero (nat_eq t.0 n) t.1 (is_zero-true t.1 e)))
      by_test false e = refl

  part_sum : (b : Bool) (c d : Fraction) → cond b (c +ℚ d) (whole (pos 0)) ≡ cond b c (whole (pos 0)) +ℚ cond b d (whole (pos 0))
  part_sum true c d = refl
  part_sum false c d = solve fraction-ring (k (pos 0)) (k (pos 0) ⊕ k (pos 0)) [] refl

  coefficient-with_term : (t : ℕ × Fraction) (ts : Terms) → coefficient_of n (with_term t ts) ≡ part t.0 t.1 +ℚ coefficient_of n ts
  coefficient-with_term t [] = coefficient-put_first t []
  coefficient-with_term t (u ∷ us) = by_order (nat_lt t.0 u.0) (nat_eq t.0 u.0) refl (coefficient-with_term t us)
    where
      by_order : (l e : Bool) → nat_eq t.0 u.0 ≡ e → coefficient_of n (with_term t us) ≡ part t.0 t.1 +ℚ coefficient_of n us
          → coefficient_of n (cond l (put_first t (u ∷ us)) (cond e (put_first (u.0, t.1 +ℚ u.1) us) (u ∷ with_term t us))) ≡ part t.0 t.1 +ℚ (part u.0 u.1 +ℚ coefficient_of n us)
      by_order true e h ih = coefficient-put_first t (u ∷ us)
      by_order false true h ih =
          coefficient-put_first (u.0, t.1 +ℚ u.1) us
          ∙ ap (λ w. w +ℚ coefficient_of n us) (part_sum (nat_eq u.0 n) t.1 u.1)
          ∙ ap (λ (m : ℕ). part m t.1 +ℚ part u.0 u.1 +ℚ coefficient_of n us) (sym (eqb-true t.0 u.0 h))
          ∙ solve fraction-ring (v 0 ⊕ v 1 ⊕ v 2) (v 0 ⊕ (v 1 ⊕ v 2)) (part t.0 t.1 ∷ part u.0 u.1 ∷ coefficient_of n us ∷ []) refl
      by_order false false h ih =
          ap (λ w. part u.0 u.1 +ℚ w) ih
          ∙ solve fraction-ring (v 1 ⊕ (v 0 ⊕ v 2)) (v 0 ⊕ (v 1 ⊕ v 2)) (part t.0 t.1 ∷ part u.0 u.1 ∷ coefficient_of n us ∷ []) refl

  pub coefficient-collected : (ts : Terms) → coefficient_of n (collected ts) ≡ coefficient_of n ts
  coefficient-collected [] = refl
  coefficient-collected (t ∷ ts) = coefficient-with_term t (collected ts) ∙ ap (λ w. part t.0 t.1 +ℚ w) (coefficient-collected ts)

  -- the coefficients of a sum and of a multiple
  pub coefficient_add : (l m : Linear) → coefficient_of n (add l m).terms ≡ coefficient_of n l.terms +ℚ coefficient_of n m.terms
  unfolding add
  coefficient_add l m = coefficient-collected (l.terms ++ m.terms) ∙ coefficient_of-append n l.terms m.terms

  pub coefficient_scale : (c : Fraction) (l : Linear) → coefficient_of n (scale c l).terms ≡ c *ℚ coefficient_of n l.terms
  unfolding scale
  coefficient_scale c l = coefficient-collected (times c l.terms) ∙ coefficient_of-multiple n c l.terms

-- the constants of a sum and of a multiple
pub constant_add : (l m : Linear) → (add l m).constant ≡ l.constant +ℚ m.constant
unfolding add
constant_add l m = refl

pub constant_scale : (c : Fraction) (l : Linear) → (scale c l).constant ≡ c *ℚ l.constant
unfolding scale
constant_scale c l = refl

-- ---- values
module _ (at : ℕ → Fraction) where
  pub value-collected : (ts : Terms) → value_at at (collected ts) ≡ value_at at ts
  value-collected ts = value_same at (collected ts) ts (λ n. coefficient-collected n ts)

  pub value_fixed : (c : Fraction) → value_of at (fixed c) ≡ c
  value_fixed c = solve fraction-ring (k (pos 0) ⊕ v 0) (v 0) (c ∷ []) refl

  pub value_var : (n : ℕ) → value_of at (var n) ≡ at n
  value_var n = solve fraction-ring (k (pos 1) ⊗ v 0 ⊕ k (pos 0) ⊕ k (pos 0)) (v 0) (at n ∷ []) refl

  pub value_add : (l m : Linear) → value_of at (add l m) ≡ value_of at l +ℚ value_of at m
  unfolding add
  value_add l m =
      ap (λ w. w +ℚ (l.constant +ℚ m.constant)) (value-collected (l.terms ++ m.terms) ∙ value_at-append at l.terms m.terms)
      ∙ solve fraction-ring (v 0 ⊕ v 1 ⊕ (v 2 ⊕ v 3)) (v 0 ⊕ v 2 ⊕ (v 1 ⊕ v 3)) (value_at at l.terms ∷ value_at at m.terms ∷ l.constant ∷ m.constant ∷ []) refl

  pub value_scale : (c : Fraction) (l : Linear) → value_of at (scale c l) ≡ c *ℚ value_of at l
  unfolding scale
  value_scale c l =
      ap (λ w. w +ℚ c *ℚ l.constant) (value-collected (times c l.terms) ∙ value_at-multiple at c l.terms)
      ∙ solve fraction-ring (v 0 ⊗ v 2 ⊕ v 0 ⊗ v 1) (v 0 ⊗ (v 2 ⊕ v 1)) (c ∷ l.constant ∷ value_at at l.terms ∷ []) refl

  value-subst_from : (of : ℕ → Linear) (so_far : Linear) (ts : Terms) → value_of at (subst_from of so_far ts) ≡ value_at (λ n. value_of at (of n)) ts +ℚ value_of at so_far
  value-subst_from of so_far [] = solve fraction-ring (v 0) (k (pos 0) ⊕ v 0) (value_of at so_far ∷ []) refl
  value-subst_from of so_far (t ∷ ts) =
      let more = value_at (λ n. value_of at (of n)) ts in
      let x = value_of at (of t.0) in
      value-subst_from of (add so_far (scale t.1 (of t.0))) ts
      ∙ ap (λ w. more +ℚ w) (value_add so_far (scale t.1 (of t.0)) ∙ ap (λ w. value_of at so_far +ℚ w) (value_scale t.1 (of t.0)))
      ∙ solve fraction-ring (v 0 ⊕ (v 1 ⊕ v 2 ⊗ v 3)) (v 2 ⊗ v 3 ⊕ v 0 ⊕ v 1) (more ∷ value_of at so_far ∷ t.1 ∷ x ∷ []) refl

  -- the value of a substitution is the value at the values
  pub value_subst : (of : ℕ → Linear) (l : Linear) → value_of at (subst of l) ≡ value_of (λ n. value_of at (of n)) l
  unfolding subst
  value_subst of l = value-subst_from of (fixed l.constant) l.terms ∙ ap (λ w. value_at (λ n. value_of at (of n)) l.terms +ℚ w) (value_fixed l.constant)
