-- The value of each function after an occurrence.
use Rattle.std.proofs.Common.{◌≡◌, ℕ, suc, Bool, true, false, not, cond, ◌||◌, List, [], ◌∷◌, ◌++◌, Option, Some, None, refl, sym, ap, subst, ◌∙◌, nat_eq}
use mathlib.Core.Path.{fun_ext}
use Rattle.std.proofs.lemmas.Bool.{eqb-true}
use Rattle.std.specs.Prelude.{⊤}
use lib.IntN.{pos, negsuc}
use Rattle.algebra.proofs.Solve.{v, k, ◌⊕◌, ◌⊗◌, solve, solve_from, bound_from, eq, le, done}
use Rattle.rational.specs.Fraction.{Fraction, whole, ◌+ℚ◌, ◌*ℚ◌, ◌≤ℚ◌}
use Rattle.rational.specs.Linear.{Terms, coefficient_of}
use Rattle.rational.proofs.FieldLaws.{fraction-ring}
use Rattle.rational.proofs.Signs.{fraction-order}
use Rattle.rational.proofs.OrderLaws.{≤ℚ_antisym, ≤ℚ-same}
use Rattle.lin.specs.Linear.{Linear, value_of, var, add, scale, subst as substituted}
use Rattle.lin.specs.Negative.{negative}
use Rattle.task_core.specs.State.{State}
use Rattle.task_core.specs.Step.{set_of}
use Rattle.encode_laws.specs.Rows.{Assignment, Literal, lit, at_most, opposite, true_at, row_at, MeetsAll}
use Rattle.encode_laws.specs.Operations.{minus}
use Rattle.encode_laws.specs.Symbolic.{Symbolic, set_rows, grown, symbolic_value}
use Rattle.lin.proofs.ValueLaws.{value_add, value_scale, value_var, value_subst}
use Rattle.encode_laws.proofs.RowLaws.{true_at-opposite, row-down, row-up, at_most-true, true-at_most}

-- ---- increments
pub value-grown : (at : ℕ → Fraction) (c : ℕ) (qs : Terms) (f : ℕ) (l : Linear) → value_of at (grown c qs f l) ≡ value_of at l +ℚ coefficient_of f qs *ℚ at c
value-grown at c [] f l = solve fraction-ring (v 0) (v 0 ⊕ k (pos 0) ⊗ v 1) (value_of at l ∷ at c ∷ []) refl
value-grown at c (q ∷ qs) f l = by_test (nat_eq q.0 f) (value-grown at c qs f (add l (scale q.1 (var c)))) (value-grown at c qs f l)
  where
    more : Linear
    more = add l (scale q.1 (var c))

    by_test : (b : Bool) → value_of at (grown c qs f more) ≡ value_of at more +ℚ coefficient_of f qs *ℚ at c → value_of at (grown c qs f l) ≡ value_of at l +ℚ coefficient_of f qs *ℚ at c
        → value_of at (cond b (grown c qs f more) (grown c qs f l)) ≡ value_of at l +ℚ (cond b q.1 (whole (pos 0)) +ℚ coefficient_of f qs) *ℚ at c
    by_test true h j =
        h ∙ ap (λ w. w +ℚ coefficient_of f qs *ℚ at c) (value_add at l (scale q.1 (var c)) ∙ ap (λ w. value_of at l +ℚ w) (value_scale at q.1 (var c) ∙ ap (λ w. q.1 *ℚ w) (value_var at c)))
        ∙ solve fraction-ring (v 0 ⊕ v 1 ⊗ v 2 ⊕ v 3 ⊗ v 2) (v 0 ⊕ (v 1 ⊕ v 3) ⊗ v 2) (value_of at l ∷ q.1 ∷ at c ∷ coefficient_of f qs ∷ []) refl
    by_test false h j = j ∙ solve fraction-ring (v 0 ⊕ v 1 ⊗ v 2) (v 0 ⊕ (k (pos 0) ⊕ v 1) ⊗ v 2) (value_of at l ∷ coefficient_of f qs ∷ at c ∷ []) refl

-- ---- fronts
module _ (pt : Assignment) (on : Literal) where
  -- behind `not on`, where on is true; behind `on`, where it is false
  pub front-on : true_at pt on ≡ true → row_at pt (opposite on ∷ []) ≡ false
  front-on e = ap (λ b. b || false) (true_at-opposite pt on ∙ ap not e)

  pub front-off : true_at pt on ≡ false → row_at pt (on ∷ []) ≡ false
  front-off e = ap (λ b. b || false) e

  pub on-front : row_at pt (opposite on ∷ []) ≡ false → true_at pt on ≡ true
  on-front h = by_truth (true_at pt on) (sym (ap (λ b. b || false) (true_at-opposite pt on)) ∙ h)
    where
      by_truth : (b : Bool) → (not b || false) ≡ false → b ≡ true
      by_truth true h = refl
      by_truth false h = absurd (cc)

  pub off-front : row_at pt (on ∷ []) ≡ false → true_at pt on ≡ false
  off-front h = by_truth (true_at pt on) h
    where
      by_truth : (b : Bool) → (b || false) ≡ false → b ≡ false
      by_truth true h = absurd (cc)
      by_truth false h = refl

-- the value of a function behind an occurrence: one that gets a new value has it where the occurrence happens
abbrev pub value_behind : State → Bool → ℕ → Fraction → Option Linear → Fraction
value_behind s o f more None = s.value f +ℚ more
value_behind s o f more (Some l) = cond o (value_of s.value l) (s.value f)

-- ---- two expressions whose differences are at most 0 are equal
value-minus : (at : ℕ → Fraction) (l m : Linear) → value_of at (minus l m) ≡ value_of at l +ℚ whole (negsuc 0) *ℚ value_of at m
value-minus at l m = value_add at l (negative m) ∙ ap (λ w. value_of at l +ℚ w) (value_scale at (whole (negsuc 0)) m)

module _ (pt : Assignment) (front : List Literal) (l m : Linear) where
  pair-down : row_at pt front ≡ false → row_at pt (front ++ lit true (at_most (minus l m)) ∷ []) ≡ true → row_at pt (front ++ lit true (at_most (minus m l)) ∷ []) ≡ true
      → value_of pt.value l ≡ value_of pt.value m
  pair-down f h j =
      let x = value_of pt.value l in
      let z = value_of pt.value m in
      let a : (x +ℚ whole (negsuc 0) *ℚ z) ≤ℚ whole (pos 0) = subst (λ w. w ≤ℚ whole (pos 0)) (value-minus pt.value l m) (at_most-true _ _ (row-down pt front (lit true (at_most (minus l m))) f h)) in
      let b : (z +ℚ whole (negsuc 0) *ℚ x) ≤ℚ whole (pos 0) = subst (λ w. w ≤ℚ whole (pos 0)) (value-minus pt.value m l) (at_most-true _ _ (row-down pt front (lit true (at_most (minus m l))) f j)) in
      ≤ℚ_antisym x z (bound_from fraction-order (v 0) (v 1) (x ∷ z ∷ []) (le (k (pos 1)) (v 0 ⊕ k (negsuc 0) ⊗ v 1) (k (pos 0)) tt a done) refl)
      (bound_from fraction-order (v 1) (v 0) (x ∷ z ∷ []) (le (k (pos 1)) (v 1 ⊕ k (negsuc 0) ⊗ v 0) (k (pos 0)) tt b done) refl)

  pair-up : (row_at pt front ≡ false → value_of pt.value l ≡ value_of pt.value m) → row_at pt (front ++ lit true (at_most (minus l m)) ∷ []) ≡ true
  pair-up h = row-up pt front (lit true (at_most (minus l m))) (λ f. true-at_most _ _ (≤ℚ-same _ _
      (value-minus pt.value l m ∙ solve_from fraction-ring (v 0 ⊕ k (negsuc 0) ⊗ v 1) (k (pos 0)) (value_of pt.value l ∷ value_of pt.value m ∷ []) (eq (k (pos 1)) (v 0) (v 1) (h f) done) refl)))

-- the variables of the new values have them: the value that is set where the occurrence is done, else the old one
abbrev pub TellsSets : Assignment → State → Bool → ℕ → List (ℕ × Linear) → Type 0
TellsSets pt s o w [] = ⊤
TellsSets pt s o w (t ∷ ss) = (pt.value w ≡ cond o (value_of s.value t.1) (s.value t.0)) × TellsSets pt s o (suc w) ss

-- an expression over the symbolic state has the value that it has in the state
pub subst-agree : (pt : Assignment) (y : Symbolic) (s : State) → ((f : ℕ) → value_of pt.value (y.value f) ≡ s.value f) → (l : Linear) → value_of pt.value (substituted y.value l) ≡ value_of s.value l
subst-agree pt y s agree l = value_subst pt.value y.value l ∙ ap (λ (w : ℕ → Fraction). value_of w l) (fun_ext agree)

module _ (pt : Assignment) (on : Literal) (y : Symbolic) (s : State) (agree : (f : ℕ) → value_of pt.value (y.value f) ≡ s.value f) where
  pub sets-down : (c : ℕ) (incs : Terms) (w : ℕ) (ss : List (ℕ × Linear)) (f : ℕ) → MeetsAll pt (set_rows on y w ss)
      → value_of pt.value (symbolic_value y.value c incs w ss f) ≡ value_behind s (true_at pt on) f (coefficient_of f incs *ℚ pt.value c) (set_of ss f)
  sets-down c incs w [] f h = value-grown pt.value c incs f (y.value f) ∙ ap (λ x. x +ℚ coefficient_of f incs *ℚ pt.value c) (agree f)
  sets-down c incs w (t ∷ ss) f h = by_test (nat_eq t.0 f) refl (sets-down c incs (suc w) ss f h.1.1.1.1.1.1.1.1.1)
    where
      new : Linear
      new = substituted y.value t.1

      by_on : (o : Bool) → true_at pt on ≡ o → t.0 ≡ f → pt.value w ≡ cond o (value_of s.value t.1) (s.value f)
      by_on true o e = sym (value_var pt.value w) ∙ pair-down pt (opposite on ∷ []) (var w) new (front-on pt on o) h.1.1.0 h.1.1.1.1.0 ∙ subst-agree pt y s agree t.1
      by_on false o e = sym (value_var pt.value w) ∙ pair-down pt (on ∷ []) (var w) (y.value t.0) (front-off pt on o) h.1.1.1.1.1.1.0 h.1.1.1.1.1.1.1.1.0 ∙ agree t.0 ∙ ap s.value e

      by_test : (b : Bool) → nat_eq t.0 f ≡ b → value_of pt.value (symbolic_value y.value c incs (suc w) ss f) ≡ value_behind s (true_at pt on) f (coefficient_of f incs *ℚ pt.value c) (set_of ss f)
          → value_of pt.value (cond b (var w) (symbolic_value y.value c incs (suc w) ss f)) ≡ value_behind s (true_at pt on) f (coefficient_of f incs *ℚ pt.value c) (cond b (Some t.1) (set_of ss f))
      by_test true e j = value_var pt.value w ∙ by_on (true_at pt on) refl (eqb-true t.0 f e)
      by_test false e j = j

  pub sets-up : (w : ℕ) (ss : List (ℕ × Linear)) → TellsSets pt s (true_at pt on) w ss → MeetsAll pt (set_rows on y w ss)
  sets-up w [] h = tt
  sets-up w (t ∷ ss) h = (
    tt,
    (
      tt,
      (
        pair-up pt (opposite on ∷ []) (var w) new to_new,
        (
          tt,
          (
            pair-up pt (opposite on ∷ []) new (var w) (λ f. sym (to_new f)),
            (
              tt,
              (
                pair-up pt (on ∷ []) (var w) (y.value t.0) to_old,
                (tt, (pair-up pt (on ∷ []) (y.value t.0) (var w) (λ f. sym (to_old f)), sets-up (suc w) ss h.1)),
              ),
            ),
          ),
        ),
      ),
    ),
  )
    where
      new : Linear
      new = substituted y.value t.1

      to_new : row_at pt (opposite on ∷ []) ≡ false → value_of pt.value (var w) ≡ value_of pt.value new
      to_new f = value_var pt.value w ∙ h.0 ∙ ap (λ b. cond b (value_of s.value t.1) (s.value t.0)) (on-front pt on f) ∙ sym (subst-agree pt y s agree t.1)

      to_old : row_at pt (on ∷ []) ≡ false → value_of pt.value (var w) ≡ value_of pt.value (y.value t.0)
      to_old f = value_var pt.value w ∙ h.0 ∙ ap (λ b. cond b (value_of s.value t.1) (s.value t.0)) (off-front pt on f) ∙ sym (agree t.0)
