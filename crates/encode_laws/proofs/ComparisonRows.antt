-- The literals and the comparisons of an action, at the first and at the last repetition.
use Rattle.std.proofs.Common.{◌≡◌, ℕ, Bool, true, false, not, cond, List, [], ◌∷◌, refl, sym, ap, subst, ◌∙◌}
use lib.IntN.{pos, negsuc}
use Rattle.algebra.proofs.Solve.{v, k, ◌⊕◌, ◌⊗◌, inv, solve_from, eq, done}
use Rattle.rational.specs.Fraction.{whole, neg_ℚ, ◌+ℚ◌, ◌*ℚ◌}
use Rattle.rational.specs.Linear.{Terms}
use Rattle.rational.proofs.FieldLaws.{fraction-ring}
use Rattle.lin.specs.Normal.{is_zero}
use Rattle.lin.specs.Linear.{Linear, value_of, fixed, var, add, scale, subst as substituted}
use Rattle.lin.specs.declared.comparison.Cmp.{Cmp}
use Rattle.task_core.specs.State.{State, ComparesToZero}
use Rattle.task_core.specs.Step.{LiteralsHold, ComparisonsHold}
use Rattle.task_core.specs.Growth.{change_of}
use Rattle.encode_laws.specs.Rows.{Assignment, Literal, true_at, row_at, Item, needs, MeetsAll}
use Rattle.encode_laws.specs.Operations.{at_last, at_last_ops}
use Rattle.encode_laws.specs.Symbolic.{Symbolic, compared_rows, literal_rows, comparison_rows, last_rows, signed_literal}
use Rattle.lin.proofs.ValueLaws.{value_add, value_scale, value_var, value_fixed}
use Rattle.lin.proofs.ValueLaws.{is_zero-true}
use Rattle.encode_laws.proofs.RowLaws.{true_at-opposite, row-down, row-up, meets-left, meets-right, meets-append, cmp-down, cmp-up}
use Rattle.encode_laws.proofs.SetRows.{subst-agree}

-- by the assignment the symbolic state is the state
pub record Agrees (pt : Assignment) (y : Symbolic) (s : State) : Type 0 where
  pub truth : (p : ℕ) → true_at pt (y.truth p) ≡ s.truth p
  pub value : (f : ℕ) → value_of pt.value (y.value f) ≡ s.value f

not_true : (b : Bool) → not b ≡ true → b ≡ false
not_true true h = absurd (cc)
not_true false h = refl

module _ (pt : Assignment) (front : List Literal) (y : Symbolic) (s : State) (agree : Agrees pt y s) where
  -- ---- literals
  lit_down : (b : Bool) (p : ℕ) → true_at pt (signed_literal b (y.truth p)) ≡ true → s.truth p ≡ b
  lit_down true p h = sym (agree.truth p) ∙ h
  lit_down false p h = sym (agree.truth p) ∙ not_true (true_at pt (y.truth p)) (sym (true_at-opposite pt (y.truth p)) ∙ h)

  lit_up : (b : Bool) (p : ℕ) → s.truth p ≡ b → true_at pt (signed_literal b (y.truth p)) ≡ true
  lit_up true p h = agree.truth p ∙ h
  lit_up false p h = true_at-opposite pt (y.truth p) ∙ ap not (agree.truth p ∙ h)

  pub lits-down : (lits : List (ℕ × Bool)) → row_at pt front ≡ false → MeetsAll pt (literal_rows front y lits) → LiteralsHold s lits
  lits-down [] f h = tt
  lits-down (l ∷ ls) f h = (lit_down l.1 l.0 (row-down pt front (signed_literal l.1 (y.truth l.0)) f h.0), lits-down ls f h.1)

  pub lits-up : (lits : List (ℕ × Bool)) → (row_at pt front ≡ false → LiteralsHold s lits) → MeetsAll pt (literal_rows front y lits)
  lits-up [] h = tt
  lits-up (l ∷ ls) h = (row-up pt front (signed_literal l.1 (y.truth l.0)) (λ f. lit_up l.1 l.0 (h f).0), lits-up ls (λ f. (h f).1))

  -- ---- comparisons at the first repetition
  pub cmps-down : (cmps : List (Linear × Cmp)) → row_at pt front ≡ false → MeetsAll pt (comparison_rows front y cmps) → ComparisonsHold s cmps
  cmps-down [] f h = tt
  cmps-down (c ∷ cs) f h = (
    subst (ComparesToZero c.1) (subst-agree pt y s agree.value c.0) (cmp-down pt front c.1 (substituted y.value c.0) f (meets-left pt (compared_rows front c.1 (substituted y.value c.0)) (comparison_rows front y cs) h.1)),
    cmps-down cs f (meets-right pt (compared_rows front c.1 (substituted y.value c.0)) (comparison_rows front y cs) h.1),
  )

  pub cmps-up : (cmps : List (Linear × Cmp)) → (row_at pt front ≡ false → ComparisonsHold s cmps) → MeetsAll pt (comparison_rows front y cmps)
  cmps-up [] h = tt
  cmps-up (c ∷ cs) h = (
    tt,
    meets-append pt (compared_rows front c.1 (substituted y.value c.0)) (comparison_rows front y cs)
        (cmp-up pt front c.1 (substituted y.value c.0) (λ f. subst (ComparesToZero c.1) (sym (subst-agree pt y s agree.value c.0)) (h f).0))
        (cmps-up cs (λ f. (h f).1)),
  )

  -- ---- comparisons at the last repetition, where the count is m + 1 and u is the state after m times
  module _ (incs : Terms) (m : ℕ) (u : State) (grows : (l : Linear) → value_of u.value l ≡ value_of s.value l +ℚ whole (pos m) *ℚ change_of incs l.terms) where
    rolled : Linear → Linear
    rolled l = at_last (change_of incs l.terms) y.next (substituted y.value l)

    rolled-value : pt.value y.next ≡ whole (pos m) +ℚ whole (pos 1) → (l : Linear) → value_of pt.value (at_last (change_of incs l.terms) y.next (substituted y.value l)) ≡ value_of u.value l
    rolled-value e l =
        let now = substituted y.value l in
        let d = change_of incs l.terms in
        let a : value_of pt.value (add now (scale d (var y.next))) ≡ value_of s.value l +ℚ d *ℚ pt.value y.next =
        value_add pt.value now (scale d (var y.next)) ∙ ap (λ w. w +ℚ value_of pt.value (scale d (var y.next))) (subst-agree pt y s agree.value l)
        ∙ ap (λ w. value_of s.value l +ℚ w) (value_scale pt.value d (var y.next) ∙ ap (λ w. d *ℚ w) (value_var pt.value y.next)) in
        let b : value_of pt.value (fixed (neg_ℚ d)) ≡ neg_ℚ d = value_fixed pt.value (neg_ℚ d) in
        value_add pt.value (add now (scale d (var y.next))) (fixed (neg_ℚ d))
        ∙ solve_from fraction-ring (v 0 ⊕ v 1) (v 2) (value_of pt.value (add now (scale d (var y.next))) ∷ value_of pt.value (fixed (neg_ℚ d)) ∷ value_of u.value l ∷ value_of s.value l ∷ d ∷ pt.value y.next ∷ whole (pos m) ∷ [])
        (eq (k (pos 1)) (v 0) (v 3 ⊕ v 4 ⊗ v 5) a (eq (k (pos 1)) (v 1) (inv (v 4)) b (eq (v 4) (v 5) (v 6 ⊕ k (pos 1)) e (eq (k (negsuc 0)) (v 2) (v 3 ⊕ v 6 ⊗ v 4) (grows l) done)))) refl

    unchanged : (l : Linear) → is_zero (change_of incs l.terms) ≡ true → value_of u.value l ≡ value_of s.value l
    unchanged l z = grows l ∙ solve_from fraction-ring (v 0 ⊕ v 1 ⊗ v 2) (v 0) (value_of s.value l ∷ whole (pos m) ∷ change_of incs l.terms ∷ []) (eq (v 1) (v 2) (k (pos 0)) (is_zero-true _ z) done) refl

    pub rolled-down : pt.value y.next ≡ whole (pos m) +ℚ whole (pos 1) → (cmps : List (Linear × Cmp)) → row_at pt front ≡ false → ComparisonsHold s cmps → MeetsAll pt (last_rows front incs y cmps) → ComparisonsHold u cmps
    rolled-down e [] f j h = tt
    rolled-down e (c ∷ cs) f j h = (one (is_zero (change_of incs c.0.terms)) refl (meets-left pt rows (last_rows front incs y cs) h.1), rolled-down e cs f j.1 (meets-right pt rows (last_rows front incs y cs) h.1))
      where
        rows : List Item
        rows = cond (is_zero (change_of incs c.0.terms)) [] (needs (at_last_ops (change_of incs c.0.terms) y.next (substituted y.value c.0)) ∷ compared_rows front c.1 (at_last (change_of incs c.0.terms) y.next (substituted y.value c.0)))

        one : (z : Bool) → is_zero (change_of incs c.0.terms) ≡ z → MeetsAll pt (cond z [] (needs (at_last_ops (change_of incs c.0.terms) y.next (substituted y.value c.0)) ∷ compared_rows front c.1 (at_last (change_of incs c.0.terms) y.next (substituted y.value c.0)))) → ComparesToZero c.1 (value_of u.value c.0)
        one true z g = subst (ComparesToZero c.1) (sym (unchanged c.0 z)) j.0
        one false z g = subst (ComparesToZero c.1) (rolled-value e c.0) (cmp-down pt front c.1 (at_last (change_of incs c.0.terms) y.next (substituted y.value c.0)) f g.1)

    pub rolled-up : (cmps : List (Linear × Cmp)) → (row_at pt front ≡ false → pt.value y.next ≡ whole (pos m) +ℚ whole (pos 1)) → (row_at pt front ≡ false → ComparisonsHold u cmps) → MeetsAll pt (last_rows front incs y cmps)
    rolled-up [] e h = tt
    rolled-up (c ∷ cs) e h = (tt, meets-append pt rows (last_rows front incs y cs) (one (is_zero (change_of incs c.0.terms))) (rolled-up cs e (λ f. (h f).1)))
      where
        rows : List Item
        rows = cond (is_zero (change_of incs c.0.terms)) [] (needs (at_last_ops (change_of incs c.0.terms) y.next (substituted y.value c.0)) ∷ compared_rows front c.1 (at_last (change_of incs c.0.terms) y.next (substituted y.value c.0)))

        one : (z : Bool) → MeetsAll pt (cond z [] (needs (at_last_ops (change_of incs c.0.terms) y.next (substituted y.value c.0)) ∷ compared_rows front c.1 (at_last (change_of incs c.0.terms) y.next (substituted y.value c.0))))
        one true = tt
        one false = (tt, cmp-up pt front c.1 (at_last (change_of incs c.0.terms) y.next (substituted y.value c.0)) (λ f. subst (ComparesToZero c.1) (sym (rolled-value (e f) c.0)) (h f).0))
