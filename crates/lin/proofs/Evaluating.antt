-- The steps of an evaluation: what is so far, and what is left of the terms.
use Rattle.std.proofs.Common.{◌≡◌, ◌≤◌, ℕ, ◌+◌, List, [], ◌∷◌, length, drop, refl, sym, ap, ap₂, subst as along, ◌∙◌}
use Rattle.std.proofs.lemmas.List.{drop_all}
use lib.IntN.{pos}
use Rattle.algebra.proofs.Solve.{v, k, ◌⊕◌, ◌⊗◌, solve}
use Rattle.rational.specs.Fraction.{Fraction, ◌+ℚ◌, ◌*ℚ◌}
use Rattle.rational.specs.Linear.{Terms, value_at}
use Rattle.rational.proofs.FieldLaws.{fraction-ring}
use Rattle.frac128.specs.Operations.{Fits, Passes}
use Rattle.frac128.specs.declared.operations.Wide.{Wide}
use Rattle.frac128.specs.declared.operations.Op.TheVariants.{Add, Mul}
use Rattle.lin.specs.Linear.{Linear, value_of}
use Rattle.lin.specs.Operations.{adding, multiplying, AllFit, IsFirstPassing}
use Rattle.lin.specs.Made.{value_ops, value_ops_from}
use Rattle.lin.proofs.Leading.{IsLeft, left-start, left-fits, left-none, left-passes}
use Rattle.lin.proofs.MergeSteps.{IsNext, next}

pub record IsEvaluating (at : ℕ → Fraction) (l : Linear) (ts : Terms) (so_far : Fraction) (i : ℕ) : Type 0 where
  pub made : value_at at (drop i ts) +ℚ so_far ≡ value_of at l
  pub left : IsLeft (value_ops_from at so_far (drop i ts)) (value_ops at l)

module _ (at : ℕ → Fraction) (l : Linear) (ts : Terms) where
  pub evaluating-start : (so_far : Fraction) → ts ≡ l.terms → so_far ≡ l.constant → IsEvaluating at l ts so_far 0
  evaluating-start so_far e f = record {
    made = ap₂ (λ (us : Terms) (c : Fraction). value_at at us +ℚ c) e f;
    left = let P : List Wide → Type 0 = λ ops. IsLeft ops (value_ops at l) in
        along P (sym (ap₂ (λ (us : Terms) (c : Fraction). value_ops_from at c us) e f)) (left-start (value_ops at l));
  }

  module _ (so_far : Fraction) (i : ℕ) (t : ℕ × Fraction) (n : IsNext ts i t) (h : IsEvaluating at l ts so_far i) where
    abbrev rest : Terms
    rest = drop (i + 1) ts

    abbrev more : Fraction
    more = so_far +ℚ t.1 *ℚ at t.0

    ops-next : IsLeft (multiplying t.1 (at t.0) ∷ adding so_far (t.1 *ℚ at t.0) ∷ value_ops_from at more rest) (value_ops at l)
    ops-next = let P : Terms → Type 0 = λ us. IsLeft (value_ops_from at so_far us) (value_ops at l) in along P (next ts i t n) h.left

    pub evaluating-mul_passes : (w : Wide) (x : Fraction) → x ≡ at t.0 → Passes Mul t.1 x → w ≡ multiplying t.1 x → IsFirstPassing w (value_ops at l)
    evaluating-mul_passes w x f p e =
        let P : Wide → Type 0 = λ o. IsFirstPassing o (value_ops at l) in
        along P (sym (e ∙ ap (multiplying t.1) f)) (left-passes (multiplying t.1 (at t.0)) _ (value_ops at l) ops-next (along (λ (y : Fraction). Passes Mul t.1 y) f p))

    multiplied : (x : Fraction) → x ≡ at t.0 → Fits Mul t.1 x → IsLeft (adding so_far (t.1 *ℚ at t.0) ∷ value_ops_from at more rest) (value_ops at l)
    multiplied x f g = left-fits (multiplying t.1 (at t.0)) _ (value_ops at l) ops-next (along (λ (y : Fraction). Fits Mul t.1 y) f g)

    pub evaluating-add_passes : (w : Wide) (x y : Fraction) → x ≡ at t.0 → Fits Mul t.1 x → y ≡ t.1 *ℚ x → Passes Add so_far y → w ≡ adding so_far y → IsFirstPassing w (value_ops at l)
    evaluating-add_passes w x y f g d p e =
        let s : y ≡ t.1 *ℚ at t.0 = d ∙ ap (λ (z : Fraction). t.1 *ℚ z) f in
        let P : Wide → Type 0 = λ o. IsFirstPassing o (value_ops at l) in
        along P (sym (e ∙ ap (adding so_far) s)) (left-passes (adding so_far (t.1 *ℚ at t.0)) _ (value_ops at l) (multiplied x f g) (along (λ (z : Fraction). Passes Add so_far z) s p))

    pub evaluating-next : (x y z : Fraction) → x ≡ at t.0 → Fits Mul t.1 x → y ≡ t.1 *ℚ x → Fits Add so_far y → z ≡ so_far +ℚ y → IsEvaluating at l ts z (i + 1)
    evaluating-next x y z f g d p e =
        let s : y ≡ t.1 *ℚ at t.0 = d ∙ ap (λ (u : Fraction). t.1 *ℚ u) f in
        let m : z ≡ more = e ∙ ap (λ (u : Fraction). so_far +ℚ u) s in
        record {
          made = ap (λ (u : Fraction). value_at at rest +ℚ u) m
              ∙ solve fraction-ring (v 0 ⊕ (v 1 ⊕ v 2 ⊗ v 3)) (v 2 ⊗ v 3 ⊕ v 0 ⊕ v 1) (value_at at rest ∷ so_far ∷ t.1 ∷ at t.0 ∷ []) refl
              ∙ sym (ap (λ (us : Terms). value_at at us +ℚ so_far) (next ts i t n)) ∙ h.made;
          left = let P : Fraction → Type 0 = λ u. IsLeft (value_ops_from at u rest) (value_ops at l) in
              along P (sym m) (left-fits (adding so_far (t.1 *ℚ at t.0)) _ (value_ops at l) (multiplied x f g) (along (λ (u : Fraction). Fits Add so_far u) s p));
        }

  pub evaluating-done : (so_far : Fraction) (i : ℕ) → length ts ≤ i → IsEvaluating at l ts so_far i → AllFit (value_ops at l) × (so_far ≡ value_of at l)
  evaluating-done so_far i n h =
      let e = drop_all i ts n in
      let P : Terms → Type 0 = λ us. IsLeft (value_ops_from at so_far us) (value_ops at l) in (
        left-none (value_ops at l) (along P e h.left),
        solve fraction-ring (v 0) (k (pos 0) ⊕ v 0) (so_far ∷ []) refl ∙ ap (λ (us : Terms). value_at at us +ℚ so_far) (sym e) ∙ h.made,
      )
