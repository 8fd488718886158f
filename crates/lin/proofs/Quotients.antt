-- What `div` answers: the multiple by the inverse, by divisions.
use Rattle.std.proofs.Common.{◌≡◌, ◌≤◌, ℕ, suc, ◌+◌, true, List, [], ◌∷◌, ◌++◌, map, length, drop, refl, sym, ap, ap₂, subst, ◌∙◌, append_assoc}
use Rattle.std.proofs.lemmas.List.{append-nil, drop_all}
use Rattle.rational.specs.Fraction.{Fraction, ◌*ℚ◌, inv_ℚ}
use Rattle.rational.specs.Linear.{Terms}
use Rattle.frac128.specs.Operations.{Fits, Passes}
use Rattle.frac128.specs.declared.operations.Wide.{Wide}
use Rattle.frac128.specs.declared.operations.Op.TheVariants.{Div}
use Rattle.lin.specs.Normal.{is_normal_from, IsNormal, put_first, with_term, collected}
use Rattle.lin.specs.NormalLaws.{normal-put_first, normal-lower, up}
use Rattle.lin.specs.Linear.{Linear, times, scale}
use Rattle.lin.specs.Code.{same_linear}
use Rattle.lin.specs.Operations.{dividing, AllFit, IsFirstPassing}
use Rattle.lin.specs.Made.{div_ops}
use Rattle.lin.proofs.Leading.{IsLeft, left-start, left-fits, left-all_fit, left-none, left-passes, left-first}
use Rattle.lin.proofs.Merging.{normal_parts, with_term-front}
use Rattle.lin.proofs.MergeSteps.{IsNext, next, put-append}
use Rattle.rational.proofs.FieldLaws.{mul_comm_q}
use Rattle.lin.proofs.Multiples.{kept, kept-collected}

abbrev pub quotient_ops : Fraction → Terms → List Wide
quotient_ops c ts = map (λ t. dividing t.1 c) ts

-- ---- the loop
pub record IsDividing (c : Fraction) (ts out : Terms) (i : ℕ) : Type 0 where
  pub made : kept (inv_ℚ c) ts ≡ out ++ kept (inv_ℚ c) (drop i ts)
  pub left : IsLeft (quotient_ops c (drop i ts)) (quotient_ops c ts)

pub dividing-start : (c : Fraction) (ts out : Terms) → out ≡ [] → IsDividing c ts out 0
dividing-start c ts out e = record { made = ap (λ (us : Terms). us ++ kept (inv_ℚ c) ts) (sym e); left = left-start (quotient_ops c ts) }

module _ (c : Fraction) (ts out : Terms) (i : ℕ) (t : ℕ × Fraction) (n : IsNext ts i t) (h : IsDividing c ts out i) where
  op-next : IsLeft (dividing t.1 c ∷ quotient_ops c (drop (i + 1) ts)) (quotient_ops c ts)
  op-next = let P : Terms → Type 0 = λ us. IsLeft (quotient_ops c us) (quotient_ops c ts) in subst P (next ts i t n) h.left

  pub dividing-next : (more : Terms) (x : Fraction) → Fits Div t.1 c → x ≡ t.1 *ℚ inv_ℚ c → more ≡ out ++ put_first (t.0, x) [] → IsDividing c ts more (i + 1)
  dividing-next more x f g e = record {
    made = h.made ∙ ap (λ (us : Terms). out ++ kept (inv_ℚ c) us) (next ts i t n)
        ∙ ap (λ (y : Fraction). out ++ put_first (t.0, y) (kept (inv_ℚ c) (drop (i + 1) ts))) (sym (g ∙ mul_comm_q t.1 (inv_ℚ c)))
        ∙ ap (λ (us : Terms). out ++ us) (put-append (t.0, x) (kept (inv_ℚ c) (drop (i + 1) ts)))
        ∙ sym (append_assoc out (put_first (t.0, x) []) (kept (inv_ℚ c) (drop (i + 1) ts))) ∙ ap (λ (us : Terms). us ++ kept (inv_ℚ c) (drop (i + 1) ts)) (sym e);
    left = left-fits (dividing t.1 c) _ (quotient_ops c ts) op-next f;
  }

  pub dividing-passes : (w : Wide) → Passes Div t.1 c → w ≡ dividing t.1 c → IsFirstPassing w (quotient_ops c ts)
  dividing-passes w p e = let P : Wide → Type 0 = λ o. IsFirstPassing o (quotient_ops c ts) in subst P (sym e) (left-passes (dividing t.1 c) _ (quotient_ops c ts) op-next p)

pub dividing-done : (c : Fraction) (ts out : Terms) (i : ℕ) → IsNormal ts → length ts ≤ i → IsDividing c ts out i → AllFit (quotient_ops c ts) × (out ≡ collected (times (inv_ℚ c) ts))
dividing-done c ts out i p l h =
    let e = drop_all i ts l in
    let P : Terms → Type 0 = λ us. IsLeft (quotient_ops c us) (quotient_ops c ts) in (
      left-none (quotient_ops c ts) (subst P e h.left),
      sym (sym (kept-collected 0 (inv_ℚ c) ts p) ∙ h.made ∙ ap (λ (us : Terms). out ++ kept (inv_ℚ c) us) e ∙ append-nil out),
    )

-- ---- the call
module _ (c : Fraction) (l : Linear) (ts : Terms) (a : Fraction) (e : ts ≡ l.terms) (f : a ≡ l.constant) where
  all_left : IsLeft (quotient_ops c ts ++ dividing a c ∷ []) (div_ops c l)
  all_left =
      let P : List Wide → Type 0 = λ ops. IsLeft ops (div_ops c l) in
      subst P (ap₂ (λ (us : Terms) (x : Fraction). quotient_ops c us ++ dividing x c ∷ []) (sym e) (sym f)) (left-start (div_ops c l))

  pub div-first : (w : Wide) → IsFirstPassing w (quotient_ops c ts) → IsFirstPassing w (div_ops c l)
  div-first w h = left-first w (quotient_ops c ts) (dividing a c ∷ []) (div_ops c l) all_left h

  pub div-last : (w : Wide) → AllFit (quotient_ops c ts) → Passes Div a c → w ≡ dividing a c → IsFirstPassing w (div_ops c l)
  div-last w h p g =
      let P : Wide → Type 0 = λ o. IsFirstPassing o (div_ops c l) in
      subst P (sym g) (left-passes (dividing a c) [] (div_ops c l) (left-all_fit (quotient_ops c ts) (dividing a c ∷ []) (div_ops c l) all_left h) p)

  pub div-done : (r : Linear) (us : Terms) (b : Fraction) → AllFit (quotient_ops c ts) → us ≡ collected (times (inv_ℚ c) ts) → Fits Div a c → b ≡ a *ℚ inv_ℚ c
      → r.terms ≡ us → r.constant ≡ b → AllFit (div_ops c l) × (r ≡ scale (inv_ℚ c) l)
  unfolding scale
  div-done r us b h g d k p q = (
    left-none (div_ops c l) (left-fits (dividing a c) [] (div_ops c l) (left-all_fit (quotient_ops c ts) (dividing a c ∷ []) (div_ops c l) all_left h) d),
    same_linear r (scale (inv_ℚ c) l) (p ∙ g ∙ ap (λ (ws : Terms). collected (times (inv_ℚ c) ws)) e) (q ∙ k ∙ mul_comm_q a (inv_ℚ c) ∙ ap (λ (x : Fraction). inv_ℚ c *ℚ x) f),
  )
