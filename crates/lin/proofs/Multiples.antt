-- What a multiple of normal terms is, as the code comes to them, and what `scale` answers.
use Rattle.std.proofs.Common.{◌≡◌, ◌≤◌, ℕ, suc, ◌+◌, true, List, [], ◌∷◌, ◌++◌, map, length, drop, refl, sym, ap, ap₂, subst, ◌∙◌, append_assoc}
use Rattle.std.proofs.lemmas.List.{append-nil, drop_all}
use Rattle.rational.specs.Fraction.{Fraction, ◌*ℚ◌}
use Rattle.rational.specs.Linear.{Terms}
use Rattle.frac128.specs.Operations.{Fits, Passes}
use Rattle.frac128.specs.declared.operations.Wide.{Wide}
use Rattle.frac128.specs.declared.operations.Op.TheVariants.{Mul}
use Rattle.lin.specs.Normal.{is_normal_from, IsNormal, put_first, with_term, collected}
use Rattle.lin.specs.NormalLaws.{normal-put_first, normal-lower, up}
use Rattle.lin.specs.Linear.{Linear, times, scale}
use Rattle.lin.specs.Code.{same_linear}
use Rattle.lin.specs.Operations.{multiplying, AllFit, IsFirstPassing}
use Rattle.lin.specs.Made.{scale_ops}
use Rattle.lin.proofs.Leading.{IsLeft, left-start, left-fits, left-all_fit, left-none, left-passes, left-first}
use Rattle.lin.proofs.Merging.{normal_parts, with_term-front}
use Rattle.lin.proofs.MergeSteps.{IsNext, next, put-append}

-- the multiples of the terms, but those that are 0
abbrev pub kept : Fraction → Terms → Terms
kept c [] = []
kept c (t ∷ ts) = put_first (t.0, c *ℚ t.1) (kept c ts)

normal-kept : (least : ℕ) (c : Fraction) (ts : Terms) → is_normal_from least ts ≡ true → is_normal_from least (kept c ts) ≡ true
normal-kept least c [] h = refl
normal-kept least c (t ∷ ts) h =
    let p = normal_parts least t ts h in
    let r = normal-kept (suc t.0) c ts p.rest in
    normal-put_first least (t.0, c *ℚ t.1) (kept c ts) p.low r (normal-lower least (suc t.0) (kept c ts) (up least t.0 p.low) r)

pub kept-collected : (least : ℕ) (c : Fraction) (ts : Terms) → is_normal_from least ts ≡ true → kept c ts ≡ collected (times c ts)
kept-collected least c [] h = refl
kept-collected least c (t ∷ ts) h =
    let p = normal_parts least t ts h in
    sym (ap (λ (us : Terms). with_term (t.0, c *ℚ t.1) us) (sym (kept-collected (suc t.0) c ts p.rest)) ∙ with_term-front (t.0, c *ℚ t.1) (kept c ts) (normal-kept (suc t.0) c ts p.rest))

abbrev pub times_ops : Fraction → Terms → List Wide
times_ops c ts = map (λ t. multiplying c t.1) ts

-- ---- the loop
pub record IsScaling (c : Fraction) (ts out : Terms) (i : ℕ) : Type 0 where
  pub made : kept c ts ≡ out ++ kept c (drop i ts)
  pub left : IsLeft (times_ops c (drop i ts)) (times_ops c ts)

pub scaling-start : (c : Fraction) (ts out : Terms) → out ≡ [] → IsScaling c ts out 0
scaling-start c ts out e = record { made = ap (λ (us : Terms). us ++ kept c ts) (sym e); left = left-start (times_ops c ts) }

module _ (c : Fraction) (ts out : Terms) (i : ℕ) (t : ℕ × Fraction) (n : IsNext ts i t) (h : IsScaling c ts out i) where
  op-next : IsLeft (multiplying c t.1 ∷ times_ops c (drop (i + 1) ts)) (times_ops c ts)
  op-next = let P : Terms → Type 0 = λ us. IsLeft (times_ops c us) (times_ops c ts) in subst P (next ts i t n) h.left

  pub scaling-next : (more : Terms) (x : Fraction) → Fits Mul c t.1 → x ≡ c *ℚ t.1 → more ≡ out ++ put_first (t.0, x) [] → IsScaling c ts more (i + 1)
  scaling-next more x f g e = record {
    made = h.made ∙ ap (λ (us : Terms). out ++ kept c us) (next ts i t n)
        ∙ ap (λ (y : Fraction). out ++ put_first (t.0, y) (kept c (drop (i + 1) ts))) (sym g)
        ∙ ap (λ (us : Terms). out ++ us) (put-append (t.0, x) (kept c (drop (i + 1) ts)))
        ∙ sym (append_assoc out (put_first (t.0, x) []) (kept c (drop (i + 1) ts))) ∙ ap (λ (us : Terms). us ++ kept c (drop (i + 1) ts)) (sym e);
    left = left-fits (multiplying c t.1) _ (times_ops c ts) op-next f;
  }

  pub scaling-passes : (w : Wide) → Passes Mul c t.1 → w ≡ multiplying c t.1 → IsFirstPassing w (times_ops c ts)
  scaling-passes w p e = let P : Wide → Type 0 = λ o. IsFirstPassing o (times_ops c ts) in subst P (sym e) (left-passes (multiplying c t.1) _ (times_ops c ts) op-next p)

pub scaling-done : (c : Fraction) (ts out : Terms) (i : ℕ) → IsNormal ts → length ts ≤ i → IsScaling c ts out i → AllFit (times_ops c ts) × (out ≡ collected (times c ts))
scaling-done c ts out i p l h =
    let e = drop_all i ts l in
    let P : Terms → Type 0 = λ us. IsLeft (times_ops c us) (times_ops c ts) in (
      left-none (times_ops c ts) (subst P e h.left),
      sym (sym (kept-collected 0 c ts p) ∙ h.made ∙ ap (λ (us : Terms). out ++ kept c us) e ∙ append-nil out),
    )

-- ---- the call
module _ (c : Fraction) (l : Linear) (ts : Terms) (a : Fraction) (e : ts ≡ l.terms) (f : a ≡ l.constant) where
  all_left : IsLeft (times_ops c ts ++ multiplying c a ∷ []) (scale_ops c l)
  all_left =
      let P : List Wide → Type 0 = λ ops. IsLeft ops (scale_ops c l) in
      subst P (ap₂ (λ (us : Terms) (x : Fraction). times_ops c us ++ multiplying c x ∷ []) (sym e) (sym f)) (left-start (scale_ops c l))

  pub scale-first : (w : Wide) → IsFirstPassing w (times_ops c ts) → IsFirstPassing w (scale_ops c l)
  scale-first w h = left-first w (times_ops c ts) (multiplying c a ∷ []) (scale_ops c l) all_left h

  pub scale-last : (w : Wide) → AllFit (times_ops c ts) → Passes Mul c a → w ≡ multiplying c a → IsFirstPassing w (scale_ops c l)
  scale-last w h p g =
      let P : Wide → Type 0 = λ o. IsFirstPassing o (scale_ops c l) in
      subst P (sym g) (left-passes (multiplying c a) [] (scale_ops c l) (left-all_fit (times_ops c ts) (multiplying c a ∷ []) (scale_ops c l) all_left h) p)

  pub scale-done : (r : Linear) (us : Terms) (b : Fraction) → AllFit (times_ops c ts) → us ≡ collected (times c ts) → Fits Mul c a → b ≡ c *ℚ a
      → r.terms ≡ us → r.constant ≡ b → AllFit (scale_ops c l) × (r ≡ scale c l)
  unfolding scale
  scale-done r us b h g d k p q = (
    left-none (scale_ops c l) (left-fits (multiplying c a) [] (scale_ops c l) (left-all_fit (times_ops c ts) (multiplying c a ∷ []) (scale_ops c l) all_left h) d),
    same_linear r (scale c l) (p ∙ g ∙ ap (λ (ws : Terms). collected (times c ws)) e) (q ∙ k ∙ ap (λ (x : Fraction). c *ℚ x) f),
  )
