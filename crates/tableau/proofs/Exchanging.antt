-- The shape of the rows after two places were exchanged.
use Rattle.std.proofs.Common.{cond, Bool, true, false, ◌≡◌, ◌≢◌, ◌⊎◌, inl, inr, ℕ, ◌<◌, List, length, set, get_or, sym, ap, subst, ◌∙◌, arith}
use Rattle.std.proofs.lemmas.List.{get_or-set_same, get_or-set_other, length-set}
use Rattle.std.proofs.lemmas.Bool.{cases_eq}
use Rattle.rational.specs.Fraction.{Fraction}
use Rattle.tableau.specs.inside.Exchange.{IsExchanged}

-- r is basic no more, and e is
abbrev pub flags : List Bool → ℕ → ℕ → List Bool
flags basic r e = set (set basic r false) e true

module _ (basic : List Bool) (r e : ℕ) (lr : r < length basic) (le : e < length basic) (d : r ≢ e) where
  pub length-flags : length (flags basic r e) ≡ length basic
  length-flags = length-set (set basic r false) e true ∙ length-set basic r false

  pub flag-e : get_or (flags basic r e) e false ≡ true
  flag-e = get_or-set_same (set basic r false) e true false (omega (arith, length-set basic r false))

  pub flag-r : get_or (flags basic r e) r false ≡ false
  flag-r = get_or-set_other (set basic r false) e r true false d ∙ get_or-set_same basic r false false lr

  pub flag-other : (i : ℕ) → i ≢ r → i ≢ e → get_or (flags basic r e) i false ≡ get_or basic i false
  flag-other i dr de = get_or-set_other (set basic r false) e i true false de ∙ get_or-set_other basic r i false false dr

  module _ {V : Type 0} (items : V → List Fraction) (before : List V) (x : V) (after : List V) (h : IsExchanged before x r e after) (many : length before ≡ length basic) where
    pub still_shaped : get_or basic e false ≡ false → length (items x) ≡ length basic
        → ((i : ℕ) (y : V) → i < length before → length (items (get_or before i y)) ≡ cond (get_or basic i false) (length basic) 0)
        → (i : ℕ) (y : V) → i < length after → length (items (get_or after i y)) ≡ cond (get_or (flags basic r e) i false) (length (flags basic r e)) 0
    still_shaped out lx s i y l = by_place (cases_eq i e) (cases_eq i r)
      where
        by_place : (i ≡ e) ⊎ (i ≡ e → ⊥) → (i ≡ r) ⊎ (i ≡ r → ⊥) → length (items (get_or after i y)) ≡ cond (get_or (flags basic r e) i false) (length (flags basic r e)) 0
        by_place (inl p) q =
            let P : ℕ → Type 0 = λ k. length (items (get_or after k y)) ≡ cond (get_or (flags basic r e) k false) (length (flags basic r e)) 0 in
            subst P (sym p) (ap (λ (w : V). length (items w)) (h.at_e y) ∙ lx ∙ sym length-flags ∙ sym (ap (λ (b : Bool). cond b (length (flags basic r e)) 0) flag-e))
        by_place (inr n) (inl q) =
            let P : ℕ → Type 0 = λ k. length (items (get_or after k y)) ≡ cond (get_or (flags basic r e) k false) (length (flags basic r e)) 0 in
            subst P (sym q) (ap (λ (w : V). length (items w)) (h.at_r y) ∙ s e y (omega (arith, many)) ∙ ap (λ (b : Bool). cond b (length basic) 0) out
            ∙ sym (ap (λ (b : Bool). cond b (length (flags basic r e)) 0) flag-r))
        by_place (inr n) (inr m) =
            ap (λ (w : V). length (items w)) (h.others i y m n) ∙ s i y (omega (arith, h.long)) ∙ ap (λ (k : ℕ). cond (get_or basic i false) k 0) (sym length-flags)
            ∙ sym (ap (λ (b : Bool). cond b (length (flags basic r e)) 0) (flag-other i m n))
