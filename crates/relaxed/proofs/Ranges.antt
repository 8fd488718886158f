-- The value at a point of the box lies in the range.
use Rattle.std.proofs.Common.{◌≡◌, ℕ, Bool, true, false, cond, List, [], ◌∷◌, refl, sym, ap, subst, ◌∙◌, Option, Some, None}
use Rattle.std.specs.List.{AllByRecursion}
use lib.IntN.{pos}
use Rattle.algebra.proofs.Solve.{v, k, ◌⊕◌, inv, solve, bound_from, le, done}
use Rattle.rational.specs.Fraction.{Fraction, whole, neg_ℚ, IsNotNegative, ◌+ℚ◌, ◌*ℚ◌, ◌≤ℚ◌}
use Rattle.rational.specs.Linear.{Terms, value_at}
use Rattle.rational.proofs.FieldLaws.{fraction-ring}
use Rattle.rational.proofs.Signs.{fraction-order, weaken_positive}
use Rattle.rational.proofs.OrderLaws.{≤ℚ_refl, ≤ℚ-mul, ≤ℚ-mul_negative, ≤ℚ-add, not_negative-iff}
use Rattle.lin.specs.Linear.{Linear, value_of}
use Rattle.relaxed.specs.declared.interval.End.{End}
use Rattle.relaxed.specs.declared.interval.End.TheVariants.{At, Infinite}
use Rattle.relaxed.specs.declared.interval.Interval.{Interval}
use Rattle.relaxed.specs.declared.range.Side.{Side}
use Rattle.relaxed.specs.declared.range.Side.TheVariants.{Least, Greatest}
use Rattle.relaxed.specs.Interval.{IsAbove, IsBelow, Within}
use Rattle.relaxed.specs.Range.{is_positive, end_for, with_pick, picks, sum_from, end_of_picks, range_end}
use Rattle.relaxed.proofs.Tests.{positive-true, positive-false}

-- the side of a bound, for both ranges
abbrev pub Bounds : Side → End → Fraction → Type 0
Bounds Least e x = IsAbove e x
Bounds Greatest e x = IsBelow e x

-- ordered by side
abbrev pub Before : Side → Fraction → Fraction → Type 0
Before Least x y = x ≤ℚ y
Before Greatest x y = y ≤ℚ x

not_negative_of : (c : Fraction) → c ≤ℚ whole (pos 0) → IsNotNegative (neg_ℚ c)
not_negative_of c h = (not_negative-iff (neg_ℚ c)).1 (bound_from fraction-order (k (pos 0)) (inv (v 0)) (c ∷ []) (le (k (pos 1)) (v 0) (k (pos 0)) tt h done) refl)

pub up : (c x y : Fraction) → is_positive c ≡ true → x ≤ℚ y → (c *ℚ x) ≤ℚ (c *ℚ y)
up c x y p h = ≤ℚ-mul c x y (weaken_positive c (positive-true c p)) h

pub down : (c x y : Fraction) → is_positive c ≡ false → x ≤ℚ y → (c *ℚ y) ≤ℚ (c *ℚ x)
down c x y p h = ≤ℚ-mul_negative c x y (not_negative_of c (positive-false c p)) h

-- a product lies beyond the coefficient times its end
product : (side : Side) (c x : Fraction) (i : Interval) (e : Fraction) → Within i x → end_for side c i ≡ At e → Before side (c *ℚ e) (c *ℚ x)
product side c x i e w h = by_side side (is_positive c) refl h
  where
    above : (l : End) → IsAbove l x → l ≡ At e → e ≤ℚ x
    above l a j = subst (λ (m : End). IsAbove m x) j a

    below : (l : End) → IsBelow l x → l ≡ At e → x ≤ℚ e
    below l a j = subst (λ (m : End). IsBelow m x) j a

    abbrev_end : Side → Bool → End
    abbrev_end Least b = cond b i.low i.high
    abbrev_end Greatest b = cond b i.high i.low

    by_side : (side : Side) (b : Bool) → is_positive c ≡ b → end_for side c i ≡ At e → Before side (c *ℚ e) (c *ℚ x)
    by_side Least true p h = up c e x p (above i.low w.low (sym (ap (λ b. cond b i.low i.high) p) ∙ h))
    by_side Least false p h = down c x e p (below i.high w.high (sym (ap (λ b. cond b i.low i.high) p) ∙ h))
    by_side Greatest true p h = up c x e p (below i.high w.high (sym (ap (λ b. cond b i.high i.low) p) ∙ h))
    by_side Greatest false p h = down c e x p (above i.low w.low (sym (ap (λ b. cond b i.high i.low) p) ∙ h))

pub add_before : (side : Side) (a b c d : Fraction) → Before side a b → Before side c d → Before side (a +ℚ c) (b +ℚ d)
add_before Least a b c d h j = ≤ℚ-add a b c d h j
add_before Greatest a b c d h j = ≤ℚ-add b a d c h j

trans_same : (side : Side) (a b c : Fraction) → Before side a b → b ≡ c → Before side a c
trans_same side a b c h e = subst (λ w. Before side a w) e h

module _ (side : Side) (at : ℕ → Fraction) (box : ℕ → Interval) where
  abbrev pub InBox : Terms → Type 0
  InBox ts = AllByRecursion (λ t. Within (box t.0) (at t.0)) ts

  range_from : (ts : Terms) (so_far x : Fraction) (ps : List (Fraction × Fraction)) → InBox ts → Before side so_far x → picks side box ts ≡ Some ps
      → Before side (sum_from so_far ps) (x +ℚ value_at at ts)
  range_from [] so_far x [] h b e = trans_same side so_far x _ b (solve fraction-ring (v 0) (v 0 ⊕ k (pos 0)) (x ∷ []) refl)
  range_from [] so_far x (p ∷ ps) h b e = absurd (cc)
  range_from (t ∷ ts) so_far x ps h b e = by_end (end_for side t.1 (box t.0)) refl (picks side box ts) refl ps e (range_from ts)
    where
      by_end : (l : End) → end_for side t.1 (box t.0) ≡ l → (o : Option (List (Fraction × Fraction))) → picks side box ts ≡ o
          → (ps : List (Fraction × Fraction)) → with_pick t.1 l o ≡ Some ps
          → ((so_far x : Fraction) (ps : List (Fraction × Fraction)) → InBox ts → Before side so_far x → picks side box ts ≡ Some ps → Before side (sum_from so_far ps) (x +ℚ value_at at ts))
          → Before side (sum_from so_far ps) (x +ℚ (t.1 *ℚ at t.0 +ℚ value_at at ts))
      by_end Infinite j o g ps e ih = absurd (cc)
      by_end (At l) j None g ps e ih = absurd (cc)
      by_end (At l) j (Some qs) g ps e ih =
          let one = product side t.1 (at t.0) (box t.0) l h.0 j in
          let q : (t.1, l) ∷ qs ≡ ps = cc in
          subst (λ (ps : List (Fraction × Fraction)). Before side (sum_from so_far ps) (x +ℚ (t.1 *ℚ at t.0 +ℚ value_at at ts))) q
          (trans_same side (sum_from (so_far +ℚ t.1 *ℚ l) qs) _ _
          (ih (so_far +ℚ t.1 *ℚ l) (x +ℚ t.1 *ℚ at t.0) qs h.1 (add_before side so_far x (t.1 *ℚ l) (t.1 *ℚ at t.0) b one) g)
          (solve fraction-ring (v 0 ⊕ v 1 ⊕ v 2) (v 0 ⊕ (v 1 ⊕ v 2)) (x ∷ (t.1 *ℚ at t.0) ∷ value_at at ts ∷ []) refl))

  bounds_at : (s : Side) (e x : Fraction) → Before s e x → Bounds s (At e) x
  bounds_at Least e x h = h
  bounds_at Greatest e x h = h

  bounds_none : (s : Side) (x : Fraction) → Bounds s Infinite x
  bounds_none Least x = tt
  bounds_none Greatest x = tt

  pub itself : (s : Side) (x : Fraction) → Before s x x
  itself Least x = ≤ℚ_refl x
  itself Greatest x = ≤ℚ_refl x

  pub range-sound : (l : Linear) → InBox l.terms → Bounds side (range_end side box l) (value_of at l)
  range-sound l h = by_picks (picks side box l.terms) refl
    where
      by_picks : (o : Option (List (Fraction × Fraction))) → picks side box l.terms ≡ o → Bounds side (end_of_picks l.constant o) (value_of at l)
      by_picks None e = bounds_none side (value_of at l)
      by_picks (Some ps) e = bounds_at side (sum_from l.constant ps) (value_of at l)
          (trans_same side (sum_from l.constant ps) _ _ (range_from l.terms l.constant l.constant ps h (itself side l.constant) e)
          (solve fraction-ring (v 0 ⊕ v 1) (v 1 ⊕ v 0) (l.constant ∷ value_at at l.terms ∷ []) refl))
