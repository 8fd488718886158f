-- The order of pairs, by cases on the parts.
use Rattle.std.proofs.Common.{◌≡◌, ◌⊎◌, inl, inr, refl, sym, Option, Some, None, Bool, true, false, IsTrue}
use Rattle.simplex_law.specs.Bounds.{lower_pair, upper_pair, OnLower, OnUpper, BelowLower, AboveUpper}
use Rattle.simplex_law.specs.Config.{IsConsistentAt, lower_or_zero, upper_or_zero}
use Rattle.simplex_law.specs.declared.bound.Bound.{Bound}
use Rattle.rational.specs.Fraction.{◌≤ℚ◌, ◌<ℚ◌}
use Rattle.rational.proofs.OrderLaws.{≤ℚ_refl, at_most_or_above, below_same_or_above, <ℚ_irrefl, <ℚ_trans, <ℚ-not-≥, <ℚ-apart}
use Rattle.simplex_law.specs.Pairs.{◌≤ₚ◌, ◌<ₚ◌}
use Rattle.simplex_law.specs.declared.pair.Pair.{Pair}

pub above_not : (x y : Pair) → y.main <ℚ x.main → ¬ (x <ₚ y)
above_not x y h (inl g) = <ℚ_irrefl x.main (<ℚ_trans x.main y.main x.main g h)
above_not x y h (inr g) = <ℚ-apart y.main x.main h (sym g.0)

pub same_not : (x y : Pair) → x.main ≡ y.main → y.small ≤ℚ x.small → ¬ (x <ₚ y)
same_not x y e h (inl g) = <ℚ-apart x.main y.main g e
same_not x y e h (inr g) = <ℚ-not-≥ x.small y.small g.1 h

-- what isn't below is at least
pub at_least : (x y : Pair) → ¬ (x <ₚ y) → y ≤ₚ x
at_least x y n = by_main (below_same_or_above x.main y.main)
  where
    by_small : x.main ≡ y.main → (y.small ≤ℚ x.small) ⊎ (x.small <ℚ y.small) → y ≤ₚ x
    by_small e (inl h) = inr (sym e, h)
    by_small e (inr h) = absurd (n (inr (e, h)))

    by_main : (x.main <ℚ y.main) ⊎ ((x.main ≡ y.main) ⊎ (y.main <ℚ x.main)) → y ≤ₚ x
    by_main (inl h) = absurd (n (inl h))
    by_main (inr (inl h)) = by_small h (at_most_or_above y.small x.small)
    by_main (inr (inr h)) = inl h

-- ---- bounds
pub on_lower : (o : Option Bound) (x : Pair) → ¬ (BelowLower o x) → OnLower o x
on_lower None x n = tt
on_lower (Some b) x n = at_least x (lower_pair b) n

pub on_upper : (o : Option Bound) (x : Pair) → ¬ (AboveUpper o x) → OnUpper o x
on_upper None x n = tt
on_upper (Some b) x n = at_least (upper_pair b) x n

same_at_most : (x : Pair) → x ≤ₚ x
same_at_most x = inr (refl, ≤ℚ_refl x.small)

-- at the bound that was violated a variable is on its bounds
pub lower_on : (lo up : Option Bound) (x : Pair) → BelowLower lo x → IsConsistentAt lo up → OnLower lo (lower_or_zero lo) × OnUpper up (lower_or_zero lo)
lower_on None up x h c = absurd h
lower_on (Some b) up x h c = (same_at_most (lower_pair b), c)

pub upper_on : (lo up : Option Bound) (x : Pair) → AboveUpper up x → IsConsistentAt lo up → OnLower lo (upper_or_zero up) × OnUpper up (upper_or_zero up)
upper_on lo None x h c = absurd h
upper_on None (Some b) x h c = (tt, same_at_most (upper_pair b))
upper_on (Some d) (Some b) x h c = (c, same_at_most (upper_pair b))

-- ---- a test that fails
pub fails : {P : Type 0} (b : Bool) → b ≡ false → (P → IsTrue b) → ¬ P
fails b e f p = let g : b ≡ true = f p in cc
