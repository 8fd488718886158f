-- The laws of plain and weighted sums: over a list and another after it, of multiples, and of lists whose values are in
-- order.
use Rattle.std.proofs.Common.{◌≡◌, List, [], ◌∷◌, ◌++◌, map, refl, ap, ◌∙◌}
use Rattle.std.specs.List.{AllByRecursion, All}
use Rattle.std.proofs.lemmas.List.Elements.{recursion_from_All}
use lib.IntN.{pos}
use Rattle.algebra.proofs.Solve.{v, k, ◌⊕◌, ◌⊗◌, solve}
use Rattle.rational.specs.Fraction.{Fraction, whole, ◌+ℚ◌, ◌*ℚ◌, ◌≤ℚ◌, IsNotNegative}
use Rattle.rational.specs.Sums.{sum_of, combination}
use Rattle.rational.proofs.FieldLaws.{fraction-ring}
use Rattle.rational.proofs.OrderLaws.{≤ℚ_refl, ≤ℚ-add, ≤ℚ-mul}

-- ---- plain sums
-- a sum over a list and another after it
pub sum_of-append : (xs ys : List Fraction) → sum_of (xs ++ ys) ≡ sum_of xs +ℚ sum_of ys
sum_of-append [] ys = solve fraction-ring (v 0) (k (pos 0) ⊕ v 0) (sum_of ys ∷ []) refl
sum_of-append (x ∷ xs) ys = ap (λ w. x +ℚ w) (sum_of-append xs ys) ∙ solve fraction-ring (v 0 ⊕ (v 1 ⊕ v 2)) (v 0 ⊕ v 1 ⊕ v 2) (x ∷ sum_of xs ∷ sum_of ys ∷ []) refl

-- a sum of multiples
pub sum_of-multiple : (c : Fraction) (xs : List Fraction) → sum_of (map (λ x. c *ℚ x) xs) ≡ c *ℚ sum_of xs
sum_of-multiple c [] = solve fraction-ring (k (pos 0)) (v 0 ⊗ k (pos 0)) (c ∷ []) refl
sum_of-multiple c (x ∷ xs) = ap (λ w. c *ℚ x +ℚ w) (sum_of-multiple c xs) ∙ solve fraction-ring (v 0 ⊗ v 1 ⊕ v 0 ⊗ v 2) (v 0 ⊗ (v 1 ⊕ v 2)) (c ∷ x ∷ sum_of xs ∷ []) refl

-- ---- weighted sums
-- a weighted sum over a list and another after it
pub combination-append : (ts us : List (Fraction × Fraction)) → combination (ts ++ us) ≡ combination ts +ℚ combination us
combination-append [] us = solve fraction-ring (v 0) (k (pos 0) ⊕ v 0) (combination us ∷ []) refl
combination-append (t ∷ ts) us =
    ap (λ w. t.0 *ℚ t.1 +ℚ w) (combination-append ts us)
    ∙ solve fraction-ring (v 0 ⊕ (v 1 ⊕ v 2)) (v 0 ⊕ v 1 ⊕ v 2) ((t.0 *ℚ t.1) ∷ combination ts ∷ combination us ∷ []) refl

-- a weighted sum whose coefficients are all taken c times
pub combination-multiple : (c : Fraction) (ts : List (Fraction × Fraction)) → combination (map (λ t. (c *ℚ t.0, t.1)) ts) ≡ c *ℚ combination ts
combination-multiple c [] = solve fraction-ring (k (pos 0)) (v 0 ⊗ k (pos 0)) (c ∷ []) refl
combination-multiple c (t ∷ ts) =
    ap (λ w. c *ℚ t.0 *ℚ t.1 +ℚ w) (combination-multiple c ts)
    ∙ solve fraction-ring (v 0 ⊗ v 1 ⊗ v 2 ⊕ v 0 ⊗ v 3) (v 0 ⊗ (v 1 ⊗ v 2 ⊕ v 3)) (c ∷ t.0 ∷ t.1 ∷ combination ts ∷ []) refl

module _ {X : Type 0} where
  -- sums whose values are in order are in order
  pub sum_of_le : (f g : X → Fraction) (xs : List X) → All (λ x. f x ≤ℚ g x) xs → sum_of (map f xs) ≤ℚ sum_of (map g xs)
  sum_of_le f g xs h = by_list xs (recursion_from_All _ xs h)
    where
      by_list : (xs : List X) → AllByRecursion (λ x. f x ≤ℚ g x) xs → sum_of (map f xs) ≤ℚ sum_of (map g xs)
      by_list [] h = ≤ℚ_refl (whole (pos 0))
      by_list (x ∷ xs) h = ≤ℚ-add _ _ _ _ h.0 (by_list xs h.1)

  -- weighted sums whose values are in order are in order, where no coefficient is negative
  pub combination_le : (c f g : X → Fraction) (xs : List X) → All (λ x. IsNotNegative (c x)) xs → All (λ x. f x ≤ℚ g x) xs
      → combination (map (λ x. (c x, f x)) xs) ≤ℚ combination (map (λ x. (c x, g x)) xs)
  combination_le c f g xs n h = by_list xs (recursion_from_All _ xs n) (recursion_from_All _ xs h)
    where
      by_list : (xs : List X) → AllByRecursion (λ x. IsNotNegative (c x)) xs → AllByRecursion (λ x. f x ≤ℚ g x) xs
          → combination (map (λ x. (c x, f x)) xs) ≤ℚ combination (map (λ x. (c x, g x)) xs)
      by_list [] n h = ≤ℚ_refl (whole (pos 0))
      by_list (x ∷ xs) n h = ≤ℚ-add _ _ _ _ (≤ℚ-mul (c x) _ _ n.0 h.0) (by_list xs n.1 h.1)
