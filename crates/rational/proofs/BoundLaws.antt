-- A bound on c * x is a bound on x: divided by a positive c the inequality keeps its sense, divided by a negative c it turns.
-- Each is a sum of the known bound, times c or 1 / c, and of the equation `c * (1 / c) = 1`.
use Rattle.std.proofs.Common.{◌≡◌, ◌≢◌, ◌↔◌, [], ◌∷◌, refl, sym, ap, subst, ◌∙◌}
use lib.IntN.{pos}
use Rattle.algebra.proofs.Solve.{v, k, ◌⊗◌, inv, solve, solve_from, bound_from, strict_from, eq, le, lt, done}
use Rattle.rational.specs.Fraction.{Fraction, whole, ◌*ℚ◌, neg_ℚ, inv_ℚ, ◌/ℚ◌, ◌≤ℚ◌, ◌<ℚ◌, IsPositive}
use Rattle.rational.proofs.FieldLaws.{fraction-ring}
use Rattle.rational.proofs.Division.{mul-inv, inv_is}
use Rattle.rational.proofs.Signs.{fraction-order, weaken_positive}
use Rattle.rational.proofs.OrderLaws.{positive_apart, inv_positive}

-- what is below 0 isn't 0
pub negative_apart : (c : Fraction) → IsPositive (neg_ℚ c) → c ≢ whole (pos 0)
negative_apart c p e = positive_apart (neg_ℚ c) p (ap neg_ℚ e ∙ solve fraction-ring (inv (k (pos 0))) (k (pos 0)) [] refl)

-- the inverse of what is below 0 is below 0
pub inv_negative : (c : Fraction) → IsPositive (neg_ℚ c) → IsPositive (neg_ℚ (inv_ℚ c))
inv_negative c p =
    let e : neg_ℚ c *ℚ neg_ℚ (inv_ℚ c) ≡ whole (pos 1) =
    solve_from fraction-ring (inv (v 0) ⊗ inv (v 1)) (k (pos 1)) (c ∷ inv_ℚ c ∷ []) (eq (k (pos 1)) (v 0 ⊗ v 1) (k (pos 1)) (mul-inv c (negative_apart c p)) done) refl in
    subst (λ w. IsPositive w) (sym (inv_is (neg_ℚ c) (neg_ℚ (inv_ℚ c)) (positive_apart (neg_ℚ c) p) e)) (inv_positive (neg_ℚ c) p)

-- ---- a positive coefficient
-- c * x ≤ b exactly where x ≤ b / c
pub upper_bound : (c x b : Fraction) → IsPositive c → ((c *ℚ x) ≤ℚ b) ↔ (x ≤ℚ (b /ℚ c))
upper_bound c x b p =
    let i = inv_positive c p in let one = mul-inv c (positive_apart c p) in let ρ = c ∷ x ∷ b ∷ inv_ℚ c ∷ [] in (
      λ h. bound_from fraction-order (v 1) (v 2 ⊗ v 3) ρ (le (v 3) (v 0 ⊗ v 1) (v 2) (weaken_positive (inv_ℚ c) i) h (eq (inv (v 1)) (v 0 ⊗ v 3) (k (pos 1)) one done)) refl,
      λ h. bound_from fraction-order (v 0 ⊗ v 1) (v 2) ρ (le (v 0) (v 1) (v 2 ⊗ v 3) (weaken_positive c p) h (eq (v 2) (v 0 ⊗ v 3) (k (pos 1)) one done)) refl,
    )

-- b ≤ c * x exactly where b / c ≤ x
pub lower_bound : (c x b : Fraction) → IsPositive c → (b ≤ℚ (c *ℚ x)) ↔ ((b /ℚ c) ≤ℚ x)
lower_bound c x b p =
    let i = inv_positive c p in let one = mul-inv c (positive_apart c p) in let ρ = c ∷ x ∷ b ∷ inv_ℚ c ∷ [] in (
      λ h. bound_from fraction-order (v 2 ⊗ v 3) (v 1) ρ (le (v 3) (v 2) (v 0 ⊗ v 1) (weaken_positive (inv_ℚ c) i) h (eq (v 1) (v 0 ⊗ v 3) (k (pos 1)) one done)) refl,
      λ h. bound_from fraction-order (v 2) (v 0 ⊗ v 1) ρ (le (v 0) (v 2 ⊗ v 3) (v 1) (weaken_positive c p) h (eq (inv (v 2)) (v 0 ⊗ v 3) (k (pos 1)) one done)) refl,
    )

-- c * x < b exactly where x < b / c
pub strict_upper_bound : (c x b : Fraction) → IsPositive c → ((c *ℚ x) <ℚ b) ↔ (x <ℚ (b /ℚ c))
strict_upper_bound c x b p =
    let i = inv_positive c p in let one = mul-inv c (positive_apart c p) in let ρ = c ∷ x ∷ b ∷ inv_ℚ c ∷ [] in (
      λ h. strict_from fraction-order (v 1) (v 2 ⊗ v 3) ρ (lt (v 3) (v 0 ⊗ v 1) (v 2) i h (eq (inv (v 1)) (v 0 ⊗ v 3) (k (pos 1)) one done)) tt refl,
      λ h. strict_from fraction-order (v 0 ⊗ v 1) (v 2) ρ (lt (v 0) (v 1) (v 2 ⊗ v 3) p h (eq (v 2) (v 0 ⊗ v 3) (k (pos 1)) one done)) tt refl,
    )

-- b < c * x exactly where b / c < x
pub strict_lower_bound : (c x b : Fraction) → IsPositive c → (b <ℚ (c *ℚ x)) ↔ ((b /ℚ c) <ℚ x)
strict_lower_bound c x b p =
    let i = inv_positive c p in let one = mul-inv c (positive_apart c p) in let ρ = c ∷ x ∷ b ∷ inv_ℚ c ∷ [] in (
      λ h. strict_from fraction-order (v 2 ⊗ v 3) (v 1) ρ (lt (v 3) (v 2) (v 0 ⊗ v 1) i h (eq (v 1) (v 0 ⊗ v 3) (k (pos 1)) one done)) tt refl,
      λ h. strict_from fraction-order (v 2) (v 0 ⊗ v 1) ρ (lt (v 0) (v 2 ⊗ v 3) (v 1) p h (eq (inv (v 2)) (v 0 ⊗ v 3) (k (pos 1)) one done)) tt refl,
    )

-- ---- a negative coefficient
-- c * x ≤ b exactly where b / c ≤ x, where c is below 0
pub upper_bound_negative : (c x b : Fraction) → IsPositive (neg_ℚ c) → ((c *ℚ x) ≤ℚ b) ↔ ((b /ℚ c) ≤ℚ x)
upper_bound_negative c x b p =
    let i = inv_negative c p in let one = mul-inv c (negative_apart c p) in let ρ = c ∷ x ∷ b ∷ inv_ℚ c ∷ [] in (
      λ h. bound_from fraction-order (v 2 ⊗ v 3) (v 1) ρ (le (inv (v 3)) (v 0 ⊗ v 1) (v 2) (weaken_positive (neg_ℚ (inv_ℚ c)) i) h (eq (v 1) (v 0 ⊗ v 3) (k (pos 1)) one done)) refl,
      λ h. bound_from fraction-order (v 0 ⊗ v 1) (v 2) ρ (le (inv (v 0)) (v 2 ⊗ v 3) (v 1) (weaken_positive (neg_ℚ c) p) h (eq (v 2) (v 0 ⊗ v 3) (k (pos 1)) one done)) refl,
    )

-- b ≤ c * x exactly where x ≤ b / c, where c is below 0
pub lower_bound_negative : (c x b : Fraction) → IsPositive (neg_ℚ c) → (b ≤ℚ (c *ℚ x)) ↔ (x ≤ℚ (b /ℚ c))
lower_bound_negative c x b p =
    let i = inv_negative c p in let one = mul-inv c (negative_apart c p) in let ρ = c ∷ x ∷ b ∷ inv_ℚ c ∷ [] in (
      λ h. bound_from fraction-order (v 1) (v 2 ⊗ v 3) ρ (le (inv (v 3)) (v 2) (v 0 ⊗ v 1) (weaken_positive (neg_ℚ (inv_ℚ c)) i) h (eq (inv (v 1)) (v 0 ⊗ v 3) (k (pos 1)) one done)) refl,
      λ h. bound_from fraction-order (v 2) (v 0 ⊗ v 1) ρ (le (inv (v 0)) (v 1) (v 2 ⊗ v 3) (weaken_positive (neg_ℚ c) p) h (eq (inv (v 2)) (v 0 ⊗ v 3) (k (pos 1)) one done)) refl,
    )

-- c * x < b exactly where b / c < x, where c is below 0
pub strict_upper_bound_negative : (c x b : Fraction) → IsPositive (neg_ℚ c) → ((c *ℚ x) <ℚ b) ↔ ((b /ℚ c) <ℚ x)
strict_upper_bound_negative c x b p =
    let i = inv_negative c p in let one = mul-inv c (negative_apart c p) in let ρ = c ∷ x ∷ b ∷ inv_ℚ c ∷ [] in (
      λ h. strict_from fraction-order (v 2 ⊗ v 3) (v 1) ρ (lt (inv (v 3)) (v 0 ⊗ v 1) (v 2) i h (eq (v 1) (v 0 ⊗ v 3) (k (pos 1)) one done)) tt refl,
      λ h. strict_from fraction-order (v 0 ⊗ v 1) (v 2) ρ (lt (inv (v 0)) (v 2 ⊗ v 3) (v 1) p h (eq (v 2) (v 0 ⊗ v 3) (k (pos 1)) one done)) tt refl,
    )

-- b < c * x exactly where x < b / c, where c is below 0
pub strict_lower_bound_negative : (c x b : Fraction) → IsPositive (neg_ℚ c) → (b <ℚ (c *ℚ x)) ↔ (x <ℚ (b /ℚ c))
strict_lower_bound_negative c x b p =
    let i = inv_negative c p in let one = mul-inv c (negative_apart c p) in let ρ = c ∷ x ∷ b ∷ inv_ℚ c ∷ [] in (
      λ h. strict_from fraction-order (v 1) (v 2 ⊗ v 3) ρ (lt (inv (v 3)) (v 2) (v 0 ⊗ v 1) i h (eq (inv (v 1)) (v 0 ⊗ v 3) (k (pos 1)) one done)) tt refl,
      λ h. strict_from fraction-order (v 2) (v 0 ⊗ v 1) ρ (lt (inv (v 0)) (v 1) (v 2 ⊗ v 3) p h (eq (inv (v 2)) (v 0 ⊗ v 3) (k (pos 1)) one done)) tt refl,
    )
