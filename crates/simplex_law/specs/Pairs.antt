-- Values with a small part, and their order.
use Rattle.std.specs.Prelude.{◌≡◌, ◌⊎◌}
use Rattle.rational.specs.Fraction.{Fraction, ◌+ℚ◌, ◌*ℚ◌, ◌-ℚ◌, ◌≤ℚ◌, ◌<ℚ◌, IsPositive}
use Rattle.simplex_law.specs.declared.pair.Pair.{Pair}

infix 50 ◌≤ₚ◌ ◌<ₚ◌
-- by the main part, then by the small one
abbrev pub ◌≤ₚ◌ : Pair → Pair → Type 0
x ≤ₚ y = (x.main <ℚ y.main) ⊎ ((x.main ≡ y.main) × (x.small ≤ℚ y.small))

abbrev pub ◌<ₚ◌ : Pair → Pair → Type 0
x <ₚ y = (x.main <ℚ y.main) ⊎ ((x.main ≡ y.main) × (x.small <ℚ y.small))

-- the value where the small part counts d times
abbrev pub at_small : Pair → Fraction → Fraction
at_small x d = x.main +ℚ x.small *ℚ d

-- ---- sums
abbrev pub plus_multiple : Pair → Fraction → Pair → Pair
plus_multiple x c d = record { main = x.main +ℚ c *ℚ d.main; small = x.small +ℚ c *ℚ d.small }

abbrev pub minus : Pair → Pair → Pair
minus x y = record { main = x.main -ℚ y.main; small = x.small -ℚ y.small }

-- ---- the infinitesimal
-- P holds for each positive d up to some positive one
abbrev pub HoldsSmall : (Fraction → Type 0) → Type 0
HoldsSmall P = (e : Fraction) × IsPositive e × ((d : Fraction) → IsPositive d → d ≤ℚ e → P d)
