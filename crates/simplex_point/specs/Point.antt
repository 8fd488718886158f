-- The infinitesimal of a point: the least of 1 and of what the bounds ask of it.
use Rattle.std.specs.Prelude.{◌≡◌, ◌⊎◌, ℕ, ◌<◌, Some, Result, Ok, Err}
use lib.IntN.{pos}
use Rattle.rational.specs.Fraction.{Fraction, whole, ◌*ℚ◌, ◌-ℚ◌, ◌/ℚ◌, ◌≤ℚ◌, ◌<ℚ◌}
use Rattle.frac128.specs.declared.operations.Op.TheVariants.{Sub}
use Rattle.frac128.specs.declared.operations.Wide.{Wide}
use Rattle.lin.specs.Operations.{adding, multiplying, dividing}
use Rattle.tableau.specs.Named.{PassesAt}
use Rattle.simplex_law.specs.Pairs.{at_small}
use Rattle.simplex_law.specs.Bounds.{lower_pair, upper_pair}
use Rattle.simplex_law.specs.Config.{Limits, lower_of, upper_of}
use Rattle.simplex_law.specs.declared.pair.Pair.{Pair}
use Rattle.simplex_law.specs.declared.bound.Bound.{Bound}

-- x is below y, but comes nearer with a greater infinitesimal
abbrev pub IsNarrow : Pair → Pair → Type 0
IsNarrow x y = (x.main <ℚ y.main) × (y.small <ℚ x.small)

-- where they meet
abbrev pub quotient_of : Pair → Pair → Fraction
quotient_of x y = (y.main -ℚ x.main) /ℚ (x.small -ℚ y.small)

-- x is to be at most y: a lower bound and a value, or a value and an upper bound
abbrev pub IsAsked : Limits → (ℕ → Pair) → ℕ → Pair → Pair → Type 0
IsAsked l value n x y = (i : ℕ) × (i < n) ×
    (((b : Bound) × (lower_of l i ≡ Some b) × (x ≡ lower_pair b) × (y ≡ value i)) ⊎ ((b : Bound) × (upper_of l i ≡ Some b) × (x ≡ value i) × (y ≡ upper_pair b)))

-- the least of 1 and of the quotients of the first n variables
pub record IsInfinitesimal (l : Limits) (value : ℕ → Pair) (n : ℕ) (d : Fraction) : Type 0 where
  pub most : d ≤ℚ whole (pos 1)
  pub least : (x y : Pair) → IsAsked l value n x y → IsNarrow x y → d ≤ℚ quotient_of x y
  pub attained : (d ≡ whole (pos 1)) ⊎ ((x : Pair) × (y : Pair) × IsAsked l value n x y × IsNarrow x y × (d ≡ quotient_of x y))

-- ---- the operations
abbrev pub subtracting : Fraction → Fraction → Wide
subtracting x y = record { op = Sub; x = x; y = y }

-- w is one of a quotient, and passes
abbrev pub QuotientPasses : Pair → Pair → Wide → Type 0
QuotientPasses x y w = IsNarrow x y
    × ((w ≡ subtracting y.main x.main) ⊎ ((w ≡ subtracting x.small y.small) ⊎ (w ≡ dividing (y.main -ℚ x.main) (x.small -ℚ y.small)))) × PassesAt w

-- w is one of the infinitesimal, and passes
abbrev pub InfinitesimalPasses : Limits → (ℕ → Pair) → ℕ → Wide → Type 0
InfinitesimalPasses l value n w = (x : Pair) × (y : Pair) × IsAsked l value n x y × QuotientPasses x y w

-- w is one of the point's values, and passes
abbrev pub AtSmallPasses : Pair → Fraction → Wide → Type 0
AtSmallPasses x d w = ((w ≡ multiplying x.small d) ⊎ (w ≡ adding x.main (x.small *ℚ d))) × PassesAt w

-- ---- what is answered
abbrev pub InfinitesimalAnswers : Limits → (ℕ → Pair) → ℕ → Result Fraction Wide → Type 0
InfinitesimalAnswers l value n (Ok d) = IsInfinitesimal l value n d
InfinitesimalAnswers l value n (Err w) = InfinitesimalPasses l value n w

abbrev pub AtSmallAnswers : Pair → Fraction → Result Fraction Wide → Type 0
AtSmallAnswers x d (Ok y) = y ≡ at_small x d
AtSmallAnswers x d (Err w) = AtSmallPasses x d w
