-- What the steps to the infinitesimal answer.
use Rattle.std.specs.Prelude.{◌≡◌, ◌⊎◌, Option, Some, None, Result, Ok, Err}
use Rattle.rational.specs.Fraction.{Fraction, ◌≤ℚ◌}
use Rattle.frac128.specs.declared.operations.Wide.{Wide}
use Rattle.simplex_law.specs.Bounds.{lower_pair, upper_pair}
use Rattle.simplex_law.specs.declared.pair.Pair.{Pair}
use Rattle.simplex_law.specs.declared.bound.Bound.{Bound}
use Rattle.simplex_point.specs.Point.{IsNarrow, quotient_of, QuotientPasses}

abbrev pub QuotientAnswers : Pair → Pair → Result (Option Fraction) Wide → Type 0
QuotientAnswers x y (Ok None) = ¬ (IsNarrow x y)
QuotientAnswers x y (Ok (Some q)) = IsNarrow x y × (q ≡ quotient_of x y)
QuotientAnswers x y (Err w) = QuotientPasses x y w

-- the lesser of d and the quotient, if there is one
abbrev pub NarrowedAnswers : Fraction → Pair → Pair → Result Fraction Wide → Type 0
NarrowedAnswers d x y (Ok e) = (e ≤ℚ d) × (IsNarrow x y → e ≤ℚ quotient_of x y) × ((e ≡ d) ⊎ (IsNarrow x y × (e ≡ quotient_of x y)))
NarrowedAnswers d x y (Err w) = QuotientPasses x y w

abbrev pub LowerAnswers : Fraction → Option Bound → Pair → Result Fraction Wide → Type 0
LowerAnswers d None x r = r ≡ Ok d
LowerAnswers d (Some b) x r = NarrowedAnswers d (lower_pair b) x r

abbrev pub UpperAnswers : Fraction → Option Bound → Pair → Result Fraction Wide → Type 0
UpperAnswers d None x r = r ≡ Ok d
UpperAnswers d (Some b) x r = NarrowedAnswers d x (upper_pair b) r
