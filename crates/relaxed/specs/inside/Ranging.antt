-- What taking a range answers: the range where each of its operations fits, and else the first that passes.
use Rattle.std.specs.Prelude.{◌≡◌, ◌⊎◌, ℕ, Bool, List, [], ◌∷◌, pos, Result, Ok, Err}
use Rattle.std.specs.List.{AllByRecursion}
use Rattle.rational.specs.Fraction.{Fraction, whole, ◌*ℚ◌}
use Rattle.rational.specs.Linear.{Terms}
use Rattle.frac128.specs.declared.operations.Op.TheVariants.{Add, Mul}
use Rattle.frac128.specs.declared.operations.Wide.{Wide}
use Rattle.lin.specs.Linear.{Linear}
use Rattle.lin.specs.declared.comparison.Cmp.{Cmp}
use Rattle.relaxed.specs.declared.interval.End.{End}
use Rattle.relaxed.specs.declared.interval.Interval.{Interval}
use Rattle.relaxed.specs.declared.range.Side.{Side}
use Rattle.relaxed.specs.Interval.{is_at_most, is_below}
use Rattle.relaxed.specs.Range.{picks, end_of_picks, operations_of_picks, range_end, range_operations}
use Rattle.relaxed.specs.Layers.{Layer, box, end_passes, comparison_may_hold}
use Rattle.relaxed.specs.Named.{FitsIn, Passing, comparison_operations}

abbrev pub AllFit : List Wide → Type 0
AllFit ops = AllByRecursion FitsIn ops

abbrev pub IsFirstPassing : List Wide → Wide → Type 0
IsFirstPassing [] w = ⊥
IsFirstPassing (o ∷ more) w = ((o ≡ w) × Passing o) ⊎ (FitsIn o × IsFirstPassing more w)

-- the value where all operations fit, and else the first that passes
abbrev pub Answers : {X : Type 0} → List Wide → X → Result X Wide → Type 0
Answers ops x (Ok r) = AllFit ops × (r ≡ x)
Answers ops x (Err w) = IsFirstPassing ops w

-- a product, and its sum with what came before
abbrev pub product_operations : Fraction → Fraction → Fraction → List Wide
product_operations sum c e = record { op = Mul; x = c; y = e } ∷ record { op = Add; x = sum; y = c *ℚ e } ∷ []

-- the sum so far, and the terms that are left
abbrev pub AnswersPicks : Side → (ℕ → Interval) → Fraction → Terms → Result End Wide → Type 0
AnswersPicks side at so_far ts = Answers (operations_of_picks so_far (picks side at ts)) (end_of_picks so_far (picks side at ts))

abbrev pub AnswersRange : Side → Layer → Linear → Result End Wide → Type 0
AnswersRange side y l = Answers (range_operations side (box y) l) (range_end side (box y) l)

abbrev pub AnswersComparison : Layer → Linear → Cmp → Result Bool Wide → Type 0
AnswersComparison y l c = Answers (comparison_operations y l c) (comparison_may_hold y (l, c))

-- ---- an end against 0

abbrev pub is_at_most_zero : End → Bool
is_at_most_zero e = end_passes (λ x. is_at_most x (whole (pos 0))) e

abbrev pub is_below_zero : End → Bool
is_below_zero e = end_passes (λ x. is_below x (whole (pos 0))) e

abbrev pub is_at_least_zero : End → Bool
is_at_least_zero e = end_passes (λ x. is_at_most (whole (pos 0)) x) e
