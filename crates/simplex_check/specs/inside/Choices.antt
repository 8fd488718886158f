-- What the functions of a step answer.
use Rattle.std.specs.Prelude.{◌≡◌, ◌↔◌, ℕ, ◌<◌, IsTrue, List, Option, Some, None, Result, Ok, Err, false}
use Rattle.frac128.specs.declared.operations.Wide.{Wide}
use Rattle.rational.specs.Fraction.{Fraction}
use Rattle.tableau.specs.Table.{Table, width, is_basic, Solves}
use Rattle.simplex_law.specs.Bounds.{BelowLower, AboveUpper, OnLower, OnUpper}
use Rattle.simplex_law.specs.Config.{Limits, pair_at, row_pair, value_of, IsOn, IsPlaced, IsSettled, IsStuck, Helps, Violates, IsLeastViolated, IsLeastHelp, IsNext}
use Rattle.simplex_law.specs.declared.pair.Pair.{Pair}
use Rattle.simplex_law.specs.declared.bound.Bound.{Bound}
use Rattle.simplex_law.specs.declared.bound.Side.{Side}
use Rattle.simplex_law.specs.declared.bound.Side.TheVariants.{Under, Over}
use Rattle.simplex_check.specs.Value.{PairPasses}
use Rattle.simplex_check.specs.Checks.{ValuePasses, NextPasses}
use Rattle.simplex_check.specs.declared.step.Step.{Step}
use Rattle.simplex_check.specs.declared.step.Step.TheVariants.{Settled, Stuck, Moved}
use Rattle.simplex_check.specs.declared.step.StepFail.{StepFail}
use Rattle.simplex_check.specs.declared.step.StepFail.TheVariants.{Value, Pivot}

abbrev pub SideAnswers : Option Bound → Option Bound → Pair → Option Side → Type 0
SideAnswers lower upper x None = OnLower lower x × OnUpper upper x
SideAnswers lower upper x (Some Under) = BelowLower lower x
SideAnswers lower upper x (Some Over) = AboveUpper upper x

-- the side on which a variable violates a bound, where it is basic
abbrev pub SideAtAnswers : Limits → Table → (ℕ → Pair) → ℕ → Result (Option Side) Wide → Type 0
SideAtAnswers l t place i (Ok None) = IsTrue (is_basic t i) → IsOn l i (row_pair t place i)
SideAtAnswers l t place i (Ok (Some side)) = IsTrue (is_basic t i) × Violates l t place i side
SideAtAnswers l t place i (Err w) = IsTrue (is_basic t i) × PairPasses t place i w

-- the value of a variable, basic or not
abbrev pub ValueAtAnswers : Table → (ℕ → Pair) → ℕ → Result Pair Wide → Type 0
ValueAtAnswers t place i (Ok x) = x ≡ value_of t place i
ValueAtAnswers t place i (Err w) = IsTrue (is_basic t i) × PairPasses t place i w

abbrev pub ViolatedAnswers : Limits → Table → (ℕ → Pair) → Result (Option (ℕ × Side)) Wide → Type 0
ViolatedAnswers l t place (Ok None) = IsSettled l t place
ViolatedAnswers l t place (Ok (Some x)) = IsLeastViolated l t place x.0 x.1
ViolatedAnswers l t place (Err w) = ValuePasses t place w

abbrev pub EnteringAnswers : Limits → Table → (ℕ → Pair) → ℕ → Side → Option ℕ → Type 0
EnteringAnswers l t place r side None = (j : ℕ) → j < width t → is_basic t j ≡ false → ¬ (Helps l t place r side j)
EnteringAnswers l t place r side (Some e) = IsLeastHelp l t place r side e

-- the next configuration, which has the same solutions and is placed
pub record IsMoved (l : Limits) (t : Table) (place : ℕ → Pair) (r e : ℕ) (after : Table) (place' : ℕ → Pair) : Type 0 where
  pub next : IsNext l t place r e after place'
  pub placed : IsPlaced l after place'
  pub same : (point : ℕ → Fraction) → Solves t point ↔ Solves after point

abbrev pub StepAnswers : Limits → Table → List Pair → Table → List Pair → Result Step StepFail → Type 0
StepAnswers l t place after place' (Ok Settled) = IsSettled l t (pair_at place) × (after ≡ t) × (place' ≡ place)
StepAnswers l t place after place' (Ok (Stuck r side)) = IsStuck l t (pair_at place) r side × (after ≡ t) × (place' ≡ place)
StepAnswers l t place after place' (Ok (Moved r e)) = IsMoved l t (pair_at place) r e after (pair_at place')
StepAnswers l t place after place' (Err (Value w)) = ValuePasses t (pair_at place) w × (after ≡ t) × (place' ≡ place)
StepAnswers l t place after place' (Err (Pivot w)) = NextPasses l t (pair_at place) w × (after ≡ t) × (place' ≡ place)
