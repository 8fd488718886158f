-- What a check answers, with the pivots that led there.
use Rattle.std.specs.Prelude.{◌≡◌, ◌↔◌, ℕ, ◌<◌, ◌≤◌, IsTrue, List, length, Option, Result, Ok, Err}
use Rattle.rational.specs.Fraction.{Fraction}
use Rattle.frac128.specs.declared.operations.Wide.{Wide}
use Rattle.tableau.specs.Table.{Table, width, cell, is_basic, Solves}
use Rattle.tableau.specs.Pivot.{PivotPasses}
use Rattle.simplex_law.specs.Config.{Limits, value_of, IsPlaced, IsSettled, IsStuck, IsLeastViolated, IsLeastHelp}
use Rattle.simplex_law.specs.Runs.{Reaches}
use Rattle.simplex_law.specs.declared.pair.Pair.{Pair}
use Rattle.simplex_law.specs.declared.bound.Bound.{Bound}
use Rattle.simplex_law.specs.declared.bound.Side.{Side}
use Rattle.simplex_check.specs.Value.{PairPasses}
use Rattle.simplex_check.specs.declared.checking.Verdict.{Verdict}
use Rattle.simplex_check.specs.declared.checking.Verdict.TheVariants.{Fits, Clash, Spent}
use Rattle.simplex_check.specs.declared.checking.CheckFail.{CheckFail}
use Rattle.simplex_check.specs.declared.checking.CheckFail.TheVariants.{Value, Pivot, Memory}

abbrev pub limits : List (Option Bound) → List (Option Bound) → Limits
limits lower upper = record { lower = lower; upper = upper }

-- the pivots by Bland's rule lead from the first configuration to the last, which is placed and has the same solutions
pub record LeadsTo (l : Limits) (t : Table) (place : ℕ → Pair) (swaps : List (ℕ × ℕ)) (after : Table) (place' : ℕ → Pair) : Type 0 where
  pub trace : Reaches l t place swaps after place'
  pub placed : IsPlaced l after place'
  pub same : (point : ℕ → Fraction) → Solves t point ↔ Solves after point
  pub wide : width after ≡ width t

-- w is an operation of a basic variable's value, and passes
abbrev pub ValuePasses : Table → (ℕ → Pair) → Wide → Type 0
ValuePasses t place w = (i : ℕ) × (i < width t) × IsTrue (is_basic t i) × PairPasses t place i w

-- w is an operation of the next pivot, and passes
abbrev pub NextPasses : Limits → Table → (ℕ → Pair) → Wide → Type 0
NextPasses l t place w = (r : ℕ) × (e : ℕ) × (side : Side) × IsLeastViolated l t place r side × IsLeastHelp l t place r side e × PivotPasses (cell t) (width t) r e w

-- where the trace ends: nothing is violated; or r is and nothing helps; or the pivots are spent and a variable is violated; or
-- an operation passes. With the pivots spent, help is no more looked for
abbrev pub EndsIn : Limits → ℕ → List (ℕ × ℕ) → Table → (ℕ → Pair) → Result Verdict CheckFail → Type 0
EndsIn l pivots swaps t place (Ok Fits) = IsSettled l t place
EndsIn l pivots swaps t place (Ok (Clash r side)) = (length swaps < pivots) × IsStuck l t place r side
EndsIn l pivots swaps t place (Ok Spent) = (length swaps ≡ pivots) × (r : ℕ) × (side : Side) × IsLeastViolated l t place r side
EndsIn l pivots swaps t place (Err (Value w)) = ValuePasses t place w
EndsIn l pivots swaps t place (Err (Pivot w)) = (length swaps < pivots) × NextPasses l t place w
EndsIn l pivots swaps t place (Err Memory) = Unit {0}

-- the trace is that of the check, and has at most as many pivots as it may make; without memory for it only the solutions stay
abbrev pub CheckAnswers : Limits → Table → (ℕ → Pair) → ℕ → List (ℕ × ℕ) → Table → (ℕ → Pair) → Result Verdict CheckFail → Type 0
CheckAnswers l t place pivots swaps after place' (Err Memory) = (width after ≡ width t) × ((point : ℕ → Fraction) → Solves t point ↔ Solves after point)
CheckAnswers l t place pivots swaps after place' r = LeadsTo l t place swaps after place' × (length swaps ≤ pivots) × EndsIn l pivots swaps after place' r

-- the values of all variables are put into a list, or an operation of one passes
abbrev pub ValuesAnswer : Table → (ℕ → Pair) → (ℕ → Pair) → Result (Unit {0}) Wide → Type 0
ValuesAnswer t place values (Ok _) = (i : ℕ) → i < width t → values i ≡ value_of t place i
ValuesAnswer t place values (Err w) = ValuePasses t place w
