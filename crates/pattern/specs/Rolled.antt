-- The comparisons of a rollable action that is repeated (this project): whether they hold at each repetition, and the
-- operations of testing them at the first and at the last.
use Rattle.std.specs.Prelude.{ℕ, ◌<◌, Bool, true, false, List, [], ◌∷◌, ◌++◌, nat_eq, pos, Result, Ok, Err, if◌then◌else◌}
use Rattle.std.specs.List.{flat_map}
use Rattle.rational.specs.Fraction.{Fraction, whole, ◌+ℚ◌, ◌*ℚ◌, ◌-ℚ◌}
use Rattle.rational.specs.Linear.{Terms}
use Rattle.frac128.specs.declared.operations.Op.TheVariants.{Sub}
use Rattle.frac128.specs.declared.operations.Wide.{Wide}
use Rattle.lin.specs.Linear.{Linear, value_of}
use Rattle.lin.specs.Made as made
use Rattle.lin.specs.Operations.{adding, multiplying, AllFit, IsFirstPassing}
use Rattle.lin.specs.declared.comparison.Cmp.{Cmp}
use Rattle.task_core.specs.declared.action.GAction.{GAction}
use Rattle.task_core.specs.State.{State, ComparesToZero}
use Rattle.task_core.specs.Step.{ComparisonsHold}
use Rattle.task_core.specs.Rolling.{repeated}

-- a state with these values; comparisons don't look at its atoms
abbrev pub valued : (ℕ → Fraction) → State
valued old = record { truth = λ _. false; value = old }

-- from these values on the comparisons hold at each of n repetitions: before it so many are made
abbrev pub HoldsEachTime : GAction → (ℕ → Fraction) → ℕ → Type 0
HoldsEachTime a old n = (m : ℕ) → m < n → ComparisonsHold (repeated m a (valued old)) a.cmps

-- whether it is so, by these operations in order: where it is, all fit; else the test may end early. A refusal is the first
-- that passes
abbrev pub Tests : List Wide → Type 0 → Result Bool Wide → Type 0
Tests ops IsSo (Ok true) = AllFit ops × IsSo
Tests ops IsSo (Ok false) = IsSo → ⊥
Tests ops IsSo (Err w) = IsFirstPassing w ops

-- ---- the values before the last repetition, with the operations that make them

-- a value that is made from the one before with each item in turn
abbrev pub in_turn : {X : Type 0} → (Fraction → X → Fraction) → Fraction → List X → Fraction
in_turn next so_far [] = so_far
in_turn next so_far (x ∷ more) = in_turn next (next so_far x) more

abbrev pub ops_in_turn : {X : Type 0} → (Fraction → X → List Wide) → (Fraction → X → Fraction) → Fraction → List X → List Wide
ops_in_turn ops next so_far [] = []
ops_in_turn ops next so_far (x ∷ more) = ops so_far x ++ ops_in_turn ops next (next so_far x) more

-- the operation x - y
abbrev pub subtracting : Fraction → Fraction → Wide
subtracting x y = record { op = Sub; x = x; y = y }

abbrev pub one : Fraction
one = whole (pos 1)

-- an amount that is added at each repetition but the last
abbrev pub growth : Fraction → Fraction → Fraction → Fraction
growth count so_far amount = so_far +ℚ amount *ℚ (count -ℚ one)

abbrev pub growth_ops : Fraction → Fraction → Fraction → List Wide
growth_ops count so_far amount =
    subtracting count one ∷ multiplying amount (count -ℚ one) ∷ adding so_far (amount *ℚ (count -ℚ one)) ∷ []

-- an increment that is one of the function
abbrev pub function_growth : Fraction → ℕ → Fraction → ℕ × Fraction → Fraction
function_growth count f so_far inc = if nat_eq inc.0 f then growth count so_far inc.1 else so_far

abbrev pub function_ops : Fraction → ℕ → Fraction → ℕ × Fraction → List Wide
function_ops count f so_far inc = if nat_eq inc.0 f then growth_ops count so_far inc.1 else []

abbrev pub last_value : Terms → Fraction → ℕ → Fraction → Fraction
last_value incs count f old = in_turn (function_growth count f) old incs

abbrev pub last_ops : Terms → Fraction → ℕ → Fraction → List Wide
last_ops incs count f old = ops_in_turn (function_ops count f) (function_growth count f) old incs

module _ (incs : Terms) (count : Fraction) (old : ℕ → Fraction) where
  -- a term: its function's value, the product and the sum
  abbrev pub term_value : ℕ → Fraction
  term_value f = last_value incs count f (old f)

  abbrev pub plus_term : Fraction → ℕ × Fraction → Fraction
  plus_term so_far t = so_far +ℚ t.1 *ℚ term_value t.0

  abbrev pub term_ops : Fraction → ℕ × Fraction → List Wide
  term_ops so_far t = last_ops incs count t.0 (old t.0) ++ multiplying t.1 (term_value t.0) ∷ adding so_far (t.1 *ℚ term_value t.0) ∷ []

  -- an expression: its constant, and then the terms in rising variable
  abbrev pub value_at_last : Linear → Fraction
  value_at_last l = in_turn plus_term l.constant l.terms

  abbrev pub value_ops : Linear → List Wide
  value_ops l = ops_in_turn term_ops plus_term l.constant l.terms

  -- ---- a comparison, at the first repetition and then at the last

  abbrev pub HoldsAtBoth : Linear × Cmp → Type 0
  HoldsAtBoth c = ComparesToZero c.1 (value_of old c.0) × ComparesToZero c.1 (value_at_last c.0)

  abbrev pub comparison_ops : Linear × Cmp → List Wide
  comparison_ops c = made.value_ops old c.0 ++ value_ops c.0

  abbrev pub rolled_ops : List (Linear × Cmp) → List Wide
  rolled_ops cmps = flat_map comparison_ops cmps
