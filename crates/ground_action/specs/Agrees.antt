-- When a state is one that grounding speaks of, and when a ground state agrees with it.
use Rattle.std.specs.Prelude.{◌≡◌, ℕ, true, false, List, slice_get, pos, Some, is_some, unwrap_or}
use Rattle.rational.specs.Fraction.{whole}
use Rattle.plan_step.specs.State.{PlanState}
use Rattle.task_core.specs.State.{State}
use Rattle.ground_numbers.specs.declared.named.Named.{Named}
use Rattle.ground_action.specs.Setting.{Setting, Proposition, value_in, truth_in}

-- static atoms and functions are as at the start, and each function with an initial value has a value
pub record Fits (set : Setting) (s : PlanState) : Type 0 where
  pub preds : (p : ℕ) (args : List ℕ) → set.changing_pred p ≡ false → s.truth p args ≡ set.start.truth p args
  pub funcs : (f : ℕ) (args : List ℕ) → set.changing_func f ≡ false → s.value f args ≡ set.start.value f args
  pub valued : (f : ℕ) (args : List ℕ) → is_some (set.start.value f args) ≡ true → is_some (s.value f args) ≡ true

-- the ground state has the truth of each numbered proposition and the value of each numbered function; a function without
-- one is 0
pub record Agrees (set : Setting) (s : PlanState) (g : State) : Type 0 where
  pub truths : (n : ℕ) (x : Proposition) → slice_get set.propositions n ≡ Some x → g.truth n ≡ truth_in s x
  pub values : (n : ℕ) (k : Named) → slice_get set.funcs n ≡ Some k → g.value n ≡ unwrap_or (value_in s k) (whole (pos 0))
