-- When a ground state lies in a layer.
use Rattle.std.specs.Prelude.{◌≡◌, ℕ, true, false}
use Rattle.task_core.specs.State.{State}
use Rattle.task_core.specs.Task.{GroundParts, has_value}
use Rattle.relaxed.specs.Interval.{MayBe}
use Rattle.relaxed.specs.Layers.{Layer}

-- what is true may be true, what is false may be false, and the value of each function that has one lies in its interval
pub record InLayer (task : GroundParts) (y : Layer) (s : State) : Type 0 where
  pub true_in : (p : ℕ) → s.truth p ≡ true → y.may_be_true p ≡ true
  pub false_in : (p : ℕ) → s.truth p ≡ false → y.may_be_false p ≡ true
  pub value_in : (f : ℕ) → has_value task s f ≡ true → MayBe (y.interval f) (s.value f)
