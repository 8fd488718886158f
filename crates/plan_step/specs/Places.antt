-- The places of a state of the program, and states in which one of them is otherwise.
use Rattle.std.specs.Prelude.{ℕ, Bool, ◌&&◌, ◌==◌, List, bytes_eq, Option, IsSome, if◌then◌else◌}
use Rattle.rational.specs.Fraction.{Fraction}
use Rattle.ground_map.specs.GroundMap.{value_at}
use Rattle.plan_step.specs.State.{PlanState}
use Rattle.plan_step.specs.Held.{Held}

-- something is held of an atom, or of a function
abbrev pub HasAtom : Held → ℕ → List ℕ → Type 0
HasAtom held p args = IsSome (value_at held.truths p args)

abbrev pub HasFunction : Held → ℕ → List ℕ → Type 0
HasFunction held f args = IsSome (value_at held.values f args)

-- where something was held, something is
pub record KeepsPlaces (old new : Held) : Type 0 where
  pub atoms : (p : ℕ) (args : List ℕ) → HasAtom old p args → HasAtom new p args
  pub functions : (f : ℕ) (args : List ℕ) → HasFunction old f args → HasFunction new f args

-- a state in which one atom, or one function, is otherwise
abbrev pub with_atom : PlanState → ℕ → List ℕ → Bool → PlanState
with_atom state p args truth = record {
  truth = λ q others. if q == p && bytes_eq others args then truth else state.truth q others;
  value = state.value;
}

abbrev pub with_function : PlanState → ℕ → List ℕ → Option Fraction → PlanState
with_function state f args value = record {
  truth = state.truth;
  value = λ g others. if g == f && bytes_eq others args then value else state.value g others;
}
