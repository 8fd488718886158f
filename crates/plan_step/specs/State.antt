-- States of the plan: which ground atoms are true, and the values of ground functions (PDDL 2.1, level 2).
use Rattle.std.specs.Prelude.{◌≡◌, ℕ, Bool, ◌&&◌, ◌==◌, List, bytes_eq, Option, find}
use Rattle.std.specs.List.{list_any}
use Rattle.std.specs.Option.{option_map}
use Rattle.rational.specs.Fraction.{Fraction}
use Rattle.pddl_task.specs.declared.start.Fact.{Fact}
use Rattle.pddl_task.specs.declared.start.Given.{Given}
use Rattle.pddl_task.specs.declared.parts.TaskParts.{TaskParts}

-- A predicate or a function stands by its number, with the numbers of its arguments. A function may have no value.
pub record PlanState : Type 0 where
  pub truth : ℕ → List ℕ → Bool
  pub value : ℕ → List ℕ → Option Fraction

-- the same truth of each ground atom, and the same value of each ground function
pub record IsSameState (s t : PlanState) : Type 0 where
  pub truth : (p : ℕ) (args : List ℕ) → s.truth p args ≡ t.truth p args
  pub value : (f : ℕ) (args : List ℕ) → s.value f args ≡ t.value f args

-- ---- the initial state: the facts are true and all other atoms false, and functions have the values that are given
abbrev pub gives_truth : ℕ → List ℕ → Fact → Bool
gives_truth p args fact = fact.pred == p && bytes_eq fact.args args

abbrev pub gives_value : ℕ → List ℕ → Given → Bool
gives_value f args given = given.func == f && bytes_eq given.args args

abbrev pub initial : TaskParts → PlanState
initial task = record {
  truth = λ p args. list_any (gives_truth p args) task.facts;
  value = λ f args. option_map (λ given. given.value) (find (gives_value f args) task.values);
}
