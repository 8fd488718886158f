-- A state in which facts are made true and functions are given values, one by one.
use Rattle.std.specs.Prelude.{◌||◌, List, Option, Some, None, find, if◌then◌else◌}
use Rattle.std.specs.List.{list_any}
use Rattle.std.specs.Option.{option_map}
use Rattle.rational.specs.Fraction.{Fraction}
use Rattle.pddl_task.specs.declared.start.Fact.{Fact}
use Rattle.pddl_task.specs.declared.start.Given.{Given}
use Rattle.plan_step.specs.State.{PlanState, gives_truth, gives_value}

abbrev pub with_facts : List Fact → PlanState → PlanState
with_facts facts state = record {
  truth = λ p args. state.truth p args || list_any (gives_truth p args) facts;
  value = state.value;
}

-- a value stays
abbrev pub or_else : Option Fraction → Option Fraction → Option Fraction
or_else None other = other
or_else (Some x) other = Some x

abbrev pub with_given : Given → PlanState → PlanState
with_given given state = record {
  truth = state.truth;
  value = λ f args. or_else (state.value f args) (if gives_value f args given then Some given.value else None);
}

-- the first value that is given
abbrev pub with_given_values : List Given → PlanState → PlanState
with_given_values values state = record {
  truth = state.truth;
  value = λ f args. or_else (state.value f args) (option_map (λ given. given.value) (find (gives_value f args) values));
}
