-- What grounding is done in: what changes, the initial state, and which ground atoms and functions have a number.
use Rattle.std.specs.Prelude.{ℕ, Bool, false, not, List, ◌++◌, map, filter, Option, is_some}
use Rattle.std.specs.List.{list_all}
use Rattle.rational.specs.Fraction.{Fraction}
use Rattle.pddl_task.specs.declared.parts.TaskParts.{TaskParts}
use Rattle.pddl_task.specs.Task.{is_changing_pred, is_changing_func}
use Rattle.plan_step.specs.State.{PlanState, initial}
use Rattle.ground_numbers.specs.declared.named.Named.{Named}
use Rattle.ground_numbers.specs.Numbers.{same, is_listed, number_in}

-- what is true or false in a ground state: an atom, or that a function has a value
pub data Proposition : Type 0 where
  atom : Named → Proposition
  valued : Named → Proposition

abbrev pub same_proposition : Proposition → Proposition → Bool
same_proposition (atom a) (atom b) = same a b
same_proposition (atom a) (valued b) = false
same_proposition (valued a) (atom b) = false
same_proposition (valued a) (valued b) = same a b

-- which predicates and functions change, the initial state, and the functions and propositions in order of number
pub record Setting : Type 0 where
  pub changing_pred : ℕ → Bool
  pub changing_func : ℕ → Bool
  pub start : PlanState
  pub funcs : List Named
  pub propositions : List Proposition

-- the value of a function in a state
abbrev pub value_in : PlanState → Named → Option Fraction
value_in s k = s.value k.symbol k.args

-- the truth of a proposition in a state
abbrev pub truth_in : PlanState → Proposition → Bool
truth_in s (atom k) = s.truth k.symbol k.args
truth_in s (valued k) = is_some (value_in s k)

-- the functions without an initial value
abbrev pub missing : PlanState → List Named → List Named
missing start funcs = filter (λ k. not (is_some (value_in start k))) funcs

-- the setting of a task from a start, with these numbered atoms and functions: after all atoms it is a proposition that a
-- function has a value, for those without one at the start, in order of function number
abbrev pub setting_from : TaskParts → PlanState → List Named → List Named → Setting
setting_from task start atoms funcs = record {
  changing_pred = is_changing_pred task.actions;
  changing_func = is_changing_func task.actions;
  start = start;
  funcs = funcs;
  propositions = map atom atoms ++ map valued (missing start funcs);
}

abbrev pub setting_of : TaskParts → List Named → List Named → Setting
setting_of task atoms funcs = setting_from task (initial task) atoms funcs

-- the number of a function
abbrev pub func_number : Setting → Named → ℕ
func_number set k = number_in same set.funcs k

-- the number of a proposition
abbrev pub proposition_number : Setting → Proposition → ℕ
proposition_number set x = number_in same_proposition set.propositions x

abbrev pub are_numbered : Setting → List Named → Bool
are_numbered set reads = list_all (is_listed same set.funcs) reads
