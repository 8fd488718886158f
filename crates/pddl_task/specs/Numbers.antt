-- Each number of a task is in range: the types, objects, predicates and functions that it names are there, and a
-- parameter is one of its action's.
use Rattle.std.specs.Prelude.{◌≡◌, ℕ, ◌<◌, ◌^◌, Bool, true, ◌&&◌, nat_lt, List, length}
use Rattle.std.specs.List.{list_all}
use Rattle.pddl_task.specs.declared.action.Action.{Action}
use Rattle.pddl_task.specs.declared.condition.Cond.{Cond}
use Rattle.pddl_task.specs.declared.condition.Cond.TheVariants as cond
use Rattle.pddl_task.specs.declared.effect.Effect.{Effect}
use Rattle.pddl_task.specs.declared.effect.Effect.TheVariants as effect
use Rattle.pddl_task.specs.declared.expression.Expr.{Expr}
use Rattle.pddl_task.specs.declared.expression.Term.{Term}
use Rattle.pddl_task.specs.declared.expression.Term.TheVariants.{Param, Object}
use Rattle.pddl_task.specs.declared.start.Fact.{Fact}
use Rattle.pddl_task.specs.declared.start.Given.{Given}
use Rattle.pddl_task.specs.declared.parts.TaskParts.{TaskParts}
use Rattle.pddl_task.specs.Calls.{all_calls}

-- how many there are of each
pub record Counts : Type 0 where
  pub types : ℕ
  pub objects : ℕ
  pub preds : ℕ
  pub funcs : ℕ

abbrev pub counts_of : TaskParts → Counts
counts_of task = record { types = length task.types; objects = length task.objects; preds = length task.preds; funcs = length task.funcs }

abbrev pub is_term : Counts → ℕ → Term → Bool
is_term counts params (Param p) = nat_lt p params
is_term counts params (Object o) = nat_lt o counts.objects

abbrev pub are_terms : Counts → ℕ → List Term → Bool
are_terms counts params args = list_all (is_term counts params) args

-- one of so many predicates or functions, with its arguments
abbrev pub is_call : Counts → ℕ → ℕ → ℕ → List Term → Bool
is_call counts params declared number args = nat_lt number declared && are_terms counts params args

-- each function that stands in it is called so
abbrev pub is_expression : Counts → ℕ → Expr → Bool
is_expression counts params e = all_calls (is_call counts params counts.funcs) e

abbrev pub is_condition : Counts → ℕ → Cond → Bool
is_condition counts params (cond.Lit pos pred args) = is_call counts params counts.preds pred args
is_condition counts params (cond.Same pos left right) = is_term counts params left && is_term counts params right
is_condition counts params (cond.Compare rel left right) = is_expression counts params left && is_expression counts params right

abbrev pub is_effect : Counts → ℕ → Effect → Bool
is_effect counts params (effect.Put pos pred args) = is_call counts params counts.preds pred args
is_effect counts params (effect.Change op func args by) = is_call counts params counts.funcs func args && is_expression counts params by

-- the types of parameters
abbrev pub are_types : Counts → List (List ℕ) → Bool
are_types counts params = list_all (λ types. list_all (λ t. nat_lt t counts.types) types) params

abbrev pub is_action : Counts → Action → Bool
is_action counts a =
    are_types counts a.params && (list_all (is_condition counts (length a.params)) a.conds && list_all (is_effect counts (length a.params)) a.effs)

abbrev pub are_objects : Counts → List ℕ → Bool
are_objects counts args = list_all (λ o. nat_lt o counts.objects) args

abbrev pub is_fact : Counts → Fact → Bool
is_fact counts fact = nat_lt fact.pred counts.preds && are_objects counts fact.args

abbrev pub is_given : Counts → Given → Bool
is_given counts given = nat_lt given.func counts.funcs && are_objects counts given.args

-- the whole task
pub record IsNumbered (task : TaskParts) : Type 0 where
  pub types : list_all (λ t. nat_lt t.parent (length task.types)) task.types ≡ true
  pub objects : list_all (λ o. nat_lt o.of (length task.types)) task.objects ≡ true
  pub preds : list_all (λ s. are_types (counts_of task) s.params) task.preds ≡ true
  pub funcs : list_all (λ s. are_types (counts_of task) s.params) task.funcs ≡ true
  pub actions : list_all (is_action (counts_of task)) task.actions ≡ true
  pub facts : list_all (is_fact (counts_of task)) task.facts ≡ true
  pub values : list_all (is_given (counts_of task)) task.values ≡ true
  pub goal : list_all (is_condition (counts_of task) 0) task.goal ≡ true

-- so few things of each kind that a number of 32 bits counts them
pub record IsCountable (task : TaskParts) : Type 0 where
  pub types : length task.types < 2 ^ 32
  pub objects : length task.objects < 2 ^ 32
  pub preds : length task.preds < 2 ^ 32
  pub funcs : length task.funcs < 2 ^ 32
  pub actions : length task.actions < 2 ^ 32
