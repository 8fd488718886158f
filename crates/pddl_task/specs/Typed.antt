-- What fits where it stands: each use of a predicate or a function has as many arguments as there are parameters, and each
-- argument fits its parameter (PDDL 2.1, with types; `either` of parameters alone).
use Rattle.std.specs.Prelude.{◌≡◌, ℕ, Bool, true, false, ◌&&◌, List, [], ◌∷◌, map, slice_get, Option, Some, None}
use Rattle.std.specs.List.{list_any, list_all}
use Rattle.hierarchy.specs.Hierarchy.{is_below}
use Rattle.pddl_task.specs.declared.action.Action.{Action}
use Rattle.pddl_task.specs.declared.condition.Cond.{Cond}
use Rattle.pddl_task.specs.declared.condition.Cond.TheVariants as cond
use Rattle.pddl_task.specs.declared.declared.Object.{Object as Declared}
use Rattle.pddl_task.specs.declared.declared.Signature.{Signature}
use Rattle.pddl_task.specs.declared.effect.Effect.{Effect}
use Rattle.pddl_task.specs.declared.effect.Effect.TheVariants as effect
use Rattle.pddl_task.specs.declared.expression.Expr.{Expr}
use Rattle.pddl_task.specs.declared.expression.Term.{Term}
use Rattle.pddl_task.specs.declared.expression.Term.TheVariants.{Param, Object}
use Rattle.pddl_task.specs.declared.start.Fact.{Fact}
use Rattle.pddl_task.specs.declared.start.Given.{Given}
use Rattle.pddl_task.specs.declared.parts.TaskParts.{TaskParts}
use Rattle.pddl_task.specs.Task.{parents}
use Rattle.pddl_task.specs.Calls.{all_calls}

-- ---- arguments; `params` has for each parameter of the action the types that it allows

-- a type is one of these, or below one
abbrev pub is_among : List ℕ → List ℕ → ℕ → Bool
is_among above allowed t = list_any (λ u. is_below above t u) allowed

-- each type that a variable's parameter allows
abbrev pub variable_fits : List ℕ → List ℕ → Option (List ℕ) → Bool
variable_fits above allowed None = false
variable_fits above allowed (Some types) = list_all (is_among above allowed) types

-- the type of an object
abbrev pub object_fits : List ℕ → List ℕ → Option Declared → Bool
object_fits above allowed None = false
object_fits above allowed (Some o) = is_among above allowed o.of

-- a variable fits where each of its own types is one that is allowed or below one, and an object where its type is
abbrev pub term_fits : TaskParts → List (List ℕ) → List ℕ → Term → Bool
term_fits task params allowed (Param p) = variable_fits (parents task.types) allowed (slice_get params p)
term_fits task params allowed (Object o) = object_fits (parents task.types) allowed (slice_get task.objects o)

-- as many arguments as parameters, each of which fits
abbrev pub arguments_fit : TaskParts → List (List ℕ) → List (List ℕ) → List Term → Bool
arguments_fit task params [] [] = true
arguments_fit task params [] (t ∷ args) = false
arguments_fit task params (allowed ∷ more) [] = false
arguments_fit task params (allowed ∷ more) (t ∷ args) = term_fits task params allowed t && arguments_fit task params more args

-- the arguments of what is declared so
abbrev pub call_fits : TaskParts → List (List ℕ) → Option Signature → List Term → Bool
call_fits task params None args = false
call_fits task params (Some s) args = arguments_fit task params s.params args

abbrev pub is_typed_atom : TaskParts → List (List ℕ) → ℕ → List Term → Bool
is_typed_atom task params pred args = call_fits task params (slice_get task.preds pred) args

abbrev pub is_typed_call : TaskParts → List (List ℕ) → ℕ → List Term → Bool
is_typed_call task params func args = call_fits task params (slice_get task.funcs func) args

-- ---- expressions, conditions, effects

-- each function that stands in it is called so
abbrev pub is_typed_expression : TaskParts → List (List ℕ) → Expr → Bool
is_typed_expression task params e = all_calls (is_typed_call task params) e

abbrev pub is_typed_condition : TaskParts → List (List ℕ) → Cond → Bool
is_typed_condition task params (cond.Lit pos pred args) = is_typed_atom task params pred args
is_typed_condition task params (cond.Same pos left right) = true
is_typed_condition task params (cond.Compare rel left right) = is_typed_expression task params left && is_typed_expression task params right

abbrev pub is_typed_effect : TaskParts → List (List ℕ) → Effect → Bool
is_typed_effect task params (effect.Put pos pred args) = is_typed_atom task params pred args
is_typed_effect task params (effect.Change op func args by) = is_typed_call task params func args && is_typed_expression task params by

abbrev pub is_typed_action : TaskParts → Action → Bool
is_typed_action task a = list_all (is_typed_condition task a.params) a.conds && list_all (is_typed_effect task a.params) a.effs

-- ---- the start, whose arguments are objects

abbrev pub objects_as_terms : List ℕ → List Term
objects_as_terms args = map Object args

abbrev pub is_typed_fact : TaskParts → Fact → Bool
is_typed_fact task fact = is_typed_atom task [] fact.pred (objects_as_terms fact.args)

abbrev pub is_typed_given : TaskParts → Given → Bool
is_typed_given task given = is_typed_call task [] given.func (objects_as_terms given.args)

-- the whole task; the goal has no parameters
pub record IsTyped (task : TaskParts) : Type 0 where
  pub actions : list_all (is_typed_action task) task.actions ≡ true
  pub facts : list_all (is_typed_fact task) task.facts ≡ true
  pub values : list_all (is_typed_given task) task.values ≡ true
  pub goal : list_all (is_typed_condition task []) task.goal ≡ true
