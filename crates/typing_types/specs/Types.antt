-- Types: the faults of the passes over types, of a domain and of a problem. Each is a list of all faults, in no order that
-- matters.
use Rattle.std.specs.Prelude.{ℕ, Bool, true, false, not, ◌&&◌, ◌==◌, bytes_eq, List, [], ◌∷◌, ◌++◌, length, slice_get, Option, Some, None, option_and_then, unwrap_or, if◌then◌else◌}
use Rattle.std.specs.List.{list_all, flat_map}
use Rattle.std.specs.Option.{option_map}
use Rattle.std.specs.Ordering.{int_eq}
use Rattle.rational.specs.Fraction.{Fraction}
use Rattle.hierarchy.specs.Hierarchy.{parent_of, is_own_ancestor}
use Rattle.name_table.specs.NameTable.{number_in}
use Rattle.pddl_form.specs.declared.fault.Fault.{Fault}
use Rattle.pddl_form.specs.declared.spot.Spot.{Spot}
use Rattle.pddl_form.specs.declared.typed.Typed.{Typed}
use Rattle.pddl_condition.specs.declared.expression.ExprAst.{ExprAst}
use Rattle.pddl_condition.specs.declared.expression.ExprAst.TheOpen.{ExprAst-F}
use Rattle.pddl_condition.specs.declared.expression.ExprAst.TheFolds.{fold-ExprAst}
use Rattle.pddl_condition.specs.declared.condition.CondAst.{CondAst}
use Rattle.pddl_condition.specs.declared.condition.CondAst.TheVariants as cond_ast
use Rattle.pddl_form.specs.Names.{is_variable}
use Rattle.pddl_domain.specs.declared.effect.EffAst.{EffAst}
use Rattle.pddl_domain.specs.declared.effect.EffAst.TheVariants as eff_ast
use Rattle.pddl_domain.specs.declared.action.ActionAst.{ActionAst}
use Rattle.pddl_domain.specs.declared.domain.DomainAst.{DomainAst}
use Rattle.pddl_problem.specs.declared.ast.InitAst.{InitAst}
use Rattle.pddl_problem.specs.declared.ast.InitAst.TheVariants as item_ast
use Rattle.pddl_problem.specs.declared.ast.ProblemAst.{ProblemAst}
use Rattle.pddl_task.specs.declared.declared.Object.{Object}
use Rattle.pddl_task.specs.declared.declared.Signature.{Signature}
use Rattle.pddl_task.specs.declared.action.Action.{Action}
use Rattle.pddl_task.specs.Task.{parents}
use Rattle.pddl_task.specs.Typed.{is_among}
use Rattle.typing_uses.specs.Scope.{Scope}
use Rattle.typing_names.specs.Domain.{DomainParts, domain_scope, within}
use Rattle.typing_names.specs.Problem.{ProblemParts, Item, atom, value, problem_scope}

-- another number of arguments than declared (kind 8); a type that doesn't fit, or stands above itself (kind 9); a value or
-- a sign that differs from the one given first (kind 12)
abbrev pub arity : ℕ → Fault
arity place = record { kind = 8; place = place; word = [] }

abbrev pub misfit : ℕ → Fault
misfit place = record { kind = 9; place = place; word = [] }

abbrev pub differs : ℕ → Fault
differs place = record { kind = 12; place = place; word = [] }

-- ---- what fits

-- the names, and what they are declared with
pub record Declared : Type 0 where
  pub scope : Scope
  pub above : List ℕ
  pub objects : List Object
  pub preds : List Signature
  pub funcs : List Signature
  pub params : List (List ℕ)

abbrev pub types_at : List (List ℕ) → Option ℕ → List ℕ
types_at params None = []
types_at params (Some p) = unwrap_or (slice_get params p) []

abbrev pub type_at : List Object → Option ℕ → List ℕ
type_at objects None = []
type_at objects (Some o) = unwrap_or (option_map (λ x. x.of ∷ []) (slice_get objects o)) []

-- the types of a word: those that a variable's parameter allows, or that of an object
abbrev pub types_of : Declared → Spot → List ℕ
types_of d spot = if is_variable spot.text then types_at d.params (number_in d.scope.params spot.text) else type_at d.objects (number_in d.scope.objects spot.text)

-- a word fits where each of its types is one of those allowed or below one
abbrev pub fits : Declared → List ℕ → Spot → Bool
fits d allowed spot = list_all (is_among d.above allowed) (types_of d spot)

abbrev pub argument_faults : Declared → List (List ℕ) → List Spot → List Fault
argument_faults d [] args = []
argument_faults d (allowed ∷ more) [] = []
argument_faults d (allowed ∷ more) (spot ∷ args) = (if fits d allowed spot then [] else misfit spot.place ∷ []) ++ argument_faults d more args

abbrev pub call_faults_at : Declared → Option Signature → Spot → List Spot → List Fault
call_faults_at d None name args = []
call_faults_at d (Some s) name args = (if length args == length s.params then [] else arity name.place ∷ []) ++ argument_faults d s.params args

-- an atom or a function with its arguments
abbrev pub call_faults : Declared → List (List ℕ) → List Signature → Spot → List Spot → List Fault
call_faults d names signatures name args = call_faults_at d (option_and_then (slice_get signatures) (number_in names name.text)) name args

abbrev pub atom_faults : Declared → Spot → List Spot → List Fault
atom_faults d name args = call_faults d d.scope.preds d.preds name args

abbrev pub function_faults : Declared → Spot → List Spot → List Fault
function_faults d name args = call_faults d d.scope.funcs d.funcs name args

-- ---- expressions, conditions and effects

abbrev pub expression_fault_step : Declared → ExprAst-F (List Fault) → List Fault
expression_fault_step d (ExprAst-F.Num n) = []
expression_fault_step d (ExprAst-F.Call name args) = function_faults d name args
expression_fault_step d (ExprAst-F.Op op args) = flat_map (λ faults. faults) args

unfoldable pub expression_faults : Declared → ExprAst → List Fault
expression_faults d = fold-ExprAst (List Fault) (expression_fault_step d)

abbrev pub condition_faults : Declared → CondAst → List Fault
condition_faults d (cond_ast.Lit pos name args) = atom_faults d name args
condition_faults d (cond_ast.Same pos left right) = []
condition_faults d (cond_ast.Compare rel left right) = expression_faults d left ++ expression_faults d right

abbrev pub effect_faults : Declared → EffAst → List Fault
effect_faults d (eff_ast.Put pos name args) = atom_faults d name args
effect_faults d (eff_ast.Change op name args by) = function_faults d name args ++ expression_faults d by

abbrev pub params_of : Option Action → List (List ℕ)
params_of None = []
params_of (Some a) = a.params

abbrev pub inside : Declared → ActionAst → Option Action → Declared
inside d a action = record d { scope = within d.scope a.params; params = params_of action }

abbrev pub body_faults : Declared → ActionAst → List Fault
body_faults d a = flat_map (condition_faults d) a.conds ++ flat_map (effect_faults d) a.effs

-- actions as they are written, with what they come to
abbrev pub action_faults : Declared → List ActionAst → List Action → List Fault
action_faults d [] actions = []
action_faults d (a ∷ more) [] = []
action_faults d (a ∷ more) (action ∷ actions) = body_faults (inside d a (Some action)) a ++ action_faults d more actions

-- ---- types

-- a type is its own ancestor; `object`, which has the number 0, is listed under another
abbrev pub is_on_circle : List ℕ → Option ℕ → Bool
is_on_circle above None = false
is_on_circle above (Some t) = if t == 0 then not (parent_of above 0 == 0) else is_own_ancestor above t

abbrev pub type_faults : List (List ℕ) → List ℕ → Typed → List Fault
type_faults names above t = if is_on_circle above (number_in names t.name.text) then misfit t.name.place ∷ [] else []

-- ---- the pass over a domain's types

abbrev pub domain_declared : DomainAst → DomainParts → Declared
domain_declared d parts = record { scope = domain_scope d; above = parents parts.types; objects = parts.objects; preds = parts.preds; funcs = parts.funcs; params = [] }

unfoldable pub domain_types : DomainAst → DomainParts → List Fault
domain_types d parts =
    flat_map (type_faults (domain_scope d).types (parents parts.types)) d.types ++ action_faults (domain_declared d parts) d.actions parts.actions

-- ---- the pass over a problem's types

abbrev pub item_faults : Declared → InitAst → List Fault
item_faults d (item_ast.Put pos name args place) = atom_faults d name args
item_faults d (item_ast.Value name args amount place) = function_faults d name args

-- the sign that an atom is given first, among some items, and the value that a function is given first
abbrev pub first_sign : ℕ → List ℕ → List Item → Option Bool
first_sign p args [] = None
first_sign p args (atom place pos pred others ∷ more) = if pred == p && bytes_eq others args then Some pos else first_sign p args more
first_sign p args (value place func others amount ∷ more) = first_sign p args more

abbrev pub first_value : ℕ → List ℕ → List Item → Option Fraction
first_value f args [] = None
first_value f args (atom place pos pred others ∷ more) = first_value f args more
first_value f args (value place func others amount ∷ more) = if func == f && bytes_eq others args then Some amount else first_value f args more

abbrev pub other_sign : Bool → Option Bool → Bool
other_sign pos None = false
other_sign true (Some first) = not first
other_sign false (Some first) = first

-- fractions in lowest terms are equal where their two numbers are
abbrev pub same_value : Fraction → Fraction → Bool
same_value x y = int_eq x.num y.num && x.den == y.den

abbrev pub other_value : Fraction → Option Fraction → Bool
other_value amount None = false
other_value amount (Some first) = not (same_value amount first)

abbrev pub differing : List Item → Item → List Fault
differing front (atom place pos pred args) = if other_sign pos (first_sign pred args front) then differs place ∷ [] else []
differing front (value place func args amount) = if other_value amount (first_value func args front) then differs place ∷ [] else []

-- the items that give another sign or another value than was given first, behind those in front
abbrev pub given_again : List Item → List Item → List Fault
given_again front [] = []
given_again front (item ∷ more) = differing front item ++ given_again (front ++ item ∷ []) more

abbrev pub problem_declared : DomainAst → DomainParts → ProblemAst → ProblemParts → Declared
problem_declared d parts p more = record (domain_declared d parts) { scope = problem_scope d p; objects = parts.objects ++ more.objects }

abbrev pub problem_faults : Declared → ProblemAst → List Item → List Fault
problem_faults declared p items = flat_map (item_faults declared) p.init ++ (given_again [] items ++ flat_map (condition_faults declared) p.goal)

unfoldable pub problem_types : DomainAst → DomainParts → ProblemAst → ProblemParts → List Fault
problem_types d parts p more = problem_faults (problem_declared d parts p more) p more.items
