-- What the pass over linearity keeps: names of changing functions, and what the arguments of an operation read.
use Rattle.std.specs.Prelude.{◌≡◌, ℕ, Bool, ◌&&◌, ◌||◌, List, [], ◌∷◌, ◌++◌, map, is_some, if◌then◌else◌}
use Rattle.std.specs.List.{flat_map}
use Rattle.name_table.specs.NameTable.{number_in}
use Rattle.pddl_form.specs.declared.fault.Fault.{Fault}
use Rattle.pddl_form.specs.declared.spot.Spot.{Spot}
use Rattle.pddl_condition.specs.declared.expression.ExprAst.{ExprAst}
use Rattle.pddl_domain.specs.declared.action.ActionAst.{ActionAst}
use Rattle.typing_linear.specs.Linear.{Reading, is_nonlinear, is_changing, not_linear, reading_of, scales}

-- a name is one of some names
abbrev pub has_name : List (List ℕ) → List ℕ → Bool
has_name names func = is_some (number_in names func)

-- the names that were there, and those that pass a test
pub record AreAlso (old new : List (List ℕ)) (is_more : List ℕ → Bool) : Type 0 where
  pub also : (func : List ℕ) → has_name new func ≡ (has_name old func || is_more func)

-- the names of the changing functions
pub record AreChanging (actions : List ActionAst) (names : List (List ℕ)) : Type 0 where
  pub are_changing : (func : List ℕ) → has_name names func ≡ is_changing actions func

-- what each argument reads
abbrev pub readings_of : List ActionAst → List ExprAst → List Reading
readings_of actions args = map (reading_of actions) args

-- the faults of an operation, of which the operator is given and what the arguments read
abbrev pub operation_faults : Spot → List Reading → List Fault
operation_faults op args = (if is_nonlinear op.text args then not_linear op.place ∷ [] else []) ++ flat_map (λ r. r.faults) args

-- the faults of a change
abbrev pub change_faults : List ActionAst → Spot → ExprAst → List Fault
change_faults actions op by = (if scales op.text && (reading_of actions by).reads then not_linear op.place ∷ [] else []) ++ (reading_of actions by).faults
