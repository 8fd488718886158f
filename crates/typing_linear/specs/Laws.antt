-- Linearity of names is linearity of numbers.
use Rattle.std.specs.Prelude.{◌≡◌, Bool, true, false, List, [], ◌∷◌}
use Rattle.pddl_form.specs.declared.fault.Fault.{Fault}
use Rattle.pddl_form.specs.Judged.{good}
use Rattle.pddl_condition.specs.declared.expression.ExprAst.{ExprAst}
use Rattle.pddl_domain.specs.declared.action.ActionAst.{ActionAst}
use Rattle.pddl_task.specs.declared.action.Action.{Action}
use Rattle.pddl_task.specs.declared.expression.Expr.{Expr}
use Rattle.pddl_task.specs.Task.{is_changing_func}
use Rattle.pddl_task.specs.Linear.{Linearity, linearity_of}
use Rattle.typing_uses.specs.Scope.{Scope}
use Rattle.typing_uses.specs.Expressions.{expression_named}
use Rattle.typing_names.specs.Domain.{actions_named}
use Rattle.typing_linear.specs.Linear.{Reading, reading_of}

abbrev pub is_faultless : List Fault → Bool
is_faultless [] = true
is_faultless (f ∷ more) = false

-- both read a changing function or neither does, and both are linear or neither is
pub record IsAlike (written : Reading) (made : Linearity) : Type 0 where
  pub reads : written.reads ≡ made.reads
  pub linear : is_faultless written.faults ≡ made.linear

-- an expression as it is written, with the actions as they are written, reads a changing function exactly where the
-- expression that it resolves to does, with the actions that those resolve to, and it is linear exactly where that one is
abbrev pub ReadsAlike : Type 0
ReadsAlike =
    (scope inner : Scope) (actions : List ActionAst) (made : List Action) (e : ExprAst) (x : Expr)
    → inner.funcs ≡ scope.funcs → actions_named scope actions ≡ good made → expression_named inner e ≡ good x
    → IsAlike (reading_of actions e) (linearity_of (is_changing_func made) x)
