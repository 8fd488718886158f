-- Expressions, conditions and effects with numbers for names.
use Rattle.std.specs.Prelude.{ℕ, List, [], ◌∷◌, map, Option, Some, None, codes, bytes_eq, if◌then◌else◌}
use Rattle.pddl_condition.specs.declared.expression.ExprAst.{ExprAst}
use Rattle.pddl_condition.specs.declared.expression.ExprAst.TheOpen.{ExprAst-F}
use Rattle.pddl_condition.specs.declared.expression.ExprAst.TheFolds.{fold-ExprAst}
use Rattle.pddl_condition.specs.declared.condition.CondAst.{CondAst}
use Rattle.pddl_condition.specs.declared.condition.CondAst.TheVariants as cond_ast
use Rattle.pddl_form.specs.Gather.{apply}
use Rattle.pddl_form.specs.declared.spot.Spot.{Spot}
use Rattle.pddl_form.specs.Judged.{Judged, good, both, each}
use Rattle.pddl_form.specs.Sections.{and_then}
use Rattle.pddl_domain.specs.declared.effect.EffAst.{EffAst}
use Rattle.pddl_domain.specs.declared.effect.EffAst.TheVariants as eff_ast
use Rattle.pddl_task.specs.declared.expression.Term.{Term}
use Rattle.pddl_task.specs.declared.expression.Expr.{Expr}
use Rattle.pddl_task.specs.declared.expression.Expr.TheVariants as expr
use Rattle.pddl_task.specs.declared.condition.Rel.{Rel}
use Rattle.pddl_task.specs.declared.condition.Rel.TheVariants as rel
use Rattle.pddl_task.specs.declared.condition.Cond.{Cond}
use Rattle.pddl_task.specs.declared.condition.Cond.TheVariants as cond
use Rattle.pddl_task.specs.declared.effect.NumOp.{NumOp}
use Rattle.pddl_task.specs.declared.effect.NumOp.TheVariants as num_op
use Rattle.pddl_task.specs.declared.effect.Effect.{Effect}
use Rattle.pddl_task.specs.declared.effect.Effect.TheVariants as effect
use Rattle.typing_uses.specs.Scope.{Scope, known_as, named, term_named, terms_named}

-- ---- expressions; an operator with another number of arguments than is named here is nothing

-- `-` with one argument, or with two
abbrev pub minus : List Expr → Option Expr
minus [] = None
minus (a ∷ []) = Some (expr.Neg a)
minus (a ∷ b ∷ []) = Some (expr.Sub a b)
minus (a ∷ b ∷ c ∷ more) = None

-- `/` with two
abbrev pub over : List Expr → Option Expr
over [] = None
over (a ∷ []) = None
over (a ∷ b ∷ []) = Some (expr.Div a b)
over (a ∷ b ∷ c ∷ more) = None

abbrev pub operation : List ℕ → List Expr → Option Expr
operation op args =
    if bytes_eq op (codes "*") then Some (expr.Mul args)
    else (if bytes_eq op (codes "+") then Some (expr.Add args)
    else (if bytes_eq op (codes "-") then minus args
    else (if bytes_eq op (codes "/") then over args
    else None)))

abbrev pub operation_named : Spot → List Expr → Judged Expr
operation_named op args = known_as op (operation op.text args) good

abbrev pub expression_step : Scope → ExprAst-F (Judged Expr) → Judged Expr
expression_step scope (ExprAst-F.Num n) = good (expr.Num n)
expression_step scope (ExprAst-F.Call name args) = both expr.Call (named scope.funcs name) (terms_named scope args)
expression_step scope (ExprAst-F.Op op args) = and_then (each args) (operation_named op)

unfoldable pub expression_named : Scope → ExprAst → Judged Expr
expression_named scope = fold-ExprAst (Judged Expr) (expression_step scope)

-- ---- conditions

abbrev pub relation : List ℕ → Option Rel
relation text =
    if bytes_eq text (codes "<") then Some rel.Lt
    else (if bytes_eq text (codes "<=") then Some rel.Le
    else (if bytes_eq text (codes "=") then Some rel.Eq
    else (if bytes_eq text (codes ">") then Some rel.Gt
    else (if bytes_eq text (codes ">=") then Some rel.Ge
    else None))))

abbrev pub comparison_named : Scope → Spot → ExprAst → ExprAst → Judged Cond
comparison_named scope r left right = known_as r (relation r.text) (λ rel. both (cond.Compare rel) (expression_named scope left) (expression_named scope right))

abbrev pub condition_named : Scope → CondAst → Judged Cond
condition_named scope (cond_ast.Lit pos name args) = both (cond.Lit pos) (named scope.preds name) (terms_named scope args)
condition_named scope (cond_ast.Same pos left right) = both (cond.Same pos) (term_named scope left) (term_named scope right)
condition_named scope (cond_ast.Compare r left right) = comparison_named scope r left right

abbrev pub conditions_named : Scope → List CondAst → Judged (List Cond)
conditions_named scope conds = each (map (condition_named scope) conds)

-- ---- effects

abbrev pub change_operator : List ℕ → Option NumOp
change_operator text =
    if bytes_eq text (codes "assign") then Some num_op.Assign
    else (if bytes_eq text (codes "decrease") then Some num_op.Decrease
    else (if bytes_eq text (codes "increase") then Some num_op.Increase
    else (if bytes_eq text (codes "scale-down") then Some num_op.ScaleDown
    else (if bytes_eq text (codes "scale-up") then Some num_op.ScaleUp
    else None))))

abbrev pub change_by : NumOp → ℕ → List Term → Expr → Effect
change_by op func args by = effect.Change op func args by

abbrev pub change_named : Scope → Spot → Spot → List Spot → ExprAst → Judged Effect
change_named scope op name args by =
    known_as op (change_operator op.text) (λ o. both apply (both (change_by o) (named scope.funcs name) (terms_named scope args)) (expression_named scope by))

abbrev pub effect_named : Scope → EffAst → Judged Effect
effect_named scope (eff_ast.Put pos name args) = both (effect.Put pos) (named scope.preds name) (terms_named scope args)
effect_named scope (eff_ast.Change op name args by) = change_named scope op name args by

abbrev pub effects_named : Scope → List EffAst → Judged (List Effect)
effects_named scope effs = each (map (effect_named scope) effs)
