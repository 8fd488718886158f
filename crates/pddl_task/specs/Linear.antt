-- What is linear: of the factors of a product one at most reads a changing function, and a divisor and what scales read
-- none. What an expression reads is by how it is written: x minus x reads x.
use Rattle.std.specs.Prelude.{◌≡◌, ℕ, Bool, true, false, not, ◌&&◌, ◌||◌, nat_le, List, count_by}
use Rattle.std.specs.List.{list_any, list_all}
use Rattle.pddl_task.specs.declared.action.Action.{Action}
use Rattle.pddl_task.specs.declared.condition.Cond.{Cond}
use Rattle.pddl_task.specs.declared.condition.Cond.TheVariants as cond
use Rattle.pddl_task.specs.declared.effect.Effect.{Effect}
use Rattle.pddl_task.specs.declared.effect.Effect.TheVariants as effect
use Rattle.pddl_task.specs.declared.effect.NumOp.{NumOp}
use Rattle.pddl_task.specs.declared.effect.NumOp.TheVariants.{Assign, Increase, Decrease, ScaleUp, ScaleDown}
use Rattle.pddl_task.specs.declared.expression.Expr.{Expr}
use Rattle.pddl_task.specs.declared.expression.Expr.TheOpen.{Expr-F}
use Rattle.pddl_task.specs.declared.expression.Expr.TheFolds.{fold-Expr}
use Rattle.pddl_task.specs.declared.parts.TaskParts.{TaskParts}
use Rattle.pddl_task.specs.Task.{is_changing_func}

-- of an expression: whether it reads a changing function, and whether it is linear
pub record Linearity : Type 0 where
  pub reads : Bool
  pub linear : Bool

abbrev pub linearity : Bool → Bool → Linearity
linearity reads linear = record { reads = reads; linear = linear }

abbrev pub any_reads : List Linearity → Bool
any_reads parts = list_any (λ p. p.reads) parts

abbrev pub all_linear : List Linearity → Bool
all_linear parts = list_all (λ p. p.linear) parts

-- one at most reads
abbrev pub one_reads : List Linearity → Bool
one_reads parts = nat_le (count_by (λ p. p.reads) parts) 1

-- of an operation, by those of its arguments; `changing` says which functions change
abbrev pub linearity_step : (ℕ → Bool) → Expr-F Linearity → Linearity
linearity_step changing (Expr-F.Num n) = linearity false true
linearity_step changing (Expr-F.Call func args) = linearity (changing func) true
linearity_step changing (Expr-F.Add args) = linearity (any_reads args) (all_linear args)
linearity_step changing (Expr-F.Mul args) = linearity (any_reads args) (one_reads args && all_linear args)
linearity_step changing (Expr-F.Neg a) = linearity a.reads a.linear
linearity_step changing (Expr-F.Sub a b) = linearity (a.reads || b.reads) (a.linear && b.linear)
linearity_step changing (Expr-F.Div a b) = linearity (a.reads || b.reads) (not b.reads && (a.linear && b.linear))

unfoldable pub linearity_of : (ℕ → Bool) → Expr → Linearity
linearity_of changing = fold-Expr Linearity (linearity_step changing)

abbrev pub is_linear_condition : (ℕ → Bool) → Cond → Bool
is_linear_condition changing (cond.Lit pos pred args) = true
is_linear_condition changing (cond.Same pos left right) = true
is_linear_condition changing (cond.Compare rel left right) = (linearity_of changing left).linear && (linearity_of changing right).linear

-- `scale-up` and `scale-down` multiply and divide
abbrev pub is_scale : NumOp → Bool
is_scale Assign = false
is_scale Increase = false
is_scale Decrease = false
is_scale ScaleUp = true
is_scale ScaleDown = true

abbrev pub is_linear_effect : (ℕ → Bool) → Effect → Bool
is_linear_effect changing (effect.Put pos pred args) = true
is_linear_effect changing (effect.Change op func args by) = not (is_scale op && (linearity_of changing by).reads) && (linearity_of changing by).linear

abbrev pub is_linear_action : (ℕ → Bool) → Action → Bool
is_linear_action changing a = list_all (is_linear_condition changing) a.conds && list_all (is_linear_effect changing) a.effs

-- the whole task, by the functions that its own actions change
pub record IsLinear (task : TaskParts) : Type 0 where
  pub actions : list_all (is_linear_action (is_changing_func task.actions)) task.actions ≡ true
  pub goal : list_all (is_linear_condition (is_changing_func task.actions)) task.goal ≡ true
