-- The value of an expression in a state, at the arguments of an instance: it is evaluated inside out and from the left,
-- up to the first part that has no value (a function without one, or a division by 0) or the first operation that
-- passes 128 bits (this project). `Meaning` has the same without the bound.
use Rattle.std.specs.Prelude.{ℕ, List, [], ◌∷◌, pos, if◌then◌else◌}
use Rattle.rational.specs.Fraction.{Fraction, whole, neg_ℚ}
use Rattle.frac128.specs.declared.operations.Op.{Op}
use Rattle.frac128.specs.declared.operations.Op.TheVariants as op
use Rattle.pddl_task.specs.declared.expression.Expr.{Expr}
use Rattle.pddl_task.specs.declared.expression.Expr.TheOpen.{Expr-F}
use Rattle.pddl_task.specs.declared.expression.Expr.TheFolds.{fold-Expr}
use Rattle.plan_step.specs.State.{PlanState}
use Rattle.plan_step.specs.Meaning.{objects_of, is_zero_ℤ}
use Rattle.plan_step.specs.Met.{Met, found, lacks, and_then, operated, value_or_none}

-- folded from the left
abbrev pub folded_from : Op → Fraction → List (Met Fraction) → Met Fraction
folded_from op x [] = found x
folded_from op x (m ∷ more) = and_then m (λ y. and_then (operated op x y) (λ z. folded_from op z more))

-- over no parts
abbrev pub empty_fold : Op → Fraction
empty_fold op.Add = whole (pos 0)
empty_fold op.Sub = whole (pos 0)
empty_fold op.Mul = whole (pos 1)
empty_fold op.Div = whole (pos 1)

abbrev pub folded : Op → List (Met Fraction) → Met Fraction
folded op [] = found (empty_fold op)
folded op (m ∷ more) = and_then m (λ x. folded_from op x more)

abbrev pub divided : Fraction → Fraction → Met Fraction
divided x y = if is_zero_ℤ y.num then lacks else operated op.Div x y

abbrev pub evaluation_step : PlanState → List ℕ → Expr-F (Met Fraction) → Met Fraction
evaluation_step state args (Expr-F.Num n) = found n
evaluation_step state args (Expr-F.Call func terms) = value_or_none (state.value func (objects_of args terms))
evaluation_step state args (Expr-F.Add parts) = folded op.Add parts
evaluation_step state args (Expr-F.Mul parts) = folded op.Mul parts
evaluation_step state args (Expr-F.Neg a) = and_then a (λ x. found (neg_ℚ x))
evaluation_step state args (Expr-F.Sub a b) = and_then a (λ x. and_then b (λ y. operated op.Sub x y))
evaluation_step state args (Expr-F.Div a b) = and_then a (λ x. and_then b (λ y. divided x y))

unfoldable pub evaluated : PlanState → List ℕ → Expr → Met Fraction
evaluated state args = fold-Expr (Met Fraction) (evaluation_step state args)
