-- Expressions of an instance, made from the inside out: each is a constant, or a linear expression over numbered
-- functions.
use Rattle.std.specs.Prelude.{ℕ, Bool, List, [], ◌∷◌, ◌++◌, pos, Option, Some, None, if◌then◌else◌}
use Rattle.rational.specs.Fraction.{Fraction, whole, neg_ℚ, ◌+ℚ◌, ◌*ℚ◌, inv_ℚ, ◌/ℚ◌}
use Rattle.lin.specs.Linear.{Linear, fixed, var, add, scale}
use Rattle.lin.specs.Negative.{negative}
use Rattle.pddl_task.specs.declared.expression.Expr.{Expr}
use Rattle.pddl_task.specs.declared.expression.Expr.TheOpen.{Expr-F}
use Rattle.pddl_task.specs.declared.expression.Expr.TheFolds.{fold-Expr}
use Rattle.plan_step.specs.Meaning.{objects_of, is_zero_ℤ}
use Rattle.ground_numbers.specs.declared.named.Named.{Named}
use Rattle.ground_numbers.specs.Numbers.{named}
use Rattle.ground_action.specs.Setting.{Setting, value_in, func_number}

-- a constant where it reads no changing function; else those that it reads, as it is written, and a linear expression
pub data Part : Type 0 where
  constant : Fraction → Part
  linear : List Named → Linear → Part

-- it has no value in any state of the instance, it isn't linear, or it is a part
pub data Outcome : Type 0 where
  ends bent : Outcome
  part : Part → Outcome

abbrev pub is_zero : Fraction → Bool
is_zero x = is_zero_ℤ x.num

abbrev pub with_part : (Part → Outcome) → Outcome → Outcome
with_part g ends = ends
with_part g bent = bent
with_part g (part p) = g p

abbrev pub with_parts : (Part → Part → Outcome) → Outcome → Outcome → Outcome
with_parts g a b = with_part (λ p. with_part (g p) b) a

abbrev pub added : Part → Part → Part
added (constant a) (constant b) = constant (a +ℚ b)
added (constant a) (linear r l) = linear r (add (fixed a) l)
added (linear r l) (constant b) = linear r (add l (fixed b))
added (linear r l) (linear q m) = linear (r ++ q) (add l m)

abbrev pub negated : Part → Part
negated (constant a) = constant (neg_ℚ a)
negated (linear r l) = linear r (negative l)

-- the first and the negation of the second
abbrev pub difference : Part → Part → Part
difference p q = added p (negated q)

-- of two factors one at most reads a changing function
abbrev pub multiplied : Part → Part → Outcome
multiplied (constant a) (constant b) = part (constant (a *ℚ b))
multiplied (constant a) (linear r l) = part (linear r (scale a l))
multiplied (linear r l) (constant b) = part (linear r (scale b l))
multiplied (linear r l) (linear q m) = bent

abbrev pub quotient : Part → Fraction → Part
quotient (constant a) c = constant (a /ℚ c)
quotient (linear r l) c = linear r (scale (inv_ℚ c) l)

-- a divisor reads no changing function, and isn't 0
abbrev pub divided : Part → Part → Outcome
divided p (constant c) = if is_zero c then ends else part (quotient p c)
divided p (linear q m) = bent

-- folded from the left
abbrev pub folded_from : (Part → Part → Outcome) → Outcome → List Outcome → Outcome
folded_from g p [] = p
folded_from g p (q ∷ qs) = folded_from g (with_parts g p q) qs

abbrev pub folded : (Part → Part → Outcome) → Fraction → List Outcome → Outcome
folded g unit [] = part (constant unit)
folded g unit (p ∷ ps) = folded_from g p ps

abbrev pub given_part : Option Fraction → Outcome
given_part None = ends
given_part (Some x) = part (constant x)

-- a changing function is a variable; a static one has its value at the start
abbrev pub call_part : Setting → Named → Outcome
call_part set k = if set.changing_func k.symbol then part (linear (k ∷ []) (var (func_number set k))) else given_part (value_in set.start k)

abbrev pub plus_part : Part → Part → Outcome
plus_part p q = part (added p q)

abbrev pub minus_part : Part → Part → Outcome
minus_part p q = part (difference p q)

abbrev pub part_step : Setting → List ℕ → Expr-F Outcome → Outcome
part_step set args (Expr-F.Num n) = part (constant n)
part_step set args (Expr-F.Call func terms) = call_part set (named func (objects_of args terms))
part_step set args (Expr-F.Add parts) = folded plus_part (whole (pos 0)) parts
part_step set args (Expr-F.Mul parts) = folded multiplied (whole (pos 1)) parts
part_step set args (Expr-F.Neg a) = with_part (λ p. part (negated p)) a
part_step set args (Expr-F.Sub a b) = with_parts minus_part a b
part_step set args (Expr-F.Div a b) = with_parts divided a b

unfoldable pub part_of : Setting → List ℕ → Expr → Outcome
part_of set args = fold-Expr Outcome (part_step set args)

abbrev pub reads_of : Part → List Named
reads_of (constant a) = []
reads_of (linear r l) = r

abbrev pub linear_of : Part → Linear
linear_of (constant a) = fixed a
linear_of (linear r l) = l
