-- Expressions are finite: how deep operations stand in one another falls from an operation to its parts.
use Rattle.std.proofs.Common.{◌≡◌, ℕ, ◌+◌, ◌<◌, ◌≤◌, max, suc, zero, List, [], ◌∷◌, map, length, get_or, take, drop, arith, ap, sym, ◌∙◌}
use Rattle.pddl_task.specs.declared.expression.Expr.{Expr}
use Rattle.pddl_task.specs.declared.expression.Expr.TheVariants as expr
use Rattle.pddl_task.specs.declared.expression.Expr.TheOpen.{Expr-F}
use Rattle.pddl_task.specs.declared.expression.Expr.TheFolds.{fold-Expr, fold-roll-Expr}

abbrev pub greatest : List ℕ → ℕ
greatest [] = 0
greatest (n ∷ ns) = max n (greatest ns)

abbrev depth_step : Expr-F ℕ → ℕ
depth_step (Expr-F.Num n) = 0
depth_step (Expr-F.Call func terms) = 0
depth_step (Expr-F.Add parts) = greatest parts + 1
depth_step (Expr-F.Mul parts) = greatest parts + 1
depth_step (Expr-F.Neg a) = a + 1
depth_step (Expr-F.Sub a b) = max a b + 1
depth_step (Expr-F.Div a b) = max a b + 1

-- how many operations stand in one another at most
unfoldable pub depth_of : Expr → ℕ
depth_of = fold-Expr ℕ depth_step

abbrev pub deepest : List Expr → ℕ
deepest parts = greatest (map depth_of parts)

pub add_is_deeper : (e : Expr) (parts : List Expr) → e ≡ expr.Add parts → depth_of e ≡ deepest parts + 1
unfolding depth_of
add_is_deeper e parts is = ap depth_of is ∙ ap (fold-Expr ℕ depth_step) (sym (expr.rolls-Add parts)) ∙ fold-roll-Expr ℕ depth_step (Expr-F.Add parts)

pub mul_is_deeper : (e : Expr) (parts : List Expr) → e ≡ expr.Mul parts → depth_of e ≡ deepest parts + 1
unfolding depth_of
mul_is_deeper e parts is = ap depth_of is ∙ ap (fold-Expr ℕ depth_step) (sym (expr.rolls-Mul parts)) ∙ fold-roll-Expr ℕ depth_step (Expr-F.Mul parts)

pub neg_is_deeper : (e a : Expr) → e ≡ expr.Neg a → depth_of e ≡ depth_of a + 1
unfolding depth_of
neg_is_deeper e a is = ap depth_of is ∙ ap (fold-Expr ℕ depth_step) (sym (expr.rolls-Neg a)) ∙ fold-roll-Expr ℕ depth_step (Expr-F.Neg a)

pub sub_is_deeper : (e a b : Expr) → e ≡ expr.Sub a b → depth_of e ≡ max (depth_of a) (depth_of b) + 1
unfolding depth_of
sub_is_deeper e a b is = ap depth_of is ∙ ap (fold-Expr ℕ depth_step) (sym (expr.rolls-Sub a b)) ∙ fold-roll-Expr ℕ depth_step (Expr-F.Sub a b)

pub div_is_deeper : (e a b : Expr) → e ≡ expr.Div a b → depth_of e ≡ max (depth_of a) (depth_of b) + 1
unfolding depth_of
div_is_deeper e a b is = ap depth_of is ∙ ap (fold-Expr ℕ depth_step) (sym (expr.rolls-Div a b)) ∙ fold-roll-Expr ℕ depth_step (Expr-F.Div a b)

pub deepest-get : (parts : List Expr) (i : ℕ) (e : Expr) → i < length parts → e ≡ get_or parts i e → depth_of e ≤ deepest parts
deepest-get [] i e within is = absurd (omega arith)
deepest-get (d ∷ parts) zero e within is = omega (arith, ap depth_of is)
deepest-get (d ∷ parts) (suc i) e within is = omega (arith, deepest-get parts i e (omega arith) is)

deepest-take : (parts : List Expr) (n : ℕ) → deepest (take n parts) ≤ deepest parts
deepest-take parts zero = omega arith
deepest-take [] (suc n) = omega arith
deepest-take (e ∷ parts) (suc n) = omega (arith, deepest-take parts n)

-- parts after the first
pub deepest-after : (parts : List Expr) (n : ℕ) → deepest (take n (drop 1 parts)) ≤ deepest parts
deepest-after [] n = omega (arith, deepest-take [] n)
deepest-after (e ∷ parts) n = omega (arith, deepest-take parts n)
