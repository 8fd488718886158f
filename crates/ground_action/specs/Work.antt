-- The operations on fractions that grounding makes, in order, beside what it comes to (this project). A program answers what
-- it comes to where all of them fit, and else the first that passes 128 bits.
use Rattle.std.specs.Prelude.{ℕ, Bool, true, false, ◌&&◌, ◌||◌, List, [], ◌∷◌, ◌++◌, map, pos, is_some, if◌then◌else◌}
use Rattle.std.specs.List.{list_all, flat_map}
use Rattle.rational.specs.Fraction.{Fraction, whole, neg_ℚ}
use Rattle.frac128.specs.declared.operations.Wide.{Wide}
use Rattle.lin.specs.Linear.{Linear, var}
use Rattle.lin.specs.Negative.{negative}
use Rattle.lin.specs.Operations.{adding}
use Rattle.lin.specs.Made.{add_ops, scale_ops, div_ops}
use Rattle.pddl_task.specs.Calls.{all_calls}
use Rattle.pddl_task.specs.declared.action.Action.{Action}
use Rattle.pddl_task.specs.declared.condition.Cond.{Cond}
use Rattle.pddl_task.specs.declared.condition.Cond.TheVariants as cond
use Rattle.pddl_task.specs.declared.condition.Rel.{Rel}
use Rattle.pddl_task.specs.declared.condition.Rel.TheVariants as rel
use Rattle.pddl_task.specs.declared.effect.Effect.{Effect}
use Rattle.pddl_task.specs.declared.effect.Effect.TheVariants as effect
use Rattle.pddl_task.specs.declared.expression.Expr.{Expr}
use Rattle.pddl_task.specs.declared.expression.Expr.TheOpen.{Expr-F}
use Rattle.pddl_task.specs.declared.expression.Expr.TheFolds.{fold-Expr}
use Rattle.plan_step.specs.Meaning.{objects_of}
use Rattle.ground_numbers.specs.declared.named.Named.{Named}
use Rattle.ground_numbers.specs.Numbers.{named, same}
use Rattle.ground_action.specs.Setting.{Setting, value_in, func_number}
use Rattle.ground_action.specs.Parts.{Part, constant, linear, Outcome, ends, bent, part, is_zero, negated, multiplied, divided, call_part, plus_part, minus_part, part_of, linear_of}
use Rattle.ground_action.specs.Leaves.{leaf_of, Act, assign, increase, decrease, scale_up, scale_down, Move, puts_atom, acts, move_of, written, are_clean}
use Rattle.ground_action.specs.GroundAction.{linear_act, constant_of, sum_act, is_stepped, moves_of, may_hold, may_move, is_kept}

-- ---- two parts
abbrev pub plus_ops : Part → Part → List Wide
plus_ops p q = add_ops (linear_of p) (linear_of q)

-- the first and the negation of the second, which is no operation that passes
abbrev pub minus_ops : Part → Part → List Wide
minus_ops p q = plus_ops p (negated q)

-- the constant stands first, of two the first
abbrev pub times_ops : Part → Part → List Wide
times_ops (constant a) q = scale_ops a (linear_of q)
times_ops (linear r l) (constant b) = scale_ops b l
times_ops (linear r l) (linear q m) = []

abbrev pub over_ops : Part → Part → List Wide
over_ops p (constant c) = if is_zero c then [] else div_ops c (linear_of p)
over_ops p (linear q m) = []

-- ---- expressions
pub record Work : Type 0 where
  pub outcome : Outcome
  pub ops : List Wide

abbrev pub work : Outcome → List Wide → Work
work o ops = record { outcome = o; ops = ops }

-- the left one first; where it is no part, the right one isn't made
abbrev pub both_made : (Part → Part → Outcome) → (Part → Part → List Wide) → Outcome → List Wide → Outcome → List Wide → Work
both_made f ops ends xs b ys = work ends xs
both_made f ops bent xs b ys = work bent xs
both_made f ops (part p) xs ends ys = work ends (xs ++ ys)
both_made f ops (part p) xs bent ys = work bent (xs ++ ys)
both_made f ops (part p) xs (part q) ys = work (f p q) (xs ++ (ys ++ ops p q))

abbrev pub with_made : (Part → Part → Outcome) → (Part → Part → List Wide) → Work → Work → Work
with_made f ops a b = both_made f ops a.outcome a.ops b.outcome b.ops

-- folded from the left
abbrev pub made_from : (Part → Part → Outcome) → (Part → Part → List Wide) → Work → List Work → Work
made_from f ops a [] = a
made_from f ops a (b ∷ more) = made_from f ops (with_made f ops a b) more

abbrev pub made_folded : (Part → Part → Outcome) → (Part → Part → List Wide) → Fraction → List Work → Work
made_folded f ops unit [] = work (part (constant unit)) []
made_folded f ops unit (a ∷ more) = made_from f ops a more

abbrev pub negative_made : Outcome → List Wide → Work
negative_made ends xs = work ends xs
negative_made bent xs = work bent xs
negative_made (part p) xs = work (part (negated p)) xs

abbrev pub work_step : Setting → List ℕ → Expr-F Work → Work
work_step set args (Expr-F.Num n) = work (part (constant n)) []
work_step set args (Expr-F.Call func terms) = work (call_part set (named func (objects_of args terms))) []
work_step set args (Expr-F.Add parts) = made_folded plus_part plus_ops (whole (pos 0)) parts
work_step set args (Expr-F.Mul parts) = made_folded multiplied times_ops (whole (pos 1)) parts
work_step set args (Expr-F.Neg a) = negative_made a.outcome a.ops
work_step set args (Expr-F.Sub a b) = with_made minus_part minus_ops a b
work_step set args (Expr-F.Div a b) = with_made divided over_ops a b

-- from the inside out
unfoldable pub work_of : Setting → List ℕ → Expr → Work
work_of set args = fold-Expr Work (work_step set args)

abbrev pub is_part : Outcome → Bool
is_part ends = false
is_part bent = false
is_part (part p) = true

-- both expressions of a comparison
abbrev pub sides_ops : Setting → List ℕ → Expr → Expr → List Wide
sides_ops set args left right = (work_of set args left).ops ++ (if is_part (part_of set args left) then (work_of set args right).ops else [])

-- ---- the tests of an instance, in order
-- each static function that it reads has a value
abbrev pub has_values : Setting → List ℕ → Expr → Bool
has_values set args e = all_calls (λ func terms. set.changing_func func || is_some (value_in set.start (named func (objects_of args terms)))) e

abbrev pub cond_has_values : Setting → List ℕ → Cond → Bool
cond_has_values set args (cond.Lit sign pred terms) = true
cond_has_values set args (cond.Same sign left right) = true
cond_has_values set args (cond.Compare r left right) = has_values set args left && has_values set args right

abbrev pub effect_has_values : Setting → List ℕ → Effect → Bool
effect_has_values set args (effect.Put sign pred terms) = true
effect_has_values set args (effect.Change op func terms by) = has_values set args by

-- a literal or an equality doesn't fail
abbrev pub literal_may_hold : Setting → List ℕ → Cond → Bool
literal_may_hold set args (cond.Lit sign pred terms) = may_hold (leaf_of set args (cond.Lit sign pred terms))
literal_may_hold set args (cond.Same sign left right) = may_hold (leaf_of set args (cond.Same sign left right))
literal_may_hold set args (cond.Compare r left right) = true

-- what comes before any expression: it is clean, its static literals and equalities hold, and its static functions have values
abbrev pub is_begun : Setting → Action → List ℕ → Bool
is_begun set a args = are_clean (map (written args) a.effs) && (list_all (literal_may_hold set args) a.conds
    && (list_all (cond_has_values set args) a.conds && list_all (effect_has_values set args) a.effs))

-- then every expression in text order, up to the first that ends the instance
abbrev pub condition_ops : Setting → List ℕ → Cond → List Wide
condition_ops set args (cond.Lit sign pred terms) = []
condition_ops set args (cond.Same sign left right) = []
condition_ops set args (cond.Compare r left right) = sides_ops set args left right

abbrev pub condition_made : Setting → List ℕ → Cond → Bool
condition_made set args (cond.Lit sign pred terms) = true
condition_made set args (cond.Same sign left right) = true
condition_made set args (cond.Compare r left right) = is_part (part_of set args left) && is_part (part_of set args right)

abbrev pub effect_ops : Setting → List ℕ → Effect → List Wide
effect_ops set args (effect.Put sign pred terms) = []
effect_ops set args (effect.Change op func terms by) = (work_of set args by).ops

-- the operations of those up to the first that isn't made
abbrev pub until_end : {A : Type 0} → (A → Bool) → (A → List Wide) → List A → List Wide
until_end made ops [] = []
until_end made ops (x ∷ xs) = ops x ++ (if made x then until_end made ops xs else [])

abbrev pub expression_ops : Setting → Action → List ℕ → List Wide
expression_ops set a args = until_end (condition_made set args) (condition_ops set args) a.conds
    ++ (if list_all (condition_made set args) a.conds then until_end (λ e. may_move (move_of set args e)) (effect_ops set args) a.effs else [])

-- ---- the parts of a kept instance
-- the difference of two sides that aren't both constants
abbrev pub side_ops : Rel → Part → Part → List Wide
side_ops rel.Lt p q = minus_ops p q
side_ops rel.Le p q = minus_ops p q
side_ops rel.Eq p q = minus_ops p q
side_ops rel.Ge p q = minus_ops q p
side_ops rel.Gt p q = minus_ops q p

abbrev pub parts_ops : Rel → Part → Part → List Wide
parts_ops r (constant a) (constant b) = []
parts_ops r (constant a) (linear q m) = side_ops r (constant a) (linear q m)
parts_ops r (linear p l) q = side_ops r (linear p l) q

abbrev pub outcomes_ops : Rel → Outcome → Outcome → List Wide
outcomes_ops r ends b = []
outcomes_ops r bent b = []
outcomes_ops r (part p) ends = []
outcomes_ops r (part p) bent = []
outcomes_ops r (part p) (part q) = parts_ops r p q

abbrev pub comparison_ops : Setting → List ℕ → Cond → List Wide
comparison_ops set args (cond.Lit sign pred terms) = []
comparison_ops set args (cond.Same sign left right) = []
comparison_ops set args (cond.Compare r left right) = outcomes_ops r (part_of set args left) (part_of set args right)

abbrev pub fold_ops : {A : Type 0} → (Act → A → A) → (Act → A → List Wide) → Named → List Move → A → List Wide
fold_ops f ops k [] so_far = []
fold_ops f ops k (puts_atom sign j ∷ more) so_far = fold_ops f ops k more so_far
fold_ops f ops k (acts j a ∷ more) so_far = if same j k then ops a so_far ++ fold_ops f ops k more (f a so_far) else fold_ops f ops k more so_far

-- a sum starts from 0, and each decrease is negated
abbrev pub sum_ops : Act → Fraction → List Wide
sum_ops (assign p) q = []
sum_ops (increase p) q = adding q (constant_of p) ∷ []
sum_ops (decrease p) q = adding q (neg_ℚ (constant_of p)) ∷ []
sum_ops (scale_up a) q = []
sum_ops (scale_down a) q = []

abbrev pub act_ops : Act → Linear → List Wide
act_ops (assign p) l = []
act_ops (increase p) l = add_ops l (linear_of p)
act_ops (decrease p) l = add_ops l (negative (linear_of p))
act_ops (scale_up a) l = scale_ops a l
act_ops (scale_down a) l = div_ops a l

-- a new value starts from the function itself
abbrev pub func_ops : Setting → List Move → Named → List Wide
func_ops set moves k =
    if is_stepped moves k then fold_ops sum_act sum_ops k moves (whole (pos 0)) else fold_ops linear_act act_ops k moves (var (func_number set k))

-- comparisons in text order, then functions in rising number
abbrev pub part_ops : Setting → Action → List ℕ → List Wide
part_ops set a args = flat_map (comparison_ops set args) a.conds ++ flat_map (func_ops set (moves_of set a args)) set.funcs

-- ---- the whole instance: where an expression ends it or a static comparison fails, it isn't kept
abbrev pub instance_ops : Setting → Action → List ℕ → List Wide
instance_ops set a args = if is_begun set a args then expression_ops set a args ++ (if is_kept set a args then part_ops set a args else []) else []

-- ---- the goal: its leaves one by one, each made whole before the next
abbrev pub goal_leaf_ops : Setting → Cond → List Wide
goal_leaf_ops set c = if cond_has_values set [] c then condition_ops set [] c ++ comparison_ops set [] c else []

abbrev pub goal_ops : Setting → List Cond → List Wide
goal_ops set goal = flat_map (goal_leaf_ops set) goal
