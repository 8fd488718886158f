-- The ground action of an instance, and whether the instance is kept. Lists in rising number are those numbers that pass a
-- test.
use Rattle.std.specs.Prelude.{ℕ, suc, Bool, true, false, not, ◌&&◌, ◌==◌, List, [], ◌∷◌, ◌++◌, map, pos, Option, Some, None, if◌then◌else◌}
use Rattle.std.specs.List.{list_all, list_any, filter_map, flat_map}
use Rattle.rational.specs.Fraction.{Fraction, whole, neg_ℚ, ◌+ℚ◌, inv_ℚ}
use Rattle.lin.specs.Linear.{Linear, fixed, var, add, scale}
use Rattle.lin.specs.Negative.{negative}
use Rattle.lin.specs.declared.comparison.Cmp.{Cmp}
use Rattle.lin.specs.declared.comparison.Cmp.TheVariants as cmp
use Rattle.task_core.specs.declared.action.GAction.{GAction}
use Rattle.pddl_task.specs.declared.action.Action.{Action}
use Rattle.pddl_task.specs.declared.condition.Cond.{Cond}
use Rattle.ground_numbers.specs.declared.named.Named.{Named}
use Rattle.ground_numbers.specs.Numbers.{same, is_listed, once}
use Rattle.ground_action.specs.Setting.{Setting, Proposition, atom, valued, same_proposition, func_number, proposition_number, are_numbered}
use Rattle.ground_action.specs.Parts.{Part, constant, linear, is_zero, linear_of}
use Rattle.ground_action.specs.Leaves.{Leaf, fails, unclear, nothing, literal, compared, leaf_of, leaf_reads, Act, assign, increase, decrease, scale_up, scale_down, Move, puts_atom, acts, MoveOutcome, move_ends, move_bent, move, move_of, move_reads, written, are_clean}

-- ---- lists in order of number
abbrev pub numbers_where : {A : Type 0} → (A → Bool) → ℕ → List A → List ℕ
numbers_where test n [] = []
numbers_where test n (x ∷ xs) = if test x then n ∷ numbers_where test (suc n) xs else numbers_where test (suc n) xs

abbrev pub with_row : {B : Type 0} → ℕ → Option B → List (ℕ × B) → List (ℕ × B)
with_row n None rows = rows
with_row n (Some b) rows = (n, b) ∷ rows

abbrev pub rows_of : {A B : Type 0} → (A → Option B) → ℕ → List A → List (ℕ × B)
rows_of f n [] = []
rows_of f n (x ∷ xs) = with_row n (f x) (rows_of f (suc n) xs)

-- ---- what becomes of propositions
abbrev pub puts_it : Bool → Named → Move → Bool
puts_it want k (puts_atom sign j) = (if want then sign else not sign) && same j k
puts_it want k (acts j a) = false

abbrev pub is_assign : Act → Bool
is_assign (assign p) = true
is_assign (increase p) = false
is_assign (decrease p) = false
is_assign (scale_up a) = false
is_assign (scale_down a) = false

abbrev pub assigns_it : Named → Move → Bool
assigns_it k (puts_atom sign j) = false
assigns_it k (acts j a) = same j k && is_assign a

abbrev pub is_added : List Move → Proposition → Bool
is_added moves (atom k) = list_any (puts_it true k) moves
is_added moves (valued k) = list_any (assigns_it k) moves

-- deleted, and not added
abbrev pub is_deleted : List Move → Proposition → Bool
is_deleted moves (atom k) = list_any (puts_it false k) moves && not (list_any (puts_it true k) moves)
is_deleted moves (valued k) = false

-- ---- what becomes of functions
-- the acts on one function, in text order
abbrev pub fold_acts : {A : Type 0} → (Act → A → A) → Named → List Move → A → A
fold_acts f k [] so_far = so_far
fold_acts f k (puts_atom sign j ∷ more) so_far = fold_acts f k more so_far
fold_acts f k (acts j a ∷ more) so_far = if same j k then fold_acts f k more (f a so_far) else fold_acts f k more so_far

abbrev pub linear_act : Act → Linear → Linear
linear_act (assign p) l = linear_of p
linear_act (increase p) l = add l (linear_of p)
linear_act (decrease p) l = add l (negative (linear_of p))
linear_act (scale_up a) l = scale a l
linear_act (scale_down a) l = scale (inv_ℚ a) l

abbrev pub is_constant : Part → Bool
is_constant (constant a) = true
is_constant (linear r l) = false

-- an increase or a decrease by a constant
abbrev pub is_step : Act → Bool
is_step (assign p) = false
is_step (increase p) = is_constant p
is_step (decrease p) = is_constant p
is_step (scale_up a) = false
is_step (scale_down a) = false

abbrev pub constant_of : Part → Fraction
constant_of (constant a) = a
constant_of (linear r l) = whole (pos 0)

abbrev pub sum_act : Act → Fraction → Fraction
sum_act (assign p) q = q
sum_act (increase p) q = q +ℚ constant_of p
sum_act (decrease p) q = q +ℚ neg_ℚ (constant_of p)
sum_act (scale_up a) q = q
sum_act (scale_down a) q = q

-- it is no act on the function, or one that passes
abbrev pub passes_on : (Act → Bool) → Named → Move → Bool
passes_on test k (puts_atom sign j) = true
passes_on test k (acts j a) = if same j k then test a else true

-- each act on the function is an increase or a decrease by a constant
abbrev pub is_stepped : List Move → Named → Bool
is_stepped moves k = list_all (passes_on is_step k) moves

abbrev pub nonzero : Fraction → Option Fraction
nonzero q = if is_zero q then None else Some q

-- the sum of such acts, where it isn't 0
abbrev pub increment_of : List Move → Named → Option Fraction
increment_of moves k = if is_stepped moves k then nonzero (fold_acts sum_act k moves (whole (pos 0))) else None

-- what other acts make of the function
abbrev pub new_value_of : Setting → List Move → Named → Option Linear
new_value_of set moves k = if is_stepped moves k then None else Some (fold_acts linear_act k moves (var (func_number set k)))

-- ---- the whole
abbrev pub literal_row : Setting → Leaf → Option (ℕ × Bool)
literal_row set fails = None
literal_row set unclear = None
literal_row set nothing = None
literal_row set (literal x sign) = Some (proposition_number set x, sign)
literal_row set (compared r l c) = None

abbrev pub comparison_row : Leaf → Option (Linear × Cmp)
comparison_row fails = None
comparison_row unclear = None
comparison_row nothing = None
comparison_row (literal x sign) = None
comparison_row (compared r l c) = Some (l, c)

abbrev pub move_in : MoveOutcome → Option Move
move_in move_ends = None
move_in move_bent = None
move_in (move m) = Some m

abbrev pub leaves_of : Setting → Action → List ℕ → List Leaf
leaves_of set a args = map (leaf_of set args) a.conds

abbrev pub moves_of : Setting → Action → List ℕ → List Move
moves_of set a args = filter_map move_in (map (move_of set args) a.effs)

abbrev pub all_reads : List Leaf → List Move → List Named
all_reads leaves moves = flat_map leaf_reads leaves ++ flat_map move_reads moves

abbrev pub is_read : List Named → Proposition → Bool
is_read reads (atom k) = false
is_read reads (valued k) = is_listed same reads k

abbrev pub same_literal : ℕ × Bool → ℕ × Bool → Bool
same_literal a b = a.0 == b.0 && (if a.1 then b.1 else not b.1)

-- literals in text order, a repeated one once, and then for each function that is read and has no initial value, that it has
-- one; comparisons in text order; all else in rising number
abbrev pub action_from : Setting → List Leaf → List Move → GAction
action_from set leaves moves = record {
  lits = once same_literal (filter_map (literal_row set) leaves) ++ map (λ n. (n, true)) (numbers_where (is_read (all_reads leaves moves)) 0 set.propositions);
  cmps = filter_map comparison_row leaves;
  adds = numbers_where (is_added moves) 0 set.propositions;
  dels = numbers_where (is_deleted moves) 0 set.propositions;
  incs = rows_of (increment_of moves) 0 set.funcs;
  sets = rows_of (new_value_of set moves) 0 set.funcs;
}

unfoldable pub ground_action : Setting → Action → List ℕ → GAction
ground_action set a args = action_from set (leaves_of set a args) (moves_of set a args)

-- ---- the goal: an action without effects, in which a leaf that fails is the comparison 1 <= 0
abbrev pub goal_leaf : Leaf → Leaf
goal_leaf fails = compared [] (fixed (whole (pos 1))) cmp.Le
goal_leaf unclear = unclear
goal_leaf nothing = nothing
goal_leaf (literal x sign) = literal x sign
goal_leaf (compared r l c) = compared r l c

abbrev pub goal_leaves : Setting → List Cond → List Leaf
goal_leaves set goal = map (λ c. goal_leaf (leaf_of set [] c)) goal

unfoldable pub ground_goal : Setting → List Cond → GAction
ground_goal set goal = action_from set (goal_leaves set goal) []

-- ---- kept: it is clean, no leaf of its condition fails, and each leaf of its effect is a move
abbrev pub may_hold : Leaf → Bool
may_hold fails = false
may_hold unclear = false
may_hold nothing = true
may_hold (literal x sign) = true
may_hold (compared r l c) = true

abbrev pub may_move : MoveOutcome → Bool
may_move move_ends = false
may_move move_bent = false
may_move (move m) = true

abbrev pub is_kept : Setting → Action → List ℕ → Bool
is_kept set a args = are_clean (map (written args) a.effs) && (list_all may_hold (leaves_of set a args) && list_all may_move (map (move_of set args) a.effs))

-- ---- numbered: each changing function and each proposition that is named has a number
abbrev pub is_literal_numbered : Setting → Leaf → Bool
is_literal_numbered set fails = true
is_literal_numbered set unclear = true
is_literal_numbered set nothing = true
is_literal_numbered set (literal x sign) = is_listed same_proposition set.propositions x
is_literal_numbered set (compared r l c) = true

abbrev pub is_target_numbered : Setting → Move → Bool
is_target_numbered set (puts_atom sign k) = is_listed same_proposition set.propositions (atom k)
is_target_numbered set (acts k a) = is_listed same set.funcs k

abbrev pub is_numbered : Setting → List Leaf → List Move → Bool
is_numbered set leaves moves = are_numbered set (all_reads leaves moves) && (list_all (is_literal_numbered set) leaves && list_all (is_target_numbered set) moves)
