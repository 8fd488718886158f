-- What a plan means, in unlimited fractions (PDDL 2.1, level 2; rules for functions without a value and for two changes of
-- one function are this project's): values, conditions, the step of an instance, runs and valid plans.
use Rattle.std.specs.Prelude.{◌≡◌, ℕ, ◌<◌, Bool, true, false, not, ◌&&◌, ◌||◌, ◌==◌, bytes_eq, List, [], ◌∷◌, map, length, slice_get, slice_index, ℤ, pos, Option, Some, None, option_and_then, is_some, if◌then◌else◌}
use Rattle.std.specs.List.{list_all, list_any}
use Rattle.std.specs.Option.{option_map}
use Rattle.rational.specs.Fraction.{Fraction, whole, neg_ℚ, ◌+ℚ◌, ◌-ℚ◌, ◌*ℚ◌, ◌/ℚ◌}
use Rattle.hierarchy.specs.Hierarchy.{is_below}
use Rattle.pddl_task.specs.declared.action.Action.{Action}
use Rattle.pddl_task.specs.declared.condition.Cond.{Cond}
use Rattle.pddl_task.specs.declared.condition.Cond.TheVariants as cond
use Rattle.pddl_task.specs.declared.effect.Effect.{Effect}
use Rattle.pddl_task.specs.declared.effect.Effect.TheVariants as effect
use Rattle.pddl_task.specs.declared.effect.NumOp.{NumOp}
use Rattle.pddl_task.specs.declared.effect.NumOp.TheVariants.{Assign, Increase, Decrease, ScaleUp, ScaleDown}
use Rattle.pddl_task.specs.declared.declared.Object.{Object}
use Rattle.pddl_task.specs.declared.expression.Term.{Term}
use Rattle.pddl_task.specs.declared.expression.Term.TheVariants as term
use Rattle.pddl_task.specs.declared.expression.Expr.{Expr}
use Rattle.pddl_task.specs.declared.expression.Expr.TheOpen.{Expr-F}
use Rattle.pddl_task.specs.declared.expression.Expr.TheFolds.{fold-Expr}
use Rattle.pddl_task.specs.declared.instance.Instance.{Instance}
use Rattle.pddl_task.specs.declared.parts.TaskParts.{TaskParts}
use Rattle.pddl_task.specs.Task.{parents}
use Rattle.plan_step.specs.State.{PlanState, initial, IsSameState}
use Rattle.plan_step.specs.Order.{related}

-- ---- the objects of terms

-- the object that a term stands for, at these arguments
abbrev pub object_of : List ℕ → Term → ℕ
object_of args (term.Param p) = slice_index args p
object_of args (term.Object o) = o

abbrev pub objects_of : List ℕ → List Term → List ℕ
objects_of args terms = map (object_of args) terms

-- ---- the value of an expression, or none

-- 0 is written with the numerator 0
abbrev pub is_zero_ℤ : ℤ → Bool
is_zero_ℤ (pos n) = n == 0
is_zero_ℤ _ = false

abbrev pub with_both : (Fraction → Fraction → Fraction) → Option Fraction → Option Fraction → Option Fraction
with_both g None y = None
with_both g (Some x) None = None
with_both g (Some x) (Some y) = Some (g x y)

abbrev pub plus : Fraction → Fraction → Fraction
plus x y = x +ℚ y

abbrev pub times : Fraction → Fraction → Fraction
times x y = x *ℚ y

abbrev pub minus : Fraction → Fraction → Fraction
minus x y = x -ℚ y

abbrev pub sum_of : List (Option Fraction) → Option Fraction
sum_of [] = Some (whole (pos 0))
sum_of (x ∷ more) = with_both plus x (sum_of more)

abbrev pub product_of : List (Option Fraction) → Option Fraction
product_of [] = Some (whole (pos 1))
product_of (x ∷ more) = with_both times x (product_of more)

-- a division by 0 has no value
abbrev pub quotient_of : Option Fraction → Option Fraction → Option Fraction
quotient_of None y = None
quotient_of (Some x) None = None
quotient_of (Some x) (Some y) = if is_zero_ℤ y.num then None else Some (x /ℚ y)

abbrev pub value_step : PlanState → List ℕ → Expr-F (Option Fraction) → Option Fraction
value_step state args (Expr-F.Num n) = Some n
value_step state args (Expr-F.Call func terms) = state.value func (objects_of args terms)
value_step state args (Expr-F.Add parts) = sum_of parts
value_step state args (Expr-F.Mul parts) = product_of parts
value_step state args (Expr-F.Neg a) = option_map neg_ℚ a
value_step state args (Expr-F.Sub a b) = with_both minus a b
value_step state args (Expr-F.Div a b) = quotient_of a b

unfoldable pub value_of : PlanState → List ℕ → Expr → Option Fraction
value_of state args = fold-Expr (Option Fraction) (value_step state args)

-- ---- a condition holds where each of its leaves does

abbrev pub compares : (Fraction → Fraction → Bool) → Option Fraction → Option Fraction → Bool
compares is None y = false
compares is (Some x) None = false
compares is (Some x) (Some y) = is x y

-- with the sign of a literal
abbrev pub signed : Bool → Bool → Bool
signed sign holds = if sign then holds else not holds

abbrev pub holds : PlanState → List ℕ → Cond → Bool
holds state args (cond.Lit sign pred terms) = signed sign (state.truth pred (objects_of args terms))
holds state args (cond.Same sign left right) = signed sign (object_of args left == object_of args right)
holds state args (cond.Compare rel left right) = compares (related rel) (value_of state args left) (value_of state args right)

abbrev pub all_hold : PlanState → List ℕ → List Cond → Bool
all_hold state args conds = list_all (holds state args) conds

-- ---- what the leaves of an effect change

-- a leaf of an effect in an instance, its right side evaluated
pub data Change : Type 0 where
  put : Bool → ℕ → List ℕ → Change
  change : NumOp → ℕ → List ℕ → Fraction → Change

abbrev pub has_target : NumOp → Option Fraction → Bool
has_target Assign value = true
has_target Increase value = is_some value
has_target Decrease value = is_some value
has_target ScaleUp value = is_some value
has_target ScaleDown value = is_some value

-- a `scale-down` by 0 needs an amount that isn't there
abbrev pub amount : NumOp → Fraction → Option Fraction
amount Assign by = Some by
amount Increase by = Some by
amount Decrease by = Some by
amount ScaleUp by = Some by
amount ScaleDown by = if is_zero_ℤ by.num then None else Some by

-- a leaf has the values that it needs, taken in the old state
abbrev pub change_of : PlanState → List ℕ → Effect → Option Change
change_of state args (effect.Put sign pred terms) = Some (put sign pred (objects_of args terms))
change_of state args (effect.Change op func terms by) =
    if has_target op (state.value func (objects_of args terms))
    then option_map (change op func (objects_of args terms)) (option_and_then (amount op) (value_of state args by))
    else None

abbrev pub adds_up : NumOp → Bool
adds_up Assign = false
adds_up Increase = true
adds_up Decrease = true
adds_up ScaleUp = false
adds_up ScaleDown = false

-- two leaves change one function, not both by `increase` or `decrease`
abbrev pub clashes : Change → Change → Bool
clashes (put sign p args) c = false
clashes (change op f args by) (put sign p others) = false
clashes (change op f args by) (change other g others amount) = (f == g && bytes_eq args others) && not (adds_up op && adds_up other)

-- no two leaves change one function, unless both are `increase` or `decrease`
abbrev pub IsClean : List Change → Type 0
IsClean changes = (i j : ℕ) (a b : Change) → i < j → slice_get changes i ≡ Some a → slice_get changes j ≡ Some b → clashes b a ≡ false

abbrev pub puts : Bool → ℕ → List ℕ → Change → Bool
puts truth p args (put sign pred others) = (if truth then sign else not sign) && (pred == p && bytes_eq others args)
puts truth p args (change op f others by) = false

-- deleted atoms become false, and then added atoms true
abbrev pub truth_after : List Change → (ℕ → List ℕ → Bool) → ℕ → List ℕ → Bool
truth_after changes truth p args =
    list_any (puts true p args) changes || (truth p args && not (list_any (puts false p args) changes))

-- a function's value after the changes that are its own: increases and decreases add up
abbrev pub changed_by : NumOp → Fraction → Option Fraction → Option Fraction
changed_by Assign by value = Some by
changed_by Increase by value = option_map (λ x. x +ℚ by) value
changed_by Decrease by value = option_map (λ x. x -ℚ by) value
changed_by ScaleUp by value = option_map (λ x. x *ℚ by) value
changed_by ScaleDown by value = option_map (λ x. x /ℚ by) value

abbrev pub value_after : List Change → ℕ → List ℕ → Option Fraction → Option Fraction
value_after [] f args value = value
value_after (put sign p others ∷ more) f args value = value_after more f args value
value_after (change op g others by ∷ more) f args value = if g == f && bytes_eq others args then value_after more f args (changed_by op by value) else value_after more f args value

-- ---- the step, runs and plans

abbrev pub is_of : List ℕ → List ℕ → Option Object → Bool
is_of above types None = false
is_of above types (Some o) = list_any (λ t. is_below above o.of t) types

-- an object is of one of a parameter's types, or of one below
abbrev pub fits : TaskParts → List ℕ → ℕ → Bool
fits task types o = is_of (parents task.types) types (slice_get task.objects o)

abbrev pub all_fit : TaskParts → List (List ℕ) → List ℕ → Bool
all_fit task [] args = true
all_fit task (types ∷ more) [] = true
all_fit task (types ∷ more) (o ∷ args) = fits task types o && all_fit task more args

-- an instance of an action: it has its number, and an argument of its types for each parameter
pub record IsInstanceOf (task : TaskParts) (by : Instance) (action : Action) : Type 0 where
  pub is_action : slice_get task.actions by.action ≡ Some action
  pub arity : length action.params ≡ length by.args
  pub typed : all_fit task action.params by.args ≡ true

-- an instance has a step from a state to another
pub record HasStep (task : TaskParts) (old : PlanState) (by : Instance) (new : PlanState) : Type 0 where
  pub action : Action
  pub of_action : IsInstanceOf task by action
  pub conditions : all_hold old by.args action.conds ≡ true
  pub changes : List Change
  pub values : map (change_of old by.args) action.effs ≡ map Some changes
  pub clean : IsClean changes
  pub truth : (p : ℕ) (args : List ℕ) → new.truth p args ≡ truth_after changes old.truth p args
  pub value : (f : ℕ) (args : List ℕ) → new.value f args ≡ value_after changes f args (old.value f args)

-- the steps of some instances in turn
pub data Run (task : TaskParts) : PlanState → List Instance → PlanState → Type 0 where
  ended : {s t : PlanState} → IsSameState s t → Run task s [] t
  stepped : {s t u : PlanState} {by : Instance} {more : List Instance} → HasStep task s by t → Run task t more u → Run task s (by ∷ more) u

-- a run from the initial state to a state in which the goal holds
pub record IsValidPlan (task : TaskParts) (plan : List Instance) : Type 0 where
  pub end : PlanState
  pub run : Run task (initial task) plan end
  pub goal : all_hold end [] task.goal ≡ true
