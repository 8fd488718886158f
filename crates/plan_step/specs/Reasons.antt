-- What each failure of a step means, in unlimited fractions. What a step needs is looked for in this order: the action, the
-- types of its arguments, the leaves of its condition, the values that the leaves of its effect need, and that no two of
-- these clash (PDDL 2.1, level 2; the order is this project's).
use Rattle.std.specs.Prelude.{◌≡◌, ℕ, ◌<◌, true, false, List, map, length, take, slice_get, Some, None}
use Rattle.frac128.specs.Operations.{Passes}
use Rattle.pddl_task.specs.declared.action.Action.{Action}
use Rattle.pddl_task.specs.declared.condition.Cond.{Cond}
use Rattle.pddl_task.specs.declared.effect.Effect.{Effect}
use Rattle.pddl_task.specs.declared.instance.Instance.{Instance}
use Rattle.pddl_task.specs.declared.parts.TaskParts.{TaskParts}
use Rattle.plan_step.specs.declared.failure.StepFail.{StepFail}
use Rattle.plan_step.specs.declared.failure.StepFail.TheVariants as fail
use Rattle.plan_step.specs.State.{PlanState}
use Rattle.plan_step.specs.Meaning.{Change, clashes, fits, holds, all_hold, change_of, IsClean, IsInstanceOf}

-- no action has the instance's number and takes so many arguments
abbrev pub HasNoAction : TaskParts → Instance → Type 0
HasNoAction task by = (a : Action) → slice_get task.actions by.action ≡ Some a → length a.params ≡ length by.args → ⊥

-- some argument isn't an object, or isn't of its parameter's types
pub record HasUnfitArgument (task : TaskParts) (by : Instance) : Type 0 where
  pub action : Action
  pub is_action : slice_get task.actions by.action ≡ Some action
  pub arity : length action.params ≡ length by.args
  pub place : ℕ
  pub types : List ℕ
  pub parameter : slice_get action.params place ≡ Some types
  pub object : ℕ
  pub argument : slice_get by.args place ≡ Some object
  pub unfit : fits task types object ≡ false

-- this leaf of the condition doesn't hold, and each one before it does
pub record IsFirstUnmet (task : TaskParts) (s : PlanState) (by : Instance) (i : ℕ) : Type 0 where
  pub action : Action
  pub of_action : IsInstanceOf task by action
  pub leaf : Cond
  pub leaf_is : slice_get action.conds i ≡ Some leaf
  pub before : all_hold s by.args (take i action.conds) ≡ true
  pub unmet : holds s by.args leaf ≡ false

-- the condition holds; this leaf of the effect needs a value that isn't there, and each one before it has what it needs
pub record IsFirstWithoutValue (task : TaskParts) (s : PlanState) (by : Instance) (i : ℕ) : Type 0 where
  pub action : Action
  pub of_action : IsInstanceOf task by action
  pub conditions : all_hold s by.args action.conds ≡ true
  pub leaf : Effect
  pub leaf_is : slice_get action.effs i ≡ Some leaf
  pub changes : List Change
  pub before : map (change_of s by.args) (take i action.effs) ≡ map Some changes
  pub without : change_of s by.args leaf ≡ None

-- the condition holds and all values are there; this leaf of the effect and an earlier one change one function, not both by
-- `increase` or `decrease`, and no two leaves before it do
pub record IsFirstClash (task : TaskParts) (s : PlanState) (by : Instance) (i : ℕ) : Type 0 where
  pub action : Action
  pub of_action : IsInstanceOf task by action
  pub conditions : all_hold s by.args action.conds ≡ true
  pub changes : List Change
  pub values : map (change_of s by.args) action.effs ≡ map Some changes
  pub leaf : Change
  pub leaf_is : slice_get changes i ≡ Some leaf
  pub j : ℕ
  pub earlier : j < i
  pub other : Change
  pub other_is : slice_get changes j ≡ Some other
  pub clash : clashes leaf other ≡ true
  pub before : IsClean (take i changes)

-- the instance has no step from the state by this reason, or an operation passes 128 bits; want of memory says nothing
abbrev pub FailsBy : TaskParts → PlanState → Instance → StepFail → Type 0
FailsBy task s by fail.Arity = HasNoAction task by
FailsBy task s by fail.ArgType = HasUnfitArgument task by
FailsBy task s by (fail.Condition i) = IsFirstUnmet task s by i
FailsBy task s by (fail.NoValue i) = IsFirstWithoutValue task s by i
FailsBy task s by (fail.Clash i) = IsFirstClash task s by i
FailsBy task s by (fail.Wide w) = Passes w.op w.x w.y
FailsBy task s by fail.Memory = Unit {0}
