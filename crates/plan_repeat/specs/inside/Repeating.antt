-- What the repetitions after the first answer, and what is known when they begin.
use Rattle.std.specs.Prelude.{◌≡◌, ◌≢◌, ℕ, ◌<◌, true, false, ◌&&◌, List, length, pos, replicate, slice_index_or, Result, Ok, Err}
use Rattle.std.specs.List.{list_all}
use Rattle.rational.specs.Fraction.{Fraction, whole}
use Rattle.pddl_task.specs.Task.{is_changing_func}
use Rattle.pddl_task.specs.declared.action.Action.{Action}
use Rattle.pddl_task.specs.declared.condition.Cond.{Cond}
use Rattle.pddl_task.specs.declared.effect.Effect.{Effect}
use Rattle.pddl_task.specs.declared.instance.Instance.{Instance}
use Rattle.pddl_task.specs.declared.parts.TaskParts.{TaskParts}
use Rattle.plan_step.specs.declared.touches.Touch.{Touch}
use Rattle.plan_step.specs.State.{PlanState}
use Rattle.plan_step.specs.Making.{StepsBy}
use Rattle.plan_step.specs.Meaning.{IsInstanceOf, Run}
use Rattle.plan_step.specs.Touches.{changes_of, EachTouch, IsKept, HasTarget}
use Rattle.plan_repeat.specs.declared.failure.RepeatFail.{RepeatFail}
use Rattle.plan_repeat.specs.Rolling.{is_even, literal_holds}
use Rattle.plan_repeat.specs.Repeat.{Breaks}
use Rattle.plan_repeat.specs.inside.Jumping.{AreGrowths, IsUnfound}

-- the first step from a state is made, with these touches
pub record IsBegun (task : TaskParts) (by : Instance) (action : Action) (touches : List Touch) (s now : PlanState) : Type 0 where
  pub of_action : IsInstanceOf task by action
  pub steps : StepsBy s action by.args (changes_of touches) now
  pub kept : EachTouch (IsKept s) touches
  pub targets : EachTouch (HasTarget s) touches

-- some growth isn't 0
pub record SomeGrows (qs : List Fraction) : Type 0 where
  pub place : ℕ
  pub within : place < length qs
  pub grows : slice_index_or qs place (whole (pos 0)) ≢ whole (pos 0)

-- after the first step: the instance rolls, and its functions grow by this
pub record Rolls (task : TaskParts) (now : PlanState) (args : List ℕ) (conds : List Cond) (effs : List Effect) (touches : List Touch) (qs : List Fraction) : Type 0 where
  pub even : list_all (is_even (is_changing_func task.actions)) effs ≡ true
  pub literals : list_all (literal_holds now args) conds ≡ true
  pub growths : AreGrowths now touches qs
  pub some : SomeGrows qs

-- no growth is other than 0
abbrev pub NoneGrows : List Fraction → Type 0
NoneGrows qs = (i : ℕ) → i < length qs → slice_index_or qs i (whole (pos 0)) ≡ whole (pos 0)

-- after the first step: the instance doesn't roll, or it isn't found how much its functions grew
pub data IsApart (task : TaskParts) (now : PlanState) (args : List ℕ) (conds : List Cond) (effs : List Effect) (touches : List Touch) : Type 0 where
  uneven : (list_all (is_even (is_changing_func task.actions)) effs && list_all (literal_holds now args) conds) ≡ false → IsApart task now args conds effs touches
  unfound : IsUnfound now touches → IsApart task now args conds effs touches
  still : (qs : List Fraction) → list_all (is_even (is_changing_func task.actions)) effs ≡ true → AreGrowths now touches qs → NoneGrows qs → IsApart task now args conds effs touches

-- a failure leaves the state as it is then
abbrev pub RepeatsOn : TaskParts → Instance → ℕ → PlanState → PlanState → Result (Unit {0}) RepeatFail → Type 0
RepeatsOn task by times s new (Ok _) = Run task s (replicate times by) new
RepeatsOn task by times s new (Err f) = Breaks task s by times f.at f.fail
