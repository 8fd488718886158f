-- By what a step can be undone.
use Rattle.std.specs.Prelude.{◌≡◌, List, map}
use Rattle.plan_step.specs.declared.touches.Touch.{Touch}
use Rattle.plan_step.specs.State.{PlanState}
use Rattle.plan_step.specs.Held.{Held, state_of}
use Rattle.plan_step.specs.Touches.{Target, target_of, EachTouch, IsKept, HasPlace, DiffersIn}

-- the state was another before these targets were touched, and the touches say how
pub record WasBefore (targets : List Target) (old : PlanState) (new : Held) (touches : List Touch) : Type 0 where
  pub targets_are : map target_of touches ≡ targets
  pub kept : EachTouch (IsKept old) touches
  pub places : EachTouch (HasPlace new) touches
  pub differs : DiffersIn targets old (state_of new)
