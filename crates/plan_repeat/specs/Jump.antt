-- The jump over the repetitions of an instance that rolls (this project). Repetition 1 is made as a step; then the last one is
-- evaluated, and where its conditions don't hold the first that fails is looked for by halving; where they do, the state after
-- all repetitions is made. Before repetition n + 1 there are n steps.
use Rattle.std.specs.Prelude.{◌≡◌, ℕ, ◌+◌, ◌-◌, ◌^◌, ◌<◌, ◌≤◌, Bool, true, List, pos, Some, Result, Err}
use Rattle.rational.specs.Fraction.{Fraction, whole}
use Rattle.frac128.specs.Operations.{Passes}
use Rattle.frac128.specs.declared.operations.Wide.{Wide}
use Rattle.pddl_task.specs.declared.condition.Cond.{Cond}
use Rattle.pddl_task.specs.declared.instance.Instance.{Instance}
use Rattle.pddl_task.specs.declared.parts.TaskParts.{TaskParts}
use Rattle.plan_step.specs.declared.failure.StepFail.{StepFail}
use Rattle.plan_step.specs.declared.failure.StepFail.TheVariants as fail
use Rattle.plan_step.specs.State.{PlanState}
use Rattle.plan_step.specs.Conditions.{leaves_met, first_unmet}
use Rattle.plan_step.specs.Meaning.{Change, all_hold, HasStep}
use Rattle.plan_repeat.specs.Rolling.{growth, IsRollable, rolled}
use Rattle.plan_repeat.specs.StepsOn.{IsGrowthOp, above_most}
use Rattle.plan_repeat.specs.Halving.{IsLookedAt}

-- an operation of making the state n steps on: of the new value of a function that has one; a number of steps of 2^127 or more
-- stands as the sum that passes
pub data IsRollOp (changes : List Change) (s : PlanState) (n : ℕ) (w : Wide) : Type 0 where
  many : 2 ^ 127 ≤ n → w ≡ above_most → IsRollOp changes s n w
  grows : (f : ℕ) (args : List ℕ) (x : Fraction) → s.value f args ≡ Some x → IsGrowthOp x (growth changes f args) (whole (pos n)) w → IsRollOp changes s n w

-- the conditions in the state n steps on, evaluated up to the first leaf that doesn't hold
abbrev pub tested : List ℕ → List Cond → List Change → PlanState → ℕ → Result (Unit {0}) StepFail
tested args conds changes s n = first_unmet 0 (leaves_met (rolled changes s n) args conds)

-- and whether they hold
abbrev pub hold_after : List ℕ → List Cond → List Change → PlanState → ℕ → Bool
hold_after args conds changes s n = all_hold (rolled changes s n) args conds

-- an operation of evaluating a repetition, whose number is this: of the state before it, or of its conditions
pub data IsTestOp (args : List ℕ) (conds : List Cond) (changes : List Change) (s : PlanState) (last at : ℕ) (w : Wide) : Type 0 where
  makes : (n : ℕ) → IsLookedAt (hold_after args conds changes s) last n → at ≡ n + 1 → IsRollOp changes s n w → IsTestOp args conds changes s last at w
  tests : (n : ℕ) → IsLookedAt (hold_after args conds changes s) last n → at ≡ n + 1 → tested args conds changes s n ≡ Err (fail.Wide w) → IsTestOp args conds changes s last at w

-- an operation of the jump; where the state after all repetitions is made, the number is that of the last
pub data IsJumpOp (args : List ℕ) (conds : List Cond) (changes : List Change) (s : PlanState) (times at : ℕ) (w : Wide) : Type 0 where
  evaluates : IsTestOp args conds changes s (times - 1) at w → IsJumpOp args conds changes s times at w
  ends : at ≡ times → hold_after args conds changes s (times - 1) ≡ true → IsRollOp changes s times w → IsJumpOp args conds changes s times at w

-- an instance rolls, and at this repetition an operation of the jump passes 128 bits
pub record JumpPasses (task : TaskParts) (s : PlanState) (by : Instance) (times at : ℕ) (w : Wide) : Type 0 where
  pub first : PlanState
  pub step : HasStep task s by first
  pub rolls : IsRollable task step.action by.args step.changes
  pub many : 1 < times
  pub operation : IsJumpOp by.args step.action.conds step.changes s times at w
  pub passes : Passes w.op w.x w.y
