-- What finding the touches of a step answers.
use Rattle.std.specs.Prelude.{◌≡◌, ℕ, List, [], map, Result, Ok, Err}
use Rattle.pddl_task.specs.declared.condition.Cond.{Cond}
use Rattle.pddl_task.specs.declared.effect.Effect.{Effect}
use Rattle.plan_step.specs.declared.failure.StepFail.{StepFail}
use Rattle.plan_step.specs.declared.failure.StepFail.TheVariants as fail
use Rattle.plan_step.specs.declared.touches.Touch.{Touch}
use Rattle.plan_step.specs.declared.touches.Touch.TheVariants as touch
use Rattle.plan_step.specs.State.{PlanState}
use Rattle.plan_step.specs.Met.{Met, found, lacks, passes}
use Rattle.plan_step.specs.Meaning.{Change}
use Rattle.plan_step.specs.Conditions.{leaves_met, first_unmet}
use Rattle.plan_step.specs.Effects.{amount_met, change_met, all_changes, first_clash}
use Rattle.plan_step.specs.Step.{then_next}
use Rattle.plan_step.specs.Touches.{target_of, target_in, EachTouch, IsKept, HasTarget}

-- ---- answers

-- the code answers what is meant, want of memory aside
abbrev pub Answers : {A B : Type 0} → (A → B) → Result B StepFail → Result A StepFail → Type 0
Answers f meant (Ok a) = meant ≡ Ok (f a)
Answers f meant (Err fail.Memory) = Unit {0}
Answers f meant (Err e) = meant ≡ Err e

-- what is met at an effect leaf with this number, as the step's answer
abbrev pub leaf_answer : {A : Type 0} → ℕ → Met A → Result A StepFail
leaf_answer leaf (found a) = Ok a
leaf_answer leaf lacks = Err (fail.NoValue leaf)
leaf_answer leaf (passes w) = Err (fail.Wide w)

-- ---- the touches of a step

-- the amount can be used
abbrev pub IsUsable : Touch → Type 0
IsUsable (touch.Atom sign pred args old) = Unit {0}
IsUsable (touch.Function op func args by old) = amount_met op by ≡ found by

-- a leaf's touch in a state
pub record IsTouch (state : PlanState) (args : List ℕ) (leaf : Effect) (t : Touch) : Type 0 where
  pub target : target_of t ≡ target_in args leaf
  pub kept : IsKept state t
  pub usable : IsUsable t
  pub has_target : HasTarget state t

-- all of them
pub record AreTouches (state : PlanState) (args : List ℕ) (leaves : List Effect) (touches : List Touch) : Type 0 where
  pub targets : map target_of touches ≡ map (target_in args) leaves
  pub kept : EachTouch (IsKept state) touches
  pub usable : EachTouch IsUsable touches
  pub has_targets : EachTouch (HasTarget state) touches

-- the changes of leaves: the conditions hold, the values that effects need are there, and no two clash
abbrev pub changes_in : PlanState → List ℕ → List Cond → List Effect → Result (List Change) StepFail
changes_in state args conds effs =
    then_next (first_unmet 0 (leaves_met state args conds)) (λ _.
    then_next (all_changes 0 (map (change_met state args) effs)) (λ changes.
    then_next (first_clash 0 [] changes) (λ _. Ok changes)))
