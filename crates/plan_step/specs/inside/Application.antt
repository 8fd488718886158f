-- What applying changes to a state of the program answers.
use Rattle.std.specs.Prelude.{◌≡◌, ℕ, Bool, List, Option, Some, Result, Ok, Err, if◌then◌else◌}
use Rattle.std.specs.List.{list_any}
use Rattle.std.specs.Bool.{beq}
use Rattle.rational.specs.Fraction.{Fraction}
use Rattle.frac128.specs.declared.operations.Wide.{Wide}
use Rattle.plan_step.specs.declared.failure.StepFail.{StepFail}
use Rattle.plan_step.specs.declared.failure.StepFail.TheVariants as fail
use Rattle.plan_step.specs.State.{PlanState}
use Rattle.plan_step.specs.Places.{with_atom, with_function}
use Rattle.plan_step.specs.declared.touches.Touch.{Touch}
use Rattle.plan_step.specs.declared.touches.Touch.TheVariants as touch
use Rattle.plan_step.specs.Met.{Met, found, passes}
use Rattle.plan_step.specs.Effects.{changed}
use Rattle.plan_step.specs.Meaning.{Change, puts}

-- the atoms that changes put to this truth have it
abbrev pub with_truths : Bool → List Change → PlanState → PlanState
with_truths truth changes state = record {
  truth = λ p args. if list_any (puts truth p args) changes then truth else state.truth p args;
  value = state.value;
}

-- one touch with this truth
abbrev pub put_by : Bool → Touch → PlanState → PlanState
put_by truth (touch.Atom sign p args old) state = if beq sign truth then with_atom state p args truth else state
put_by truth (touch.Function op f args by old) state = state

-- what a touch keeps is put back
abbrev pub put_back : Touch → PlanState → PlanState
put_back (touch.Atom sign p args old) state = with_atom state p args old
put_back (touch.Function op f args by old) state = with_function state f args old

-- one function has the value that is meant, or the operation passes and nothing is changed
abbrev pub FunctionChanges : Met Fraction → ℕ → List ℕ → PlanState → PlanState → Result (Unit {0}) Wide → Type 0
FunctionChanges meant f args old new (Ok _) = (x : Fraction) × (meant ≡ found x) × (new ≡ with_function old f args (Some x))
FunctionChanges meant f args old new (Err w) = (meant ≡ passes w) × (new ≡ old)

abbrev pub TouchChanges : Touch → PlanState → PlanState → Result (Unit {0}) Wide → Type 0
TouchChanges (touch.Atom sign p args old) before after (Ok _) = after ≡ before
TouchChanges (touch.Atom sign p args old) before after (Err w) = ⊥
TouchChanges (touch.Function op f args by old) before after r = FunctionChanges (changed op (before.value f args) by) f args before after r

-- all functions have the values that are meant and the atoms are as before, or an operation passes
abbrev pub ValuesChange : Met (ℕ → List ℕ → Option Fraction) → PlanState → PlanState → Result (Unit {0}) Wide → Type 0
ValuesChange meant old new (Ok _) = (meant ≡ found new.value) × (new.truth ≡ old.truth)
ValuesChange meant old new (Err w) = meant ≡ passes w

-- the state is what is meant, or an operation passes and nothing is changed
abbrev pub IsAfter : Result PlanState StepFail → PlanState → PlanState → Result (Unit {0}) Wide → Type 0
IsAfter meant old new (Ok _) = meant ≡ Ok new
IsAfter meant old new (Err w) = (meant ≡ Err (fail.Wide w)) × (new ≡ old)
