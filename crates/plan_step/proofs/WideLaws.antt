-- An operation that an evaluation, a step, a repetition or the test of a goal answers passes 128 bits: some number that it
-- names is past them.
use Rattle.std.proofs.Common.{◌≡◌, ℕ, ◌+◌, ◌==◌, Bool, true, false, cond, List, [], ◌∷◌, ◌++◌, map, length, Option, Some, None, Result, Ok, Err, arith, subst}
use Rattle.std.proofs.lemmas.Bool.Decides.{nat_tests}
use Rattle.std.proofs.lemmas.List.Folds.{Any-from_list_any}
use Rattle.std.specs.Prelude.{slice_get}
use Rattle.std.specs.List.{list_any}
use lib.IntN.{ℤ}
use Rattle.rational.specs.Fraction.{Fraction}
use Rattle.frac128.specs.Bounds.{IsPast as IsPastBits}
use Rattle.frac128.specs.Operations.{Passes, named_numbers}
use Rattle.frac128.specs.declared.operations.Wide.{Wide}
use Rattle.pddl_task.specs.declared.action.Action.{Action}
use Rattle.pddl_task.specs.declared.condition.Cond.{Cond}
use Rattle.pddl_task.specs.declared.effect.Effect.{Effect}
use Rattle.pddl_task.specs.declared.expression.Expr.{Expr}
use Rattle.pddl_task.specs.declared.instance.Instance.{Instance}
use Rattle.pddl_task.specs.declared.parts.TaskParts.{TaskParts}
use Rattle.plan_step.specs.declared.failure.StepFail.{StepFail}
use Rattle.plan_step.specs.declared.failure.StepFail.TheVariants as fail
use Rattle.plan_step.specs.State.{PlanState}
use Rattle.plan_step.specs.Met.{Met, found, lacks, passes, and_then, is_past, passes_128}
use Rattle.plan_step.specs.Evaluation.{evaluated}
use Rattle.plan_step.specs.Conditions.{leaf_met, leaves_met, first_unmet, all_met, goal_met}
use Rattle.plan_step.specs.Effects.{change_met, all_changes, more_changes, first_clash, changed, with_value, values_after}
use Rattle.plan_step.specs.Step.{then_next, action_with, action_for, typed_arguments, with_values, made_by, step_from}
use Rattle.plan_step.specs.Meaning.{Change, put, change, clashes, all_fit, holds, change_of, changed_by}
use Rattle.plan_step.specs.Laws.{TellsWide}
use Rattle.plan_step.proofs.Meanings.{IsPast, Agrees, passes_is}
use Rattle.plan_step.proofs.LeafLaws.{LeafAgrees, leaf_agrees, change_agrees, changed_agrees}

-- ---- by the numbers that the operation names

past_bits : (z : ℤ) → is_past z ≡ true → IsPastBits z
past_bits z h = grind (arith, nat_tests)

passes_by : (w : Wide) → IsPast w → Passes w.op w.x w.y
unfolding passes_128
passes_by w h = let some = Any-from_list_any is_past (named_numbers w.op w.x w.y) h in (some.0, some.1, some.2, some.3, past_bits some.1 some.4)

pub wide_value : (state : PlanState) (args : List ℕ) (e : Expr) (w : Wide) → evaluated state args e ≡ passes w → Passes w.op w.x w.y
wide_value state args e w is = passes_by w (passes_is state args e w is)

-- ---- answers whose operations pass

abbrev SoundMet : {A : Type 0} → Met A → Type 0
SoundMet (found a) = Unit {0}
SoundMet lacks = Unit {0}
SoundMet (passes w) = IsPast w

abbrev Sound : {A : Type 0} → Result A StepFail → Type 0
Sound (Ok a) = Unit {0}
Sound (Err e) = TellsWide e

abbrev SoundTest : Result Bool Wide → Type 0
SoundTest (Ok b) = Unit {0}
SoundTest (Err w) = Passes w.op w.x w.y

agrees_sound : {A : Type 0} (m : Met A) (o : Option A) → Agrees m o → SoundMet m
agrees_sound (found a) o h = tt
agrees_sound lacks o h = tt
agrees_sound (passes w) o h = h

leaf_sound : (m : Met Bool) (b : Bool) → LeafAgrees m b → SoundMet m
leaf_sound (found c) b h = tt
leaf_sound lacks b h = tt
leaf_sound (passes w) b h = h

next_sound : {A B : Type 0} (r : Result A StepFail) (next : A → Result B StepFail) → Sound r → ((a : A) → Sound (next a)) → Sound (then_next r next)
next_sound (Ok a) next h k = k a
next_sound (Err e) next h k = h

-- ---- the parts of a step

first_sound : (i : ℕ) (m : Met Bool) (ms : List (Met Bool)) → SoundMet m → Sound (first_unmet (i + 1) ms) → Sound (first_unmet i (m ∷ ms))
first_sound i (found true) ms h k = k
first_sound i (found false) ms h k = tt
first_sound i lacks ms h k = tt
first_sound i (passes w) ms h k = passes_by w h

all_sound : (m : Met Bool) (ms : List (Met Bool)) → SoundMet m → SoundTest (all_met ms) → SoundTest (all_met (m ∷ ms))
all_sound (found true) ms h k = k
all_sound (found false) ms h k = tt
all_sound lacks ms h k = tt
all_sound (passes w) ms h k = passes_by w h

more_sound : (c : Change) (r : Result (List Change) StepFail) → Sound r → Sound (more_changes c r)
more_sound c (Ok more) h = tt
more_sound c (Err e) h = h

change_sound : (i : ℕ) (m : Met Change) (ms : List (Met Change)) → SoundMet m → Sound (all_changes (i + 1) ms) → Sound (all_changes i (m ∷ ms))
change_sound i (found c) ms h k = more_sound c (all_changes (i + 1) ms) k
change_sound i lacks ms h k = tt
change_sound i (passes w) ms h k = passes_by w h

module _ (state : PlanState) (args : List ℕ) where
  conditions_sound : (conds : List Cond) (i : ℕ) → Sound (first_unmet i (leaves_met state args conds))
  conditions_sound [] i = tt
  conditions_sound (c ∷ conds) i =
      first_sound i (leaf_met state args c) (leaves_met state args conds) (leaf_sound (leaf_met state args c) (holds state args c) (leaf_agrees state args c)) (conditions_sound conds (i + 1))

  test_sound : (conds : List Cond) → SoundTest (all_met (leaves_met state args conds))
  test_sound [] = tt
  test_sound (c ∷ conds) =
      all_sound (leaf_met state args c) (leaves_met state args conds) (leaf_sound (leaf_met state args c) (holds state args c) (leaf_agrees state args c)) (test_sound conds)

  changes_sound : (effs : List Effect) (i : ℕ) → Sound (all_changes i (map (change_met state args) effs))
  changes_sound [] i = tt
  changes_sound (e ∷ effs) i =
      change_sound i (change_met state args e) (map (change_met state args) effs) (agrees_sound (change_met state args e) (change_of state args e) (change_agrees state args e)) (changes_sound effs (i + 1))

clash_sound : (b : Bool) (i : ℕ) (r : Result (Unit {0}) StepFail) → Sound r → Sound (cond b (Err (fail.Clash i)) r)
clash_sound true i r h = tt
clash_sound false i r h = h

clashes_sound : (cs : List Change) (i : ℕ) (front : List Change) → Sound (first_clash i front cs)
clashes_sound [] i front = tt
clashes_sound (c ∷ cs) i front = clash_sound (list_any (clashes c) front) i (first_clash (i + 1) (front ++ c ∷ []) cs) (clashes_sound cs (i + 1) (front ++ c ∷ []))

then_sound : {A B : Type 0} (m : Met A) (next : A → Met B) → SoundMet m → ((a : A) → SoundMet (next a)) → SoundMet (and_then m next)
then_sound (found a) next h k = k a
then_sound lacks next h k = tt
then_sound (passes w) next h k = h

values_sound : (changes : List Change) (values : ℕ → List ℕ → Option Fraction) → SoundMet (values_after changes values)
values_sound [] values = tt
values_sound (put sign p args ∷ changes) values = values_sound changes values
values_sound (change op f args by ∷ changes) values =
    then_sound (changed op (values f args) by) (λ x. values_after changes (with_value values f args x))
    (agrees_sound (changed op (values f args) by) (changed_by op by (values f args)) (changed_agrees op (values f args) by)) (λ x. values_sound changes (with_value values f args x))

after_sound : (changes : List Change) (state : PlanState) (m : Met (ℕ → List ℕ → Option Fraction)) → SoundMet m → Sound (with_values changes state m)
after_sound changes state (found values) h = tt
after_sound changes state lacks h = tt
after_sound changes state (passes w) h = passes_by w h

counted_sound : (a : Action) (b : Bool) → Sound {A = Action} (cond b (Ok a) (Err fail.Arity))
counted_sound a true = tt
counted_sound a false = tt

action_sound : (n : ℕ) (o : Option Action) → Sound (action_with n o)
action_sound n None = tt
action_sound n (Some a) = counted_sound a (length a.params == n)

typed_sound : (b : Bool) → Sound {A = Unit {0}} (cond b (Ok tt) (Err fail.ArgType))
typed_sound true = tt
typed_sound false = tt

made_sound : (state : PlanState) (a : Action) (args : List ℕ) → Sound (made_by state a args)
made_sound state a args =
    next_sound (first_unmet 0 (leaves_met state args a.conds)) _ (conditions_sound state args a.conds 0)
    (λ _. next_sound (all_changes 0 (map (change_met state args) a.effs)) _ (changes_sound state args a.effs 0)
    (λ changes. next_sound (first_clash 0 [] changes) _ (clashes_sound changes 0 [])
    (λ _. after_sound changes state (values_after changes state.value) (values_sound changes state.value))))

step_sound : (task : TaskParts) (state : PlanState) (by : Instance) → Sound (step_from task state by)
unfolding step_from
step_sound task state by =
    next_sound (action_for task by) _ (action_sound (length by.args) (slice_get task.actions by.action))
    (λ a. next_sound (typed_arguments task a by.args) _ (typed_sound (all_fit task a.params by.args)) (λ _. made_sound state a by.args))

goal_sound : (state : PlanState) (goal : List Cond) → SoundTest (goal_met state goal)
unfolding goal_met
goal_sound state goal = test_sound state [] goal

-- ---- the laws

pub wide_conditions : (state : PlanState) (args : List ℕ) (conds : List Cond) (w : Wide) → first_unmet 0 (leaves_met state args conds) ≡ Err (fail.Wide w) → Passes w.op w.x w.y
wide_conditions state args conds w is = let P : Result (Unit {0}) StepFail → Type 0 = λ r. Sound r in subst P is (conditions_sound state args conds 0)

pub wide_step : (task : TaskParts) (state : PlanState) (by : Instance) (e : StepFail) → step_from task state by ≡ Err e → TellsWide e
wide_step task state by e is = let P : Result PlanState StepFail → Type 0 = λ r. Sound r in subst P is (step_sound task state by)

pub wide_goal : (state : PlanState) (goal : List Cond) (w : Wide) → goal_met state goal ≡ Err w → Passes w.op w.x w.y
wide_goal state goal w is = subst SoundTest is (goal_sound state goal)
