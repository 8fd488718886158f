-- Effects: the list of their leaves, numbered from 0 in text order. All right sides are evaluated in the state before
-- the step; then deleted atoms become false, then added atoms become true, and functions change (PDDL 2.1; clashes and
-- functions without a value are this project's).
use Rattle.std.specs.Prelude.{ℕ, ◌+◌, ◌&&◌, ◌==◌, bytes_eq, List, [], ◌∷◌, ◌++◌, Option, Some, Result, Ok, Err, if◌then◌else◌}
use Rattle.std.specs.List.{list_any}
use Rattle.rational.specs.Fraction.{Fraction}
use Rattle.frac128.specs.declared.operations.Op.TheVariants as op
use Rattle.pddl_task.specs.declared.effect.Effect.{Effect}
use Rattle.pddl_task.specs.declared.effect.Effect.TheVariants as effect
use Rattle.pddl_task.specs.declared.effect.NumOp.{NumOp}
use Rattle.pddl_task.specs.declared.effect.NumOp.TheVariants.{Assign, Increase, Decrease, ScaleUp, ScaleDown}
use Rattle.plan_step.specs.declared.failure.StepFail.{StepFail}
use Rattle.plan_step.specs.declared.failure.StepFail.TheVariants as fail
use Rattle.plan_step.specs.State.{PlanState}
use Rattle.plan_step.specs.Met.{Met, found, lacks, passes, and_then, operated, value_or_none}
use Rattle.plan_step.specs.Meaning.{objects_of, is_zero_ℤ, Change, put, change, clashes}
use Rattle.plan_step.specs.Evaluation.{evaluated}

-- ---- the values that a leaf needs

-- the target's value, which `assign` doesn't need
abbrev pub target_met : NumOp → Option Fraction → Met (Unit {0})
target_met Assign value = found tt
target_met Increase value = and_then (value_or_none value) (λ x. found tt)
target_met Decrease value = and_then (value_or_none value) (λ x. found tt)
target_met ScaleUp value = and_then (value_or_none value) (λ x. found tt)
target_met ScaleDown value = and_then (value_or_none value) (λ x. found tt)

-- the amount; a `scale-down` by 0 needs one that isn't there
abbrev pub amount_met : NumOp → Fraction → Met Fraction
amount_met Assign by = found by
amount_met Increase by = found by
amount_met Decrease by = found by
amount_met ScaleUp by = found by
amount_met ScaleDown by = if is_zero_ℤ by.num then lacks else found by

-- the target's value is looked up before the right side is evaluated
abbrev pub change_met : PlanState → List ℕ → Effect → Met Change
change_met state args (effect.Put pos pred terms) = found (put pos pred (objects_of args terms))
change_met state args (effect.Change op func terms by) =
    and_then (target_met op (state.value func (objects_of args terms))) (λ _. and_then (evaluated state args by) (λ x. and_then (amount_met op x) (λ y. found (change op func (objects_of args terms) y))))

abbrev pub more_changes : Change → Result (List Change) StepFail → Result (List Change) StepFail
more_changes c (Ok more) = Ok (c ∷ more)
more_changes c (Err e) = Err e

-- the changes, or the first leaf that needs a value that isn't there, counted from this number, or the first operation
-- that passes before one
abbrev pub all_changes : ℕ → List (Met Change) → Result (List Change) StepFail
all_changes i [] = Ok []
all_changes i (found c ∷ more) = more_changes c (all_changes (i + 1) more)
all_changes i (lacks ∷ more) = Err (fail.NoValue i)
all_changes i (passes w ∷ more) = Err (fail.Wide w)

-- the first leaf that clashes with one in front of it, counted from this number
abbrev pub first_clash : ℕ → List Change → List Change → Result (Unit {0}) StepFail
first_clash i front [] = Ok tt
first_clash i front (c ∷ more) = if list_any (clashes c) front then Err (fail.Clash i) else first_clash (i + 1) (front ++ c ∷ []) more

-- ---- the state after

-- a function's value after a change of it
abbrev pub changed : NumOp → Option Fraction → Fraction → Met Fraction
changed Assign value by = found by
changed Increase value by = and_then (value_or_none value) (λ x. operated op.Add x by)
changed Decrease value by = and_then (value_or_none value) (λ x. operated op.Sub x by)
changed ScaleUp value by = and_then (value_or_none value) (λ x. operated op.Mul x by)
changed ScaleDown value by = and_then (value_or_none value) (λ x. operated op.Div x by)

abbrev pub with_value : (ℕ → List ℕ → Option Fraction) → ℕ → List ℕ → Fraction → ℕ → List ℕ → Option Fraction
with_value values f args x g others = if g == f && bytes_eq others args then Some x else values g others

-- the changes one by one, each from its function's value so far
abbrev pub values_after : List Change → (ℕ → List ℕ → Option Fraction) → Met (ℕ → List ℕ → Option Fraction)
values_after [] values = found values
values_after (put pos p args ∷ more) values = values_after more values
values_after (change op f args by ∷ more) values = and_then (changed op (values f args) by) (λ x. values_after more (with_value values f args x))
