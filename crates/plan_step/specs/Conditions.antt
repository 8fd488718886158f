-- Conditions: the list of their leaves, numbered from 0 in text order, each of which has to hold (PDDL 2.1; that a
-- comparison without a value doesn't hold is this project's).
use Rattle.std.specs.Prelude.{ℕ, ◌+◌, Bool, true, false, ◌==◌, List, [], ◌∷◌, map, Result, Ok, Err}
use Rattle.frac128.specs.declared.operations.Wide.{Wide}
use Rattle.pddl_task.specs.declared.condition.Cond.{Cond}
use Rattle.pddl_task.specs.declared.condition.Cond.TheVariants as cond
use Rattle.plan_step.specs.declared.failure.StepFail.{StepFail}
use Rattle.plan_step.specs.declared.failure.StepFail.TheVariants as fail
use Rattle.plan_step.specs.State.{PlanState}
use Rattle.plan_step.specs.Met.{Met, found, lacks, passes, and_then}
use Rattle.plan_step.specs.Meaning.{object_of, objects_of, signed}
use Rattle.plan_step.specs.Evaluation.{evaluated}
use Rattle.plan_step.specs.Order.{related}

-- whether a leaf holds: a literal by the atom's truth, an equality by the objects, a comparison where both sides have
-- values that compare so; the left side is evaluated first
abbrev pub leaf_met : PlanState → List ℕ → Cond → Met Bool
leaf_met state args (cond.Lit pos pred terms) = found (signed pos (state.truth pred (objects_of args terms)))
leaf_met state args (cond.Same pos left right) = found (signed pos (object_of args left == object_of args right))
leaf_met state args (cond.Compare rel left right) = and_then (evaluated state args left) (λ x. and_then (evaluated state args right) (λ y. found (related rel x y)))

-- the first leaf that doesn't hold, counted from this number, or the first operation that passes before one
abbrev pub first_unmet : ℕ → List (Met Bool) → Result (Unit {0}) StepFail
first_unmet i [] = Ok tt
first_unmet i (found true ∷ more) = first_unmet (i + 1) more
first_unmet i (found false ∷ more) = Err (fail.Condition i)
first_unmet i (lacks ∷ more) = Err (fail.Condition i)
first_unmet i (passes w ∷ more) = Err (fail.Wide w)

abbrev pub leaves_met : PlanState → List ℕ → List Cond → List (Met Bool)
leaves_met state args conds = map (leaf_met state args) conds

-- ---- the goal, which has no parameters: whether each leaf holds, tested up to the first that doesn't
abbrev pub all_met : List (Met Bool) → Result Bool Wide
all_met [] = Ok true
all_met (found true ∷ more) = all_met more
all_met (found false ∷ more) = Ok false
all_met (lacks ∷ more) = Ok false
all_met (passes w ∷ more) = Err w

unfoldable pub goal_met : PlanState → List Cond → Result Bool Wide
goal_met state goal = all_met (leaves_met state [] goal)
