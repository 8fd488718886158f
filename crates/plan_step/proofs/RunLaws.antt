-- Steps and runs end in one state.
use Rattle.std.proofs.Common.{◌≡◌, true, List, [], ◌∷◌, map, Some, refl, sym, ap, subst, ◌∙◌}
use Rattle.pddl_task.specs.declared.action.Action.{Action}
use Rattle.pddl_task.specs.declared.instance.Instance.{Instance}
use Rattle.pddl_task.specs.declared.parts.TaskParts.{TaskParts}
use Rattle.plan_step.specs.State.{PlanState, initial}
use Rattle.plan_step.specs.Meaning.{Change, truth_after, all_hold, change_of, value_after, HasStep, Run, ended, stepped, IsValidPlan}
use Rattle.plan_step.proofs.Truths.{one_state}
use Rattle.plan_step.proofs.StepLaws.{one_list}

same_action : (a b : Action) → Some a ≡ Some b → a ≡ b
same_action a b is = cc

-- a step ends in one state
pub one_step : (task : TaskParts) (old s t : PlanState) (by : Instance) → HasStep task old by s → HasStep task old by t → s ≡ t
one_step task old s t by h k =
    let action : h.action ≡ k.action = same_action h.action k.action (sym h.of_action.is_action ∙ k.of_action.is_action) in
    let changes : h.changes ≡ k.changes = one_list h.changes k.changes (sym h.values ∙ ap (λ (a : Action). map (change_of old by.args) a.effs) action ∙ k.values) in
    one_state s t
    (λ p args. h.truth p args ∙ ap (λ (cs : List Change). truth_after cs old.truth p args) changes ∙ sym (k.truth p args))
    (λ f args. h.value f args ∙ ap (λ (cs : List Change). value_after cs f args (old.value f args)) changes ∙ sym (k.value f args))

-- a run begins with a step, or has none
pub split : (task : TaskParts) (s t : PlanState) (by : Instance) (more : List Instance) → Run task s (by ∷ more) t → (next : PlanState) × HasStep task s by next × Run task next more t
split task s t by more (stepped {t = next} h r) = (next, h, r)

pub stays : (task : TaskParts) (s t : PlanState) → Run task s [] t → s ≡ t
stays task s t (ended same) = one_state s t same.truth same.value

-- a run ends in one state
pub one_run : (task : TaskParts) (plan : List Instance) (old s t : PlanState) → Run task old plan s → Run task old plan t → s ≡ t
one_run task [] old s t r q = sym (stays task old s r) ∙ stays task old t q
one_run task (by ∷ plan) old s t r q =
    let a = split task old s by plan r in
    let b = split task old t by plan q in
    one_run task plan a.0 s t a.2 (let P : PlanState → Type 0 = λ u. Run task u plan t in subst P (sym (one_step task old a.0 b.0 by a.1 b.1)) b.2)

-- the plan of no steps is valid where the goal holds in the initial state, and only there
pub goal_at_start : (task : TaskParts) → all_hold (initial task) [] task.goal ≡ true → IsValidPlan task []
goal_at_start task holds = record {
  end = initial task;
  run = ended (record { truth = λ p args. refl; value = λ f args. refl });
  goal = holds;
}

pub start_has_goal : (task : TaskParts) → IsValidPlan task [] → all_hold (initial task) [] task.goal ≡ true
start_has_goal task valid = ap (λ (s : PlanState). all_hold s [] task.goal) (stays task (initial task) valid.end valid.run) ∙ valid.goal
