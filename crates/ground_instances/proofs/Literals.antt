-- A bound literal over a static predicate is met by its truth at the start.
use Rattle.std.proofs.Common.{◌≡◌, ℕ, Bool, true, false, not, ◌||◌, List, length, sym, ap, ◌∙◌}
use Rattle.std.specs.List.{list_all}
use Rattle.pddl_task.specs.declared.condition.Cond.TheVariants as cond_
use Rattle.pddl_task.specs.declared.expression.Term.{Term}
use Rattle.pddl_task.specs.declared.parts.TaskParts.{TaskParts}
use Rattle.pddl_task.specs.Task.{is_changing_pred}
use Rattle.plan_step.specs.State.{PlanState, initial}
use Rattle.plan_step.specs.Meaning.{objects_of, signed}
use Rattle.ground_instances.specs.inside.Open.{is_bound, met_so_far}

pub lit_met : (task : TaskParts) (s : PlanState) (args : List ℕ) (sign : Bool) (pred : ℕ) (terms : List Term) (objects : List ℕ) (result : Bool)
    → s ≡ initial task → objects ≡ objects_of args terms → list_all (is_bound (length args)) terms ≡ true → is_changing_pred task.actions pred ≡ false
    → result ≡ signed sign (s.truth pred objects) → result ≡ met_so_far task args (cond_.Lit sign pred terms)
lit_met task s args sign pred terms objects result start named bound static answer =
    let truth = (initial task).truth pred (objects_of args terms) in
    answer ∙ ap (λ (t : PlanState). signed sign (t.truth pred objects)) start ∙ ap (λ l. signed sign ((initial task).truth pred l)) named
    ∙ sym (ap (λ b. not b || (is_changing_pred task.actions pred || signed sign truth)) bound ∙ ap (λ b. b || signed sign truth) static)
