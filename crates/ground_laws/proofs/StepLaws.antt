-- The steps of the kept instances are those of the actions of the ground task.
use Rattle.std.proofs.Common.{◌≡◌, ℕ, true, false, List, [], map, Some, None, slice_get, refl, sym, ap, subst, ◌∙◌}
use Rattle.std.specs.Prelude.{unwrap_or, pos, ◌↔◌}
use Rattle.std.specs.Option.{option_map}
use Rattle.std.proofs.lemmas.Option.{slice_get-map, get_or_from_slice_get}
use Rattle.rational.specs.Fraction.{whole}
use Rattle.pddl_task.specs.Linear.{IsLinear}
use Rattle.pddl_task.specs.declared.instance.Instance.{Instance}
use Rattle.pddl_task.specs.declared.parts.TaskParts.{TaskParts}
use Rattle.plan_step.specs.State.{PlanState, initial}
use Rattle.plan_step.specs.Meaning.{all_hold, HasStep, Run}
use Rattle.task_core.specs.declared.action.GAction.{GAction}
use Rattle.task_core.specs.State.{State}
use Rattle.task_core.specs.Step.{Holds, after}
use Rattle.task_core.specs.Task.{start, action_at}
use Rattle.ground_action.specs.Setting.{value_in, truth_in}
use Rattle.ground_action.specs.GroundAction.{is_kept, ground_action}
use Rattle.ground_action.specs.Agrees.{Agrees}
use Rattle.ground_action.specs.Laws.{IsGroundStep}
use Rattle.ground_action.proofs.FitsLaws.{initial_fits, run_fits}
use Rattle.ground_action.proofs.TaskLaws.{kept_unnumbered, kept_where_step, step_to_ground, ground_to_step, goal_to_ground}
use Rattle.ground_walk.specs.Walk.{Kept, kept_instances, atoms_of, funcs_of}
use Rattle.ground_walk.proofs.NumberLaws.{kept_numbered, goal_numbered}
use Rattle.ground_walk.proofs.StandingLaws.{kept_stands}
use Rattle.ground_laws.specs.Result.{numbered, action_in, task_from}
use Rattle.ground_laws.specs.Laws.{instance_of, IsSeenAs, StepsTo, HasAction}
use Rattle.ground_laws.proofs.Standing.{kept_is, kept_instance}

module _ (task : TaskParts) where
  -- the initial state
  pub start_seen : IsSeenAs task (initial task) (start (task_from task))
  start_seen = record {
    fits = initial_fits task (atoms_of task) (funcs_of task);
    agrees = record {
      truths = λ n x e. get_or_from_slice_get (map (truth_in (initial task)) (numbered task).propositions) n (truth_in (initial task) x) false (slice_get-map (truth_in (initial task)) (numbered task).propositions n ∙ ap (option_map (truth_in (initial task))) e);
      values = λ n k e. ap (λ o. unwrap_or o (whole (pos 0))) (get_or_from_slice_get (map (value_in (initial task)) (funcs_of task)) n (value_in (initial task) k) None (slice_get-map (value_in (initial task)) (funcs_of task) n ∙ ap (option_map (value_in (initial task))) e));
    };
  }

  action_is : (n : ℕ) (k : Kept) → slice_get (kept_instances task) n ≡ Some k → action_at (task_from task) n ≡ ground_action (numbered task) k.action k.args
  action_is n k e = get_or_from_slice_get (map (action_in (numbered task)) (kept_instances task)) n (action_in (numbered task) k) _ (slice_get-map (action_in (numbered task)) (kept_instances task) n ∙ ap (option_map (action_in (numbered task))) e)

  module _ (line : IsLinear task) (n : ℕ) (k : Kept) (e : slice_get (kept_instances task) n ≡ Some k) where
    steps_as : (g : State) (t : PlanState) → IsGroundStep (numbered task) k.action k.args g t → StepsTo task n g t
    steps_as g t h =
        let P : GAction → Type 0 = λ a. Holds a g in
        let Q : GAction → Type 0 = λ a. Agrees (numbered task) t (after a g) in
        record { holds = subst P (sym (action_is n k e)) h.holds; seen = record { fits = h.fits; agrees = subst Q (sym (action_is n k e)) h.agrees } }

    pub step_is : (s t : PlanState) (g : State) → IsSeenAs task s g → HasStep task s (instance_of k) t → StepsTo task n g t
    step_is s t g seen h =
        steps_as g t (step_to_ground task (atoms_of task) (funcs_of task) line (instance_of k) k.action (kept_instance task n k e) (kept_numbered task n k e) s t g seen.fits seen.agrees h)

    pub step_of : (s : PlanState) (g : State) → IsSeenAs task s g → Holds (action_at (task_from task) n) g → (t : PlanState) × (HasStep task s (instance_of k) t × StepsTo task n g t)
    step_of s g seen h =
        let P : GAction → Type 0 = λ a. Holds a g in
        let kept : is_kept (numbered task) k.action k.args ≡ true = sym (kept_unnumbered task (atoms_of task) (funcs_of task) k.action k.args) ∙ (kept_is task n k e).kept in
        let step = ground_to_step task (atoms_of task) (funcs_of task) line (instance_of k) k.action (kept_instance task n k e) (kept_numbered task n k e) s g seen.fits seen.agrees kept (subst P (action_is n k e) h) in
        (step.0, (step.1.0, steps_as g step.0 step.1.1))

  -- what has a step in a state that a plan reaches is an action of the ground task
  pub step_stands : IsLinear task → (s t : PlanState) (plan : List Instance) (by : Instance) → Run task (initial task) plan s → HasStep task s by t
      → HasAction task by
  step_stands line s t plan by run h =
      let fits = run_fits task [] [] (initial task) s plan (initial_fits task [] []) run in
      let stands = kept_stands task by h.action h.of_action (kept_where_step task [] [] line by h.action h.of_action s t fits h) in
      record { number = stands.0; kept = record { number = by.action; action = h.action; args = by.args }; stands = stands.1; is = refl }

  pub goal_is : IsLinear task → (s : PlanState) (g : State) → IsSeenAs task s g → (all_hold s [] task.goal ≡ true) ↔ Holds (task_from task).goal g
  goal_is line s g seen = goal_to_ground task (atoms_of task) (funcs_of task) line s g (goal_numbered task) seen.fits seen.agrees
