-- Runs of instances and runs of ground actions, step by step.
use Rattle.std.proofs.Common.{◌≡◌, ℕ, zero, suc, ◌<◌, ◌≤◌, List, [], ◌∷◌, map, length, Some, slice_get, refl, sym, ap, ap₂, subst, ◌∙◌, arith}
use Rattle.std.specs.Prelude.{◌↔◌}
use Rattle.std.specs.List.{AllByRecursion}
use Rattle.std.proofs.lemmas.List.{length-map}
use Rattle.std.proofs.lemmas.Option.{slice_get_within}
use Rattle.pddl_task.specs.Linear.{IsLinear}
use Rattle.pddl_task.specs.declared.instance.Instance.{Instance}
use Rattle.pddl_task.specs.declared.parts.TaskParts.{TaskParts}
use Rattle.plan_step.specs.State.{PlanState, initial}
use Rattle.plan_step.specs.Meaning.{HasStep, Run, ended, stepped, IsValidPlan}
use Rattle.plan_step.proofs.Truths.{one_state}
use Rattle.task_core.specs.State.{State}
use Rattle.task_core.specs.Step.{after}
use Rattle.task_core.specs.Task.{start, action_at}
use Rattle.task_core.specs.Plan as ground_task
use Rattle.task_core.specs.Words.{IsWord}
use Rattle.task_core.specs.Plan.{rolls}
use Rattle.pattern.specs.Pattern.{IsPattern}
use Rattle.pattern.proofs.InPattern.{run-in}
use Rattle.pattern.proofs.Words.{word-of_places}
use Rattle.ground_action.specs.Agrees.{Fits}
use Rattle.ground_action.specs.Setting.{setting_of}
use Rattle.ground_action.proofs.TaskLaws.{kept_where_step}
use Rattle.ground_walk.specs.Walk.{Kept, kept_instances}
use Rattle.ground_walk.proofs.StandingLaws.{kept_stands}
use Rattle.ground_laws.specs.Result.{numbered, action_in, task_from}
use Rattle.ground_laws.specs.Laws.{instance_of, IsSeenAs, HasAction}
use Rattle.ground_laws.proofs.ResultLaws.{is_ground_task}
use Rattle.ground_laws.proofs.StepLaws.{start_seen, step_is, step_of, goal_is}
use Rattle.ground_plans.specs.Plans.{instance_or_none, instance_at, instances_at, ReachesGoal}
use Rattle.ground_plans.proofs.Words.{in_word}

-- a run begins with a step, or has none
first_step : (task : TaskParts) (s t : PlanState) (by : Instance) (more : List Instance) → Run task s (by ∷ more) t → (next : PlanState) × HasStep task s by next × Run task next more t
first_step task s t by more (stepped {t = next} h r) = (next, h, r)

no_step : (task : TaskParts) (s t : PlanState) → Run task s [] t → s ≡ t
no_step task s t (ended same) = one_state s t same.truth same.value

some_at : {A : Type 0} (xs : List A) (n : ℕ) → n < length xs → (x : A) × (slice_get xs n ≡ Some x)
some_at [] n below = absurd (omega arith)
some_at (x ∷ xs) zero below = (x, refl)
some_at (x ∷ xs) (suc n) below = some_at xs n (omega arith)

module _ (task : TaskParts) (line : IsLinear task) where
  -- the number of the kept instance that has a step
  stands : (s t : PlanState) (g : State) (by : Instance) → IsSeenAs task s g → HasStep task s by t → HasAction task by
  stands s t g by seen h =
      let fits : Fits (setting_of task [] []) s = record { preds = seen.fits.preds; funcs = seen.fits.funcs; valued = seen.fits.valued } in
      let there = kept_stands task by h.action h.of_action (kept_where_step task [] [] line by h.action h.of_action s t fits h) in
      record { number = there.0; kept = record { number = by.action; action = h.action; args = by.args }; stands = there.1; is = refl }

  some_kept : (n : ℕ) → n < length (kept_instances task) → (k : Kept) × (slice_get (kept_instances task) n ≡ Some k)
  some_kept n below = some_at (kept_instances task) n below

  instance_is : (n : ℕ) (k : Kept) → slice_get (kept_instances task) n ≡ Some k → instance_at task n ≡ instance_of k
  instance_is n k e = ap instance_or_none e

  -- where a run of ground actions comes to, a run of their instances does
  pub record ComesTo (s : PlanState) (plan : List Instance) (g : State) : Type 0 where
    pub end : PlanState
    pub run : Run task s plan end
    pub seen : IsSeenAs task end g

  pub lifted : (word : List ℕ) (s : PlanState) (g h : State) → AllByRecursion (λ n. n < length (kept_instances task)) word → IsSeenAs task s g
      → ground_task.Run g (map (action_at (task_from task)) word) h → ComesTo s (instances_at task word) h
  lifted [] s g h below seen run = record { end = s; run = ended (record { truth = λ p args. refl; value = λ f args. refl }); seen = subst (IsSeenAs task s) run seen }
  lifted (n ∷ word) s g h below seen run =
      let k = some_kept n below.0 in
      let step = step_of task line n k.0 k.1 s g seen run.0 in
      let rest = lifted word step.0 (after (action_at (task_from task) n) g) h below.1 step.1.1.seen run.1 in
      record {
        end = rest.end;
        run = stepped (subst (λ (by : Instance). HasStep task s by step.0) (sym (instance_is n k.0 k.1)) step.1.0) rest.run;
        seen = rest.seen;
      }

  -- where a run of instances comes to, one of ground actions does
  record HasGroundRun (plan : List Instance) (t : PlanState) (g : State) : Type 0 where
    word : List ℕ
    is : instances_at task word ≡ plan
    below : AllByRecursion (λ n. n < length (kept_instances task)) word
    end : State
    run : ground_task.Run g (map (action_at (task_from task)) word) end
    seen : IsSeenAs task t end

  lowered : (plan : List Instance) (s t : PlanState) (g : State) → IsSeenAs task s g → Run task s plan t → HasGroundRun plan t g
  lowered [] s t g seen run = record {
    word = [];
    is = refl;
    below = tt;
    end = g;
    run = refl;
    seen = subst (λ (u : PlanState). IsSeenAs task u g) (no_step task s t run) seen;
  }
  lowered (by ∷ plan) s t g seen run =
      let first = first_step task s t by plan run in
      let action = stands s first.0 g by seen first.1 in
      let here : HasStep task s (instance_of action.kept) first.0 = subst (λ (x : Instance). HasStep task s x first.0) (sym action.is) first.1 in
      let step = step_is task line action.number action.kept action.stands s first.0 g seen here in
      let rest = lowered plan first.0 t (after (action_at (task_from task) action.number) g) step.seen first.2 in
      record {
        word = action.number ∷ rest.word;
        is = ap₂ (λ (x : Instance) (xs : List Instance). x ∷ xs) (instance_is action.number action.kept action.stands ∙ action.is) rest.is;
        below = (slice_get_within (kept_instances task) action.number action.kept action.stands, rest.below);
        end = rest.end;
        run = (step.holds, rest.run);
        seen = rest.seen;
      }

  -- the same of a run whose numbers are known
  pub lowered_at : (word : List ℕ) (s t : PlanState) (g : State) → AllByRecursion (λ n. n < length (kept_instances task)) word → IsSeenAs task s g
      → Run task s (instances_at task word) t → (end : State) × ground_task.Run g (map (action_at (task_from task)) word) end × IsSeenAs task t end
  lowered_at [] s t g below seen run = (g, refl, subst (λ (u : PlanState). IsSeenAs task u g) (no_step task s t run) seen)
  lowered_at (n ∷ word) s t g below seen run =
      let first = first_step task s t (instance_at task n) (instances_at task word) run in
      let k = some_kept n below.0 in
      let here : HasStep task s (instance_of k.0) first.0 = subst (λ (x : Instance). HasStep task s x first.0) (instance_is n k.0 k.1) first.1 in
      let step = step_is task line n k.0 k.1 s first.0 g seen here in
      let rest = lowered_at word first.0 t (after (action_at (task_from task) n) g) below.1 step.seen first.2 in
      (rest.0, (step.holds, rest.1), rest.2)

  as_many : length (kept_instances task) ≡ length (task_from task).actions
  as_many = sym (length-map (kept_instances task) (action_in (numbered task)))

  numbers : (word : List ℕ) → AllByRecursion (λ n. n < length (kept_instances task)) word → AllByRecursion (λ n. n < length (task_from task).actions) word
  numbers word h = subst (λ (m : ℕ). AllByRecursion (λ n. n < m) word) as_many h

  pub plan_of : (word : List ℕ) → AllByRecursion (λ n. n < length (kept_instances task)) word → ground_task.IsValidPlan (task_from task) word → IsValidPlan task (instances_at task word)
  plan_of word below valid =
      let there = lifted word (initial task) (start (task_from task)) valid.end below (start_seen task) valid.run in
      record { end = there.end; run = there.run; goal = (goal_is task line there.end valid.end there.seen).1 valid.goal }

  pub ground_plan_of : (word : List ℕ) → AllByRecursion (λ n. n < length (kept_instances task)) word → IsValidPlan task (instances_at task word) → ground_task.IsValidPlan (task_from task) word
  ground_plan_of word below valid =
      let there = lowered_at word (initial task) valid.end (start (task_from task)) below (start_seen task) valid.run in
      record { numbered = numbers word below; end = there.0; run = there.1; goal = (goal_is task line valid.end there.0 there.2).0 valid.goal }

  pub ground_plan_is : (word : List ℕ) → AllByRecursion (λ n. n < length (kept_instances task)) word → ground_task.IsValidPlan (task_from task) word ↔ IsValidPlan task (instances_at task word)
  ground_plan_is word below = (plan_of word below, ground_plan_of word below)

  pub has_numbers : (plan : List Instance) → IsValidPlan task plan → (word : List ℕ) × (instances_at task word ≡ plan) × ground_task.IsValidPlan (task_from task) word
  has_numbers plan valid =
      let there = lowered plan (initial task) valid.end (start (task_from task)) (start_seen task) valid.run in
      (there.word, there.is, record { numbered = numbers there.word there.below; end = there.end; run = there.run; goal = (goal_is task line valid.end there.end there.seen).0 valid.goal })

  pub reaches_as_ground : (places : List ℕ) (n : ℕ) → AllByRecursion (λ a. a < length (kept_instances task)) places → ReachesGoal task places n ↔ ground_task.Reaches (task_from task) places n
  reaches_as_ground places n below = (
    (λ h. record { plan = h.word; word = h.is_word; valid = ground_plan_of h.word (all_below h.word h.is_word) h.valid }),
    (λ h. record { word = h.plan; is_word = h.word; valid = plan_of h.plan (all_below h.plan h.word) h.valid }),
  )
    where
      all_below : (word : List ℕ) → IsWord (rolls (task_from task)) places n word → AllByRecursion (λ a. a < length (kept_instances task)) word
      all_below word w = in_word (λ (a : ℕ). a < length (kept_instances task)) (rolls (task_from task)) places below word n w

  pub plan_is_word : (places : List ℕ) (n : ℕ) (plan : List Instance) → length (kept_instances task) ≤ 1000000 → IsPattern (task_from task) places
      → IsValidPlan task plan → length plan ≤ n → ReachesGoal task places n
  plan_is_word places n plan few pattern valid short =
      let there = has_numbers plan valid in
      let long : length there.0 ≡ length plan = sym (length-map there.0 (instance_at task)) ∙ ap (λ (xs : List Instance). length xs) there.1 in
      record {
        word = there.0;
        is_word = word-of_places {X = ℕ} (rolls (task_from task)) places there.0 n
            (run-in (task_from task) (is_ground_task task few) places pattern there.0 there.2.end there.2.numbered there.2.run)
            (subst (λ (m : ℕ). m ≤ n) (sym long) short);
        valid = subst (λ (xs : List Instance). IsValidPlan task xs) (sym there.1) valid;
      }
