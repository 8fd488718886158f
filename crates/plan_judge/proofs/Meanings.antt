-- What an outcome means, in unlimited fractions.
use Rattle.std.proofs.Common.{◌≡◌, Bool, true, false, List, [], ◌∷◌, ◌++◌, replicate, Result, Ok, Err, refl, sym, ap, subst, ◌∙◌}
use Rattle.std.specs.Prelude.{IfOk}
use Rattle.frac128.specs.declared.operations.Wide.{Wide}
use Rattle.pddl_task.specs.declared.instance.Instance.{Instance}
use Rattle.pddl_task.specs.declared.parts.TaskParts.{TaskParts}
use Rattle.plan_step.specs.declared.failure.StepFail.{StepFail}
use Rattle.plan_step.specs.declared.failure.StepFail.TheVariants as fail
use Rattle.plan_step.specs.State.{PlanState, initial}
use Rattle.plan_step.specs.Meaning.{all_hold, Run}
use Rattle.plan_step.specs.Laws.{IsRefutal}
use Rattle.plan_step.proofs.LeafLaws.{tested_goal}
use Rattle.plan_step.proofs.WideLaws.{wide_goal}
use Rattle.plan_step.proofs.RunLaws.{one_run}
use Rattle.plan_repeat.specs.Repeat.{Breaks}
use Rattle.plan_repeat.proofs.BreakLaws.{broken-none, wide-passes}
use Rattle.plan_form.specs.declared.plan.Part.{Part}
use Rattle.plan_form.specs.Printed.{written_out}
use Rattle.plan_judge.specs.declared.outcome.Outcome.{Outcome}
use Rattle.plan_judge.specs.declared.outcome.Outcome.TheVariants as outcome
use Rattle.plan_judge.specs.declared.outcome.PartFail.{PartFail}
use Rattle.plan_judge.specs.Written.{IsValid}
use Rattle.plan_judge.specs.Course.{IsFirstFailure, IsTested, ComesTo}
use Rattle.plan_judge.specs.Laws.{SaysInvalid, MeansFail, Means}
use Rattle.plan_judge.proofs.Runs.{run-between, written-append, written-more}

module _ (task : TaskParts) (plan : List Part) where
  pub valid-is : IsTested task plan (Ok true) → IsValid task plan
  valid-is h = record { end = h.reached; run = h.run; goal = tested_goal h.reached task.goal true h.tested }

  -- each run of the plan ends where the goal is tested
  pub tested-end : (answer : Result Bool Wide) (h : IsTested task plan answer) (t : PlanState) → Run task (initial task) (written_out plan) t → h.reached ≡ t
  tested-end answer h t r = one_run task (written_out plan) (initial task) h.reached t h.run r

  goal-fails : IsTested task plan (Ok false) → IsValid task plan → ⊥
  goal-fails h valid =
      let not_met : all_hold h.reached [] task.goal ≡ false = tested_goal h.reached task.goal false h.tested in
      let never : false ≡ true = sym not_met ∙ (ap (λ (t : PlanState). all_hold t [] task.goal) (tested-end (Ok false) h valid.end valid.run) ∙ valid.goal) in
      cc

  -- a part that is refuted leaves no run
  pub refuted-is : (e : PartFail) (t : PlanState) → IsFirstFailure task plan e → IsRefutal e.fail.fail → Run task (initial task) (written_out plan) t → ⊥
  refuted-is e t h refuted r =
      let written : written_out plan ≡ written_out h.front ++ (replicate h.part.count h.part.by ++ written_out h.after) =
      ap written_out h.split ∙ written-append h.front (h.part ∷ h.after) ∙ ap (λ (is : List Instance). written_out h.front ++ is) (written-more h.part h.after) in
      let P : List Instance → Type 0 = λ is. Run task (initial task) is t in
      let b = run-between task (written_out h.front) (replicate h.part.count h.part.by ++ written_out h.after) (initial task) t (subst P written r) in
      let Q : PlanState → Type 0 = λ s. Run task s (replicate h.part.count h.part.by ++ written_out h.after) t in
      broken-none task h.part.by h.start t h.part.count e.fail.at e.fail.fail (written_out h.after) h.breaks refuted
      (subst Q (one_run task (written_out h.front) (initial task) b.middle h.start b.first h.run) b.second)

  fails-mean : (e : PartFail) → IsFirstFailure task plan e → (f : StepFail) → e.fail.fail ≡ f → MeansFail task plan f
  fails-mean e h (fail.Wide w) is = wide-passes task h.part.by h.start h.part.count e.fail.at w (subst (Breaks task h.start h.part.by h.part.count e.fail.at) is h.breaks)
  fails-mean e h fail.Arity is = λ valid. refuted-is e valid.end h (subst IsRefutal (sym is) tt) valid.run
  fails-mean e h fail.ArgType is = λ valid. refuted-is e valid.end h (subst IsRefutal (sym is) tt) valid.run
  fails-mean e h (fail.Condition i) is = λ valid. refuted-is e valid.end h (subst IsRefutal (sym is) tt) valid.run
  fails-mean e h (fail.NoValue i) is = λ valid. refuted-is e valid.end h (subst IsRefutal (sym is) tt) valid.run
  fails-mean e h (fail.Clash i) is = λ valid. refuted-is e valid.end h (subst IsRefutal (sym is) tt) valid.run
  fails-mean e h fail.Memory is = h.told is

  pub outcome-means : (o : Outcome) → ComesTo task plan o → Means task plan o
  outcome-means outcome.Valid h = valid-is h
  outcome-means (outcome.PartFails e) h = fails-mean e h e.fail.fail refl
  outcome-means outcome.GoalFails h = goal-fails h
  outcome-means (outcome.GoalWide w) h = wide_goal h.reached task.goal w h.tested

  failure-invalid : (f : StepFail) → IsRefutal f → MeansFail task plan f → IsValid task plan → ⊥
  failure-invalid (fail.Wide w) refuted means = absurd refuted
  failure-invalid fail.Arity refuted means = means
  failure-invalid fail.ArgType refuted means = means
  failure-invalid (fail.Condition i) refuted means = means
  failure-invalid (fail.NoValue i) refuted means = means
  failure-invalid (fail.Clash i) refuted means = means
  failure-invalid fail.Memory refuted means = absurd refuted

  pub invalid-is : (o : Outcome) → ComesTo task plan o → SaysInvalid o → IsValid task plan → ⊥
  invalid-is outcome.Valid h says = absurd says
  invalid-is (outcome.PartFails e) h says = failure-invalid e.fail.fail says (fails-mean e h e.fail.fail refl)
  invalid-is outcome.GoalFails h says = goal-fails h
  invalid-is (outcome.GoalWide w) h says = absurd says

  -- whatever is answered
  pub answer-means : {E : Type 0} (r : Result Outcome E) → IfOk r (ComesTo task plan) → IfOk r (Means task plan)
  answer-means (Ok o) h = outcome-means o h
  answer-means (Err e) h = tt
