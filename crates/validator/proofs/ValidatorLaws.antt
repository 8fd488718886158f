-- The validator's answers: each status is that of some answers, and says what they say.
use Rattle.std.proofs.Common.{◌≡◌, ◌⊎◌, inl, inr, ℕ, ◌<◌, List, [], ◌∷◌, None, Ok, refl, ◌∙◌, ap, subst, arith}
use Rattle.pddl_form.specs.Judged.{good, noted}
use Rattle.pddl_form.proofs.Judging.{noted-good}
use Rattle.pddl_task.specs.declared.parts.TaskParts.{TaskParts}
use Rattle.plan_step.specs.declared.failure.StepFail.{StepFail}
use Rattle.plan_step.specs.declared.failure.StepFail.TheVariants as fail
use Rattle.plan_form.specs.declared.plan.Part.{Part}
use Rattle.plan_text.specs.PlanText.{names_of, plan_judged}
use Rattle.plan_judge.specs.declared.outcome.Outcome.{Outcome}
use Rattle.plan_judge.specs.declared.outcome.Outcome.TheVariants as outcome
use Rattle.plan_judge.specs.Written.{IsValid}
use Rattle.plan_step.specs.Laws.{IsRefutal}
use Rattle.plan_judge.specs.Laws.{FailPassesBits, PassesBits, MeansFail, Means}
use Rattle.patty_run.specs.Outside.{Outside}
use Rattle.patty_run.specs.Printed.{Prints}
use Rattle.patty_run.specs.Tasks.{IsTask}
use Rattle.patty_run.specs.Causes.{Hold}
use Rattle.patty_run.specs.Statuses.{Says, SaysRefused, EndsWithAnswer, GivesOut}
use Rattle.patty_run.specs.inside.Runs.{Runs}
use Rattle.patty_run.proofs.StatusLaws as statuses
use Rattle.patty_run.proofs.DueLaws.{answers}
use Rattle.patty_run.proofs.RunLaws.{is_run}
use Rattle.validator.specs.declared.answer.Answer.{Answer}
use Rattle.validator.specs.declared.answer.Answer.TheVariants as answer
use Rattle.validator.specs.Words.{files_of}
use Rattle.validator.specs.Lines.{lines, failure_status, outcome_status, status}
use Rattle.validator.specs.Validator.{Judges, Allows, validator, IsAccepted, IsRejected, IsUndecided, SaysOutcome, RefusesPlan, IsFaultless, IsValRun}

-- ---- statuses

failure_low : (e : StepFail) → failure_status e < 3
failure_low fail.Arity = omega arith
failure_low fail.ArgType = omega arith
failure_low (fail.Condition i) = omega arith
failure_low (fail.NoValue i) = omega arith
failure_low (fail.Clash i) = omega arith
failure_low (fail.Wide w) = omega arith
failure_low fail.Memory = omega arith

outcome_low : (o : Outcome) → outcome_status o < 3
outcome_low outcome.Valid = omega arith
outcome_low (outcome.PartFails e) = failure_low e.fail.fail
outcome_low outcome.GoalFails = omega arith
outcome_low (outcome.GoalWide w) = omega arith

free : statuses.IsFree validator
free (answer.PlanFault kind place) = inl (omega arith)
free (answer.Judged o steps) = let low = outcome_low o in inl (omega (arith, low))

low : (a : Answer) → status a < 8
low (answer.PlanFault kind place) = omega arith
low (answer.Judged o steps) = let small = outcome_low o in omega (arith, small)

-- ---- what an outcome says, by its status

not_zero : (e : StepFail) → failure_status e ≡ 0 → ⊥
not_zero fail.Arity is = omega (arith, is)
not_zero fail.ArgType is = omega (arith, is)
not_zero (fail.Condition i) is = omega (arith, is)
not_zero (fail.NoValue i) is = omega (arith, is)
not_zero (fail.Clash i) is = omega (arith, is)
not_zero (fail.Wide w) is = omega (arith, is)
not_zero fail.Memory is = omega (arith, is)

accepted : (task : TaskParts) (plan : List Part) (o : Outcome) → outcome_status o ≡ 0 → Means task plan o → IsAccepted task plan o
accepted task plan outcome.Valid is means = (refl, means)
accepted task plan (outcome.PartFails e) is means = absurd (not_zero e.fail.fail is)
accepted task plan outcome.GoalFails is means = absurd (omega (arith, is))
accepted task plan (outcome.GoalWide w) is means = absurd (omega (arith, is))

rejected_failure : (task : TaskParts) (plan : List Part) (e : StepFail) → failure_status e ≡ 1 → MeansFail task plan e → IsRefutal e × (IsValid task plan → ⊥)
rejected_failure task plan fail.Arity is means = (tt, means)
rejected_failure task plan fail.ArgType is means = (tt, means)
rejected_failure task plan (fail.Condition i) is means = (tt, means)
rejected_failure task plan (fail.NoValue i) is means = (tt, means)
rejected_failure task plan (fail.Clash i) is means = (tt, means)
rejected_failure task plan (fail.Wide w) is means = absurd (omega (arith, is))
rejected_failure task plan fail.Memory is means = absurd (omega (arith, is))

rejected : (task : TaskParts) (plan : List Part) (o : Outcome) → outcome_status o ≡ 1 → Means task plan o → IsRejected task plan o
rejected task plan outcome.Valid is means = absurd (omega (arith, is))
rejected task plan (outcome.PartFails e) is means = rejected_failure task plan e.fail.fail is means
rejected task plan outcome.GoalFails is means = (tt, means)
rejected task plan (outcome.GoalWide w) is means = absurd (omega (arith, is))

wide_failure : (task : TaskParts) (plan : List Part) (e : StepFail) → failure_status e ≡ 2 → MeansFail task plan e → FailPassesBits e
wide_failure task plan fail.Arity is means = absurd (omega (arith, is))
wide_failure task plan fail.ArgType is means = absurd (omega (arith, is))
wide_failure task plan (fail.Condition i) is means = absurd (omega (arith, is))
wide_failure task plan (fail.NoValue i) is means = absurd (omega (arith, is))
wide_failure task plan (fail.Clash i) is means = absurd (omega (arith, is))
wide_failure task plan (fail.Wide w) is means = means
wide_failure task plan fail.Memory is means = absurd means

undecided : (task : TaskParts) (plan : List Part) (o : Outcome) → outcome_status o ≡ 2 → Means task plan o → PassesBits o
undecided task plan outcome.Valid is means = absurd (omega (arith, is))
undecided task plan (outcome.PartFails e) is means = wide_failure task plan e.fail.fail is means
undecided task plan outcome.GoalFails is means = absurd (omega (arith, is))
undecided task plan (outcome.GoalWide w) is means = means

-- ---- what a run says, by its status

module _ (outside : Outside) where
  module _ (IsSo : TaskParts → List Part → Outcome → Type 0) (k : ℕ)
      (so : (task : TaskParts) (plan : List Part) (o : Outcome) → outcome_status o ≡ k → Means task plan o → IsSo task plan o) where
    outcome_of_texts : (o : Outcome) (steps : ℕ) → outcome_status o ≡ k → Prints outside.output (lines (answer.Judged o steps)) → (domain problem : List ℕ) (more : List (List ℕ))
        → Hold outside.files (files_of outside.words) (domain ∷ problem ∷ more) → (task : TaskParts) → IsTask domain problem task → Allows task more (answer.Judged o steps) → SaysOutcome outside IsSo
    outcome_of_texts o steps is printed domain problem [] held task is_task allowed = absurd allowed
    outcome_of_texts o steps is printed domain problem (text ∷ more) held task is_task allowed = record {
      domain = domain;
      problem = problem;
      text = text;
      more = more;
      held = held;
      task = task;
      is_task = is_task;
      plan = allowed.plan;
      spelled = allowed.spelled;
      verdict = o;
      comes = allowed.comes;
      is_so = so task allowed.plan o is allowed.means;
      printed = subst (λ (n : ℕ). Prints outside.output (lines (answer.Judged o n))) allowed.steps_is printed;
    }

    says_outcome : k < 3 → (a : Answer) → status a ≡ k → Says validator outside (Ok a) → SaysOutcome outside IsSo
    says_outcome small (answer.PlanFault kind place) is says = absurd (omega (arith, is, small))
    says_outcome small (answer.Judged o steps) is says =
        let has = says.caused in
        outcome_of_texts o steps is says.printed has.domain has.problem has.more has.held has.task has.is_task has.allowed

  plan_refused_at : (a : Answer) → status a ≡ 3 → Says validator outside (Ok a) → RefusesPlan outside
  plan_refused_at (answer.PlanFault kind place) is says = (kind, place, says)
  plan_refused_at (answer.Judged o steps) is says = let small = outcome_low o in absurd (omega (arith, small, is))

  refused_at : SaysRefused validator outside ⊎ statuses.SaysAnswer validator outside 3 → SaysRefused validator outside ⊎ RefusesPlan outside
  refused_at (inl is) = inl is
  refused_at (inr is) = inr (plan_refused_at is.answer is.status_is is.says)

  -- a text that spells a plan has no fault
  decided : (task : TaskParts) (text : List ℕ) (plan : List Part) → plan_judged (names_of task) text ≡ good plan → (a : Answer) → Judges task text a → status a < 3
  decided task text plan spelled (answer.PlanFault kind place) first =
      let none : noted None (plan_judged (names_of task) text) ≡ None = ap (noted None) spelled ∙ noted-good None plan in
      absurd (cc (none, first.first))
  decided task text plan spelled (answer.Judged o steps) judged = outcome_low o

  completes : (code : ℕ) (is : IsFaultless outside) → EndsWithAnswer validator outside code is.task (is.text ∷ []) ⊎ GivesOut validator outside code → (code < 3) ⊎ (code ≡ 7)
  completes code is (inl (a, allowed, ends)) =
      let small = decided is.task is.text is.plan is.spelled a allowed in
      let same : code ≡ status a = ends.status in
      inl (omega (arith, small, same))
  completes code is (inr (inl failed)) = absurd (is.no_fault failed.1)
  completes code is (inr (inr memory)) = inr memory

  module _ (code : ℕ) (run : Runs validator outside code) where
    says : (IsSo : TaskParts → List Part → Outcome → Type 0) (k : ℕ)
        → ((task : TaskParts) (plan : List Part) (o : Outcome) → outcome_status o ≡ k → Means task plan o → IsSo task plan o) → k < 3 → code ≡ k → SaysOutcome outside IsSo
    says IsSo k so small is = let a = statuses.answered validator free outside code run k small is in says_outcome IsSo k so small a.answer a.status_is a.says

    pub is_val_run : IsValRun outside code
    is_val_run = record {
      valid = says IsAccepted 0 accepted (omega arith);
      invalid = says IsRejected 1 rejected (omega arith);
      wide = says IsUndecided 2 undecided (omega arith);
      refused = λ is. refused_at (statuses.refused validator free outside code run is);
      never = λ is. let small = statuses.at_most validator free outside code run low in omega (arith, small, is);
      complete = λ is. completes code is (answers validator outside code run is.task (is.text ∷ []) is.given);
      run = is_run validator free outside code run;
    }
