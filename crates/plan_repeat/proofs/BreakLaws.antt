-- What it says of runs where a repetition breaks off.
use Rattle.std.proofs.Common.{◌≡◌, ℕ, zero, suc, ◌+◌, ◌<◌, List, [], ◌++◌, replicate, ⊎_elim, Result, Err, sym, ap, subst, ◌∙◌, arith}
use Rattle.std.proofs.lemmas.Bool.{cases_lt}
use Rattle.std.proofs.lemmas.List.{append-nil}
use Rattle.frac128.specs.Operations.{Passes}
use Rattle.frac128.specs.declared.operations.Wide.{Wide}
use Rattle.pddl_task.specs.declared.instance.Instance.{Instance}
use Rattle.pddl_task.specs.declared.parts.TaskParts.{TaskParts}
use Rattle.plan_step.specs.declared.failure.StepFail.{StepFail}
use Rattle.plan_step.specs.declared.failure.StepFail.TheVariants as fail
use Rattle.plan_step.specs.State.{PlanState}
use Rattle.plan_step.specs.Meaning.{HasStep, Run}
use Rattle.plan_step.specs.Laws.{IsRefutal}
use Rattle.plan_step.proofs.ReasonLaws.{reason_none}
use Rattle.plan_step.specs.Step.{step_from}
use Rattle.plan_step.proofs.RunLaws.{split, stays, one_step, one_run}
use Rattle.plan_repeat.specs.Repeat.{BreaksAt, Breaks}

module _ (task : TaskParts) (by : Instance) where
  -- a longer run has a step after fewer
  step_after : (made times : ℕ) (s reached u : PlanState) (more : List Instance) → made < times → Run task s (replicate made by) reached → Run task s (replicate times by ++ more) u → (next : PlanState) × HasStep task reached by next
  step_after made zero s reached u more l r q = absurd (omega arith)
  step_after zero (suc times) s reached u more l r q =
      let a = split task s u by (replicate times by ++ more) q in
      let P : PlanState → Type 0 = λ t. HasStep task t by a.0 in
      (a.0, subst P (stays task s reached r) a.1)
  step_after (suc made) (suc times) s reached u more l r q =
      let a = split task s reached by (replicate made by) r in
      let b = split task s u by (replicate times by ++ more) q in
      let P : PlanState → Type 0 = λ t. Run task t (replicate times by ++ more) u in
      step_after made times a.0 reached u more (omega arith) a.2 (subst P (one_step task s b.0 a.0 by b.1 a.1) b.2)

  breaks-none : (s u : PlanState) (times at : ℕ) (e : StepFail) (more : List Instance) → BreaksAt task s by times at e → IsRefutal e → Run task s (replicate times by ++ more) u → ⊥
  breaks-none s u times at e more h refuted r =
      let a = step_after h.made times s h.reached u more h.within h.run r in
      reason_none task h.reached a.0 by e refuted h.reason a.1

  -- a refutal is one of a step
  refuted-at : (s : PlanState) (times at : ℕ) (e : StepFail) → IsRefutal e → Breaks task s by times at e → BreaksAt task s by times at e
  refuted-at s times at (fail.Wide w) refuted h = absurd refuted
  refuted-at s times at fail.Arity refuted h = h
  refuted-at s times at fail.ArgType refuted h = h
  refuted-at s times at (fail.Condition i) refuted h = h
  refuted-at s times at (fail.NoValue i) refuted h = h
  refuted-at s times at (fail.Clash i) refuted h = h
  refuted-at s times at fail.Memory refuted h = absurd refuted

  -- where a repetition is refuted, so many steps have no run
  pub broken-none : (s u : PlanState) (times at : ℕ) (e : StepFail) (more : List Instance) → Breaks task s by times at e → IsRefutal e → Run task s (replicate times by ++ more) u → ⊥
  broken-none s u times at e more h refuted r = breaks-none s u times at e more (refuted-at s times at e refuted h) refuted r

  -- an operation that is told passes
  pub wide-passes : (s : PlanState) (times at : ℕ) (w : Wide) → Breaks task s by times at (fail.Wide w) → Passes w.op w.x w.y
  wide-passes s times at w h = ⊎_elim (λ b. b.breaks.reason) (λ j. j.passes) h

  -- a repetition is refuted in one way
  one_err : (e f : StepFail) → ◌≡◌ {A = Result PlanState StepFail} (Err e) (Err f) → e ≡ f
  one_err e f is = cc

  earlier : (s : PlanState) (times at n : ℕ) (e f : StepFail) (h : BreaksAt task s by times at e) (k : BreaksAt task s by times n f) → IsRefutal e → h.made < k.made → ⊥
  earlier s times at n e f h k refuted l =
      let P : List Instance → Type 0 = λ is. Run task s is k.reached in
      let a = step_after h.made k.made s h.reached k.reached [] l h.run (subst P (sym (append-nil (replicate k.made by))) k.run) in
      reason_none task h.reached a.0 by e refuted h.reason a.1

  same-break : (s : PlanState) (times at n : ℕ) (e f : StepFail) → BreaksAt task s by times at e → BreaksAt task s by times n f → IsRefutal e → IsRefutal f → (at ≡ n) × (e ≡ f)
  same-break s times at n e f h k refuted also =
      ⊎_elim
      (λ l. absurd (earlier s times at n e f h k refuted l))
      (λ l. ⊎_elim
      (λ g. absurd (earlier s times n at f e k h also g))
      (λ g.
      let same : h.made ≡ k.made = omega arith in
      let number : at ≡ h.made + 1 = h.number in
      let other : n ≡ k.made + 1 = k.number in
      let P : ℕ → Type 0 = λ m. Run task s (replicate m by) h.reached in
      let end : h.reached ≡ k.reached = one_run task (replicate k.made by) s h.reached k.reached (subst P same h.run) k.run in
      (omega arith, one_err e f (sym h.fails ∙ ap (λ (t : PlanState). step_from task t by) end ∙ k.fails)))
      (cases_lt k.made h.made))
      (cases_lt h.made k.made)

  pub one-break : (s : PlanState) (times at n : ℕ) (e f : StepFail) → Breaks task s by times at e → Breaks task s by times n f → IsRefutal e → IsRefutal f → (at ≡ n) × (e ≡ f)
  one-break s times at n e f h k refuted also = same-break s times at n e f (refuted-at s times at e refuted h) (refuted-at s times n f also k) refuted also
