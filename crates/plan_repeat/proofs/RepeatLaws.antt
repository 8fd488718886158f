-- Repetitions: runs of one instance made longer by a step, where one breaks off, and what a jump comes to.
use Rattle.std.proofs.Common.{◌≡◌, ℕ, zero, suc, ◌+◌, ◌-◌, ◌<◌, ◌⊎◌, List, [], replicate, inl, inr, ⊎_elim, Result, Ok, Err, refl, sym, ap, subst, ◌∙◌, arith}
use Rattle.frac128.specs.declared.operations.Wide.{Wide}
use Rattle.pddl_task.specs.Linear.{IsLinear}
use Rattle.rational.specs.Fraction.{Fraction}
use Rattle.pddl_task.specs.declared.action.Action.{Action}
use Rattle.pddl_task.specs.declared.condition.Cond.{Cond}
use Rattle.pddl_task.specs.declared.effect.Effect.{Effect}
use Rattle.pddl_task.specs.declared.instance.Instance.{Instance}
use Rattle.pddl_task.specs.declared.parts.TaskParts.{TaskParts}
use Rattle.plan_step.specs.declared.failure.StepFail.{StepFail}
use Rattle.plan_step.specs.declared.failure.StepFail.TheVariants as fail
use Rattle.plan_step.specs.declared.touches.Touch.{Touch}
use Rattle.plan_step.specs.State.{PlanState}
use Rattle.plan_step.specs.Step.{step_from, made_by}
use Rattle.plan_step.specs.Fitting.{fitting}
use Rattle.plan_step.specs.Making.{MakesFail}
use Rattle.plan_step.specs.Meaning.{HasStep, Run, ended, stepped}
use Rattle.plan_step.proofs.Fitting.{step_fits, step_fails}
use Rattle.plan_step.proofs.Reasons.{failure_reason}
use Rattle.plan_step.proofs.RunLaws.{split, stays}
use Rattle.plan_step.proofs.StepLaws.{conditions_step}
use Rattle.plan_repeat.specs.declared.failure.RepeatFail.{RepeatFail}
use Rattle.plan_repeat.specs.Rolling.{IsRollable, rolled}
use Rattle.plan_repeat.specs.Jump.{tested, JumpPasses}
use Rattle.plan_step.specs.Laws.{IsWide}
use Rattle.plan_repeat.specs.Repeat.{BreaksAt, IsInTurn, Breaks}
use Rattle.plan_repeat.specs.inside.Jumping.{IsFirstFailing, JumpsTo, Jumps}
use Rattle.plan_repeat.specs.inside.Repeating.{IsBegun, Rolls, RepeatsOn}
use Rattle.plan_repeat.proofs.Beginning.{begun-step, begun-base, begun-rolls}
use Rattle.plan_repeat.proofs.RolledSteps.{rolled-run}

module _ (task : TaskParts) (by : Instance) where
  -- no step, one step, and one more
  no-steps : (s : PlanState) → Run task s [] s
  no-steps s = ended (record { truth = λ p args. refl; value = λ f args. refl })

  pub no-times : (times : ℕ) (s : PlanState) → times ≡ 0 → Run task s (replicate times by) s
  no-times times s is = let P : ℕ → Type 0 = λ n. Run task s (replicate n by) s in subst P (sym is) (no-steps s)

  pub one-more : (n : ℕ) (s t u : PlanState) → Run task s (replicate n by) t → HasStep task t by u → Run task s (replicate (suc n) by) u
  one-more zero s t u run h = let P : PlanState → Type 0 = λ v. HasStep task v by u in stepped (subst P (sym (stays task s t run)) h) (no-steps u)
  one-more (suc n) s t u run h = let a = split task s t by (replicate n by) run in stepped a.1 (one-more n a.0 t u a.2 h)

  pub one-step : (s t : PlanState) (n : ℕ) → n ≡ 1 → HasStep task s by t → Run task s (replicate n by) t
  one-step s t n is h = let P : ℕ → Type 0 = λ m. Run task s (replicate m by) t in subst P (sym is) (stepped h (no-steps t))

  pub steps-next : (n m : ℕ) (s t u : PlanState) → m ≡ n + 1 → Run task s (replicate n by) t → HasStep task t by u → Run task s (replicate m by) u
  steps-next n m s t u is run h =
      let P : ℕ → Type 0 = λ k. Run task s (replicate k by) u in
      let e : suc n ≡ m = omega arith in
      subst P e (one-more n s t u run h)

  -- ---- where a repetition breaks off
  pub refutal-breaks : (s : PlanState) (times at : ℕ) (e : StepFail) → (IsWide e → ⊥) → BreaksAt task s by times at e → Breaks task s by times at e
  refutal-breaks s times at (fail.Wide w) other h = absurd (other tt)
  refutal-breaks s times at fail.Arity other h = h
  refutal-breaks s times at fail.ArgType other h = h
  refutal-breaks s times at (fail.Condition i) other h = h
  refutal-breaks s times at (fail.NoValue i) other h = h
  refutal-breaks s times at (fail.Clash i) other h = h
  refutal-breaks s times at fail.Memory other h = tt

  module _ (s reached : PlanState) (times made at : ℕ) (within : made < times) (number : at ≡ made + 1) (run : Run task s (replicate made by) reached) where
    abbrev break : (e : StepFail) → step_from task reached by ≡ Err e → BreaksAt task s by times at e
    break e fails = record { made = made; within = within; number = number; reached = reached; run = run; fails = fails; reason = failure_reason task reached by e fails }

    module _ (in_turn : (made ≡ 0) ⊎ IsInTurn task s by) where
      pub breaks-at : (e : StepFail) → step_from task reached by ≡ Err e → Breaks task s by times at e
      breaks-at (fail.Wide w) fails = inl (record { breaks = break (fail.Wide w) fails; in_turn = in_turn })
      breaks-at fail.Arity fails = break fail.Arity fails
      breaks-at fail.ArgType fails = break fail.ArgType fails
      breaks-at (fail.Condition i) fails = break (fail.Condition i) fails
      breaks-at (fail.NoValue i) fails = break (fail.NoValue i) fails
      breaks-at (fail.Clash i) fails = break (fail.Clash i) fails
      breaks-at fail.Memory fails = tt

      -- after a step that isn't made
      pub breaks-off : (new : PlanState) (e : StepFail) → MakesFail (step_from task reached by) reached new e → Breaks task s by times at e
      breaks-off new fail.Memory h = tt
      breaks-off new fail.Arity h = breaks-at fail.Arity h.0
      breaks-off new fail.ArgType h = breaks-at fail.ArgType h.0
      breaks-off new (fail.Condition i) h = breaks-at (fail.Condition i) h.0
      breaks-off new (fail.NoValue i) h = breaks-at (fail.NoValue i) h.0
      breaks-off new (fail.Clash i) h = breaks-at (fail.Clash i) h.0
      breaks-off new (fail.Wide w) h = breaks-at (fail.Wide w) h.0

  -- the first one
  module _ (s : PlanState) (times : ℕ) (some : 0 < times) where
    pub first-unfit : (e : StepFail) → fitting task by ≡ Err e → Breaks task s by times 1 e
    first-unfit e unfit = breaks-at s s times 0 1 some (omega arith) (no-steps s) (inl refl) e (step_fails task s by e unfit)

    pub first-fails : (a : Action) (args : List ℕ) (new : PlanState) (e : StepFail) → fitting task by ≡ Ok a → args ≡ by.args → MakesFail (made_by s a args) s new e → Breaks task s by times 1 e
    first-fails a args new e fits same h =
        let P : Result PlanState StepFail → Type 0 = λ r. MakesFail r s new e in
        breaks-off s s times 0 1 some (omega arith) (no-steps s) (inl refl) new e (subst P (ap (λ (xs : List ℕ). made_by s a xs) same ∙ sym (step_fits task s by a fits)) h)

  -- ---- what a jump comes to
  module _ (s first : PlanState) (h : HasStep task s by first) (linear : IsLinear task) (r : IsRollable task h.action by.args h.changes) (times : ℕ) (many : 1 < times) where
    wide-breaks : (at : ℕ) (e : StepFail) (w : Wide) → e ≡ fail.Wide w → JumpPasses task s by times at w → Breaks task s by times at e
    wide-breaks at e w is h = let P : StepFail → Type 0 = λ x. Breaks task s by times at x in subst P (sym is) (inr h)

    failing : (f : RepeatFail) → IsFirstFailing by.args h.action.conds h.changes s (times - 1) f → Breaks task s by times f.at f.fail
    failing f k =
        let below : k.n < times - 1 = k.within in
        let number : f.at ≡ k.n + 2 = k.number in
        let fails : step_from task (rolled h.changes s (suc k.n)) by ≡ Err f.fail =
        conditions_step task (rolled h.changes s (suc k.n)) by h.action h.of_action f.fail (let P : ℕ → Type 0 = λ n. tested by.args h.action.conds h.changes s n ≡ Err f.fail in let e : k.n + 1 ≡ suc k.n = omega arith in subst P e k.fails) in
        refutal-breaks s times f.at f.fail k.refuted (record {
          made = suc k.n;
          within = omega arith;
          number = omega arith;
          reached = rolled h.changes s (suc k.n);
          run = rolled-run task s first by h linear r k.n k.holds;
          fails = fails;
          reason = failure_reason task (rolled h.changes s (suc k.n)) by f.fail fails;
        })

    pub jump-repeats : (new : PlanState) (a : Result (Unit {0}) RepeatFail) → JumpsTo by.args h.action.conds h.changes s times new a → RepeatsOn task by times s new a
    jump-repeats new (Ok u) k =
        let P : ℕ → Type 0 = λ n. Run task s (replicate n by) (rolled h.changes s n) in
        let e : suc (times - 1) ≡ times = omega arith in
        subst (λ (t : PlanState). Run task s (replicate times by) t) (sym k.1) (subst P e (rolled-run task s first by h linear r (times - 1) k.0))
    jump-repeats new (Err f) k =
        ⊎_elim
        (λ p. wide-breaks f.at f.fail p.w p.is (record { first = first; step = h; rolls = r; many = many; operation = p.operation; passes = p.passes }))
        (λ p. failing f p)
        k

-- from the state after the first step
pub begun-jumps : (task : TaskParts) (by : Instance) (action : Action) (touches : List Touch) (s now : PlanState) → IsBegun task by action touches s now → IsLinear task
    → (args : List ℕ) (conds : List Cond) (effs : List Effect) (qs also : List Fraction) → args ≡ by.args → conds ≡ action.conds → effs ≡ action.effs → also ≡ qs
    → Rolls task now args conds effs touches qs → (times : ℕ) → 1 < times → (new : PlanState) (a : Result (Unit {0}) RepeatFail) → Jumps args conds touches also times now new a → RepeatsOn task by times s new a
unfolding begun-step
begun-jumps task by action touches s now h linear args conds effs qs also same_args same_conds same_effs same_qs rolls times many new a jumps =
    let r : Rolls task now by.args action.conds action.effs touches qs =
    subst (λ (es : List Effect). Rolls task now by.args action.conds es touches qs) same_effs
    (subst (λ (cs : List Cond). Rolls task now by.args cs effs touches qs) same_conds (subst (λ (xs : List ℕ). Rolls task now xs conds effs touches qs) same_args rolls)) in
    let j : Jumps by.args action.conds touches qs times now new a =
    subst (λ (gs : List Fraction). Jumps by.args action.conds touches gs times now new a) same_qs
    (subst (λ (cs : List Cond). Jumps by.args cs touches also times now new a) same_conds (subst (λ (xs : List ℕ). Jumps xs conds touches also times now new a) same_args jumps)) in
    jump-repeats task by s now (begun-step task by action touches s now h) linear (begun-rolls task by action touches s now h qs r) times many new a
    (j s (begun-base task by action touches s now h qs r) h.steps.conditions)
