use Rattle.std.proofs.Common.{inr, ℕ, ◌≡◌, ◌≤◌, ◌+◌, replicate, refl, subst, arith}
use Rattle.plan_step.specs.Held.{state_of}
use Rattle.plan_step.specs.Meaning.{Run}
use Rattle.plan_step.specs.Fitting.{targets_of}
use Rattle.plan_step.proofs.Placing.{keeps_on}
use Rattle.plan_step.proofs.Restoring.{differs_on, differs_refl}
use Rattle.plan_step.proofs.StepLaws.{step_has_step}
use Rattle.plan_repeat.proofs.RepeatLaws.{one-step, steps-next, breaks-off}
use Rattle.plan_repeat.proofs.repeating.repeat_on.Goals as goal

pub loop-done-init : goal.loop-done-init
loop-done-init c =
    let now = state_of c.args.state.now in
    record {
      run = λ s h. one-step c.args.task.now c.args.by.now s now 1 refl h;
      differs = differs_refl (targets_of c.args.task.now c.args.by.now) now now refl;
      keeps = record { atoms = λ p args h. h; functions = λ f args h. h };
    }

pub returns-in-Err-clause-repeats : goal.returns-in-Err-clause-repeats
returns-in-Err-clause-repeats c = λ s h turn.
    breaks-off c.args.task.now c.args.by.now s (state_of c.loop-done.state) c.args.times c.loop-done.done (c.loop-done.done + 1) c.loop-done-test.true refl (c.loop-done.invariant.run s h) (inr turn)
    (state_of c.step.new.state) c.in-Err.fail c.in-Err.ensures.made

pub returns-in-Err-clause-differs : goal.returns-in-Err-clause-differs
returns-in-Err-clause-differs c = differs_on _ _ _ _ c.loop-done.invariant.differs c.step.ensures.differs

pub loop-done-preserved : goal.loop-done-preserved
loop-done-preserved c =
    let now = state_of c.loop-done.state in
    let new = state_of c.step.new.state in
    record {
      run = λ s h. steps-next c.args.task.now c.args.by.now c.loop-done.done (c.loop-done.done + 1) s now new refl (c.loop-done.invariant.run s h)
          (step_has_step c.args.task.now now new c.args.by.now c.in_default.ensures.made);
      differs = differs_on _ _ _ _ c.loop-done.invariant.differs c.step.ensures.differs;
      keeps = keeps_on _ _ _ c.loop-done.invariant.keeps c.step.ensures.keeps;
    }

pub returns-clause-repeats : goal.returns-clause-repeats
returns-clause-repeats c = λ s h turn.
    let some = c.requires in
    let past = c.loop-done-test.false in
    let most : c.loop-done.done ≤ c.args.times = c.loop-done.auto.done-end (omega arith) in
    let all : c.loop-done.done ≡ c.args.times = omega arith in
    subst (λ (n : ℕ). Run c.args.task.now s (replicate n c.args.by.now) (state_of c.loop-done.state)) all (c.loop-done.invariant.run s h)
