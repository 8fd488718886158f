use Rattle.std.proofs.Common.{map, inl, inr, Err, ◌≡◌, ℕ, ◌+◌, ◌-◌, ◌/◌, ◌<◌, refl, sym, ap, ◌∙◌, arith}
use Rattle.plan_step.specs.declared.failure.StepFail.TheVariants as fail
use Rattle.plan_step.specs.Held.{state_of}
use Rattle.plan_step.specs.Touches.{target_of, changes_of}
use Rattle.plan_step.proofs.Placing.{keeps_on}
use Rattle.plan_step.proofs.Restoring.{differs_on, differs_refl}
use Rattle.plan_step.proofs.WideLaws.{wide_conditions}
use Rattle.plan_repeat.specs.Halving.{begun, above, below, halfway}
use Rattle.plan_step.specs.State.{PlanState}
use Rattle.plan_repeat.specs.Jump.{tested, makes, tests}
use Rattle.plan_repeat.specs.inside.Jumping.{IsBase}
use Rattle.plan_repeat.proofs.Jumps.{base-again, tested-again, holds-again, fails-again, not-wide}
use Rattle.plan_repeat.proofs.jumping.first_failing.Goals as goal

pub loop-bad-init : goal.loop-bad-init
loop-bad-init c =
    let now = state_of c.args.state.now in
    record {
      apart = c.requires.some;
      within = omega arith;
      refuted = c.requires.refuted;
      base = λ s b. b;
      holds = λ s b first. first;
      fails = λ s b last. last;
      halved = λ s b last. begun (fails-again c.args.args.now c.args.conds.now (changes_of c.args.touches.now) s c.args.last c.args.fail c.requires.refuted last);
      differs = differs_refl (map target_of c.args.touches.now) now now refl;
      keeps = record { atoms = λ p args h. h; functions = λ f args h. h };
    }

pub loop-bad-preserved-in-Ok : goal.loop-bad-preserved-in-Ok
loop-bad-preserved-in-Ok c =
    let i = c.loop-bad.invariant in
    let wide_apart = c.loop-bad-test.true in
    let ahead = i.apart in
    let now = state_of c.loop-bad.state in
    let new = state_of c.roll_to.new.state in
    let some : 0 < c.loop-bad.good + (c.loop-bad.bad - c.loop-bad.good) / 2 = omega arith in
    let far : c.loop-bad.good + 1 < c.loop-bad.bad = omega arith in
    let held = λ (s : PlanState) (b : IsBase s c.args.touches.now c.args.growths.now (state_of c.args.state.now)). holds-again c.args.args.now c.args.conds.now (changes_of c.args.touches.now) s new _ (sym (sym c.in-Ok.is ∙ c.test_conditions.ensures)) (c.in_default.ensures.rolls s (i.base s b)) in
    record {
      apart = omega arith;
      within = i.within;
      refuted = i.refuted;
      base = λ s b. base-again c.args.touches.now c.args.growths.now s now new _ some (i.base s b) (c.in_default.ensures.rolls s (i.base s b));
      holds = λ s b first. held s b;
      fails = i.fails;
      halved = λ s b last. above c.loop-bad.good c.loop-bad.bad (i.halved s b last) far (held s b);
      differs = differs_on (map target_of c.args.touches.now) (state_of c.args.state.now) now new i.differs c.roll_to.ensures.differs;
      keeps = keeps_on _ _ _ i.keeps c.roll_to.ensures.keeps;
    }

pub loop-bad-preserved : goal.loop-bad-preserved
loop-bad-preserved c =
    let i = c.loop-bad.invariant in
    let wide_apart = c.loop-bad-test.true in
    let ahead = i.apart in
    let most = i.within in
    let now = state_of c.loop-bad.state in
    let new = state_of c.roll_to.new.state in
    let some : 0 < c.loop-bad.good + (c.loop-bad.bad - c.loop-bad.good) / 2 = omega arith in
    let far : c.loop-bad.good + 1 < c.loop-bad.bad = omega arith in
    let other = c.in-Err-test_conditions.other in
    let refuted = not-wide other c.in_default-other.not-Wide in
    let failed = λ (s : PlanState) (b : IsBase s c.args.touches.now c.args.growths.now (state_of c.args.state.now)). tested-again c.args.args.now c.args.conds.now (changes_of c.args.touches.now) s new _ (Err other) (sym c.in-Err-test_conditions.is ∙ c.test_conditions.ensures) (c.in_default.ensures.rolls s (i.base s b)) in
    record {
      apart = omega arith;
      within = omega arith;
      refuted = refuted;
      base = λ s b. base-again c.args.touches.now c.args.growths.now s now new _ some (i.base s b) (c.in_default.ensures.rolls s (i.base s b));
      holds = i.holds;
      fails = λ s b last. failed s b;
      halved = λ s b last. below c.loop-bad.good c.loop-bad.bad (i.halved s b last) far (fails-again c.args.args.now c.args.conds.now (changes_of c.args.touches.now) s _ other refuted (failed s b));
      differs = differs_on (map target_of c.args.touches.now) (state_of c.args.state.now) now new i.differs c.roll_to.ensures.differs;
      keeps = keeps_on _ _ _ i.keeps c.roll_to.ensures.keeps;
    }

pub returns-clause-finds : goal.returns-clause-finds
returns-clause-finds c =
    let i = c.loop-bad.invariant in
    let close = c.loop-bad-test.false in
    let ahead = i.apart in
    let most = i.within in
    let next : c.loop-bad.good + 1 ≡ c.loop-bad.bad = omega arith in
    λ s b first last.
    inr (record {
      n = c.loop-bad.good;
      number = omega arith;
      within = omega arith;
      holds = i.holds s b first;
      fails = ap (λ (n : ℕ). tested c.args.args.now c.args.conds.now (changes_of c.args.touches.now) s n) next ∙ i.fails s b last;
      refuted = i.refuted;
    })

pub returns-in-Err-clause-finds : goal.returns-in-Err-clause-finds
returns-in-Err-clause-finds c =
    let i = c.loop-bad.invariant in
    let wide_apart = c.loop-bad-test.true in
    let far : c.loop-bad.good + 1 < c.loop-bad.bad = omega arith in
    λ s b first last.
    let h = c.in-Err.ensures.rolls s (i.base s b) in
    inl (record {
      w = c.in-Err.wide;
      is = refl;
      operation = makes (c.loop-bad.good + (c.loop-bad.bad - c.loop-bad.good) / 2) (halfway c.loop-bad.good c.loop-bad.bad (i.halved s b last) far refl) refl h.0;
      passes = h.1;
    })

pub returns-in-Wide-clause-finds : goal.returns-in-Wide-clause-finds
returns-in-Wide-clause-finds c =
    let i = c.loop-bad.invariant in
    let wide_apart = c.loop-bad-test.true in
    let far : c.loop-bad.good + 1 < c.loop-bad.bad = omega arith in
    let new = state_of c.roll_to.new.state in
    let w = c.in-Wide.field-0 in
    let met = sym (c.in-Err-test_conditions.is ∙ ap Err c.in-Wide.is) ∙ c.test_conditions.ensures in
    λ s b first last.
    inl (record {
      w = w;
      is = c.in-Wide.is;
      operation = tests (c.loop-bad.good + (c.loop-bad.bad - c.loop-bad.good) / 2) (halfway c.loop-bad.good c.loop-bad.bad (i.halved s b last) far refl) refl
          (tested-again c.args.args.now c.args.conds.now (changes_of c.args.touches.now) s new _ (Err (fail.Wide w)) met (c.in_default.ensures.rolls s (i.base s b)));
      passes = wide_conditions new c.args.args.now c.args.conds.now w (sym met);
    })
