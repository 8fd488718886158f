-- How a jump ends: the last repetition is tested, and then the state after it is made, or the first repetition that fails is
-- found.
use Rattle.std.proofs.Common.{◌≡◌, ℕ, ◌+◌, ◌-◌, ◌<◌, true, List, inl, inr, ⊎_elim, Result, Ok, Err, refl, sym, ap, ◌∙◌, arith}
use Rattle.rational.specs.Fraction.{Fraction}
use Rattle.frac128.specs.declared.operations.Wide.{Wide}
use Rattle.pddl_task.specs.declared.condition.Cond.{Cond}
use Rattle.plan_step.specs.declared.touches.Touch.{Touch}
use Rattle.plan_step.specs.declared.failure.StepFail.{StepFail}
use Rattle.plan_step.specs.declared.failure.StepFail.TheVariants as fail
use Rattle.plan_step.specs.State.{PlanState}
use Rattle.plan_step.specs.Laws.{IsWide}
use Rattle.plan_step.specs.Touches.{changes_of}
use Rattle.plan_step.proofs.WideLaws.{wide_conditions}
use Rattle.plan_repeat.specs.declared.failure.RepeatFail.{RepeatFail}
use Rattle.plan_repeat.specs.Rolling.{rolled}
use Rattle.plan_repeat.specs.Halving.{at_last}
use Rattle.plan_repeat.specs.Jump.{hold_after, makes, tests, evaluates, ends}
use Rattle.plan_repeat.specs.inside.Jumping.{IsBase, TestsAt, FindsFirst, EndsAt, LastFails, Jumps}
use Rattle.plan_repeat.proofs.Jumps.{base-again, holds-again}

never_wide : (e : StepFail) (w : Wide) → ◌≡◌ {A = Result (Unit {0}) StepFail} (Err e) (Err (fail.Wide w)) → (IsWide e → ⊥) → ⊥
never_wide (fail.Wide v) w is other = other tt
never_wide fail.Arity w is other = cc
never_wide fail.ArgType w is other = cc
never_wide (fail.Condition i) w is other = cc
never_wide (fail.NoValue i) w is other = cc
never_wide (fail.Clash i) w is other = cc
never_wide fail.Memory w is other = cc

module _ (args : List ℕ) (conds : List Cond) (touches : List Touch) (qs : List Fraction) (times : ℕ) (old mid new : PlanState) (many : 1 < times) where
  -- the last repetition's conditions hold
  abbrev Held : PlanState → Type 0
  Held s = (mid ≡ rolled (changes_of touches) s (times - 1)) × (hold_after args conds (changes_of touches) s (times - 1) ≡ true)

  held : (u : Unit {0}) → TestsAt args conds touches qs (times - 1) old mid (Ok u) → (s : PlanState) → IsBase s touches qs old → Held s
  held u t s base =
      ⊎_elim (λ h. absurd (let never : ◌≡◌ {A = Result (Unit {0}) StepFail} (Ok u) (Err (fail.Wide h.w)) = h.is in cc))
      (λ p. (p.0, holds-again args conds (changes_of touches) s (rolled (changes_of touches) s (times - 1)) (times - 1) (sym p.1) refl))
      (t s base)

  on-base : (s : PlanState) → IsBase s touches qs old → mid ≡ rolled (changes_of touches) s (times - 1) → IsBase s touches qs mid
  on-base s base made = base-again touches qs s old mid (times - 1) (omega arith) base made

  pub jump-ends : (u : Unit {0}) (r : Result (Unit {0}) RepeatFail) → TestsAt args conds touches qs (times - 1) old mid (Ok u) → EndsAt touches qs times mid new r → Jumps args conds touches qs times old new r
  jump-ends u (Ok v) t e = λ s base first. let h = held u t s base in (h.1, e s (on-base s base h.0))
  jump-ends u (Err f) t e = λ s base first.
      let h = held u t s base in
      let k = e s (on-base s base h.0) in
      inl (record { w = k.0; is = k.2; operation = ends k.1 h.1 k.3; passes = k.4 })

  jump-passes : (f : RepeatFail) (e : StepFail) (w : Wide) → f.at ≡ times → f.fail ≡ fail.Wide w → e ≡ fail.Wide w → TestsAt args conds touches qs (times - 1) old mid (Err e) → Jumps args conds touches qs times old new (Err f)
  jump-passes f e w at is same t = λ s base first.
      let number : f.at ≡ times - 1 + 1 = omega arith in
      ⊎_elim
      (λ h. inl (record {
        w = h.w;
        is = let one : ◌≡◌ {A = Result (Unit {0}) StepFail} (Err e) (Err (fail.Wide h.w)) = h.is in let it : e ≡ fail.Wide h.w = cc in is ∙ sym same ∙ it;
        operation = evaluates (makes (times - 1) (at_last refl) number h.operation);
        passes = h.passes;
      }))
      (λ p. inl (record {
        w = w;
        is = is;
        operation = evaluates (tests (times - 1) (at_last refl) number (sym p.1 ∙ ap Err same));
        passes = wide_conditions (rolled (changes_of touches) s (times - 1)) args conds w (sym p.1 ∙ ap Err same);
      }))
      (t s base)

  jump-fails : (f : RepeatFail) (e : StepFail) → (IsWide e → ⊥) → TestsAt args conds touches qs (times - 1) old mid (Err e) → FindsFirst args conds touches qs (times - 1) e mid f → Jumps args conds touches qs times old new (Err f)
  jump-fails f e other t finds = λ s base first.
      ⊎_elim
      (λ h. absurd (never_wide e h.w h.is other))
      (λ p.
      ⊎_elim
      (λ k. inl (record { w = k.w; is = k.is; operation = evaluates k.operation; passes = k.passes }))
      (λ k. inr k)
      (finds s (on-base s base p.0) first (sym p.1)))
      (t s base)

  pub jump-lasts : (f : RepeatFail) (e : StepFail) → TestsAt args conds touches qs (times - 1) old mid (Err e) → LastFails args conds touches qs times e mid f → Jumps args conds touches qs times old new (Err f)
  jump-lasts f e t k = ⊎_elim (λ p. jump-passes f e p.0 p.2 p.3 p.1 t) (λ p. jump-fails f e p.0 t p.1) k
