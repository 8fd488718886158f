-- A jump: the state so many steps on, and the tests in it.
use Rattle.std.proofs.Common.{◌≡◌, ℕ, zero, suc, ◌<◌, Bool, true, false, List, get_or, Some, None, Result, Ok, Err, refl, sym, ap, subst, ◌∙◌, arith}
use lib.IntN.{pos}
use Rattle.rational.specs.Fraction.{Fraction, whole}
use Rattle.frac128.specs.Operations.{Passes}
use Rattle.frac128.specs.declared.operations.Wide.{Wide}
use Rattle.plan_step.specs.declared.touches.Touch.{Touch}
use Rattle.plan_step.specs.declared.touches.Touch.TheVariants as touch
use Rattle.plan_step.specs.State.{PlanState}
use Rattle.plan_step.specs.Meaning.{Change, all_hold}
use Rattle.plan_step.specs.Laws.{IsWide}
use Rattle.plan_step.proofs.LeafLaws.{conditions_hold, conditions_fail}
use Rattle.plan_repeat.specs.Rolling.{rolled}
use Rattle.plan_repeat.specs.StepsOn.{IsGrowthOp}
use Rattle.plan_step.specs.Touches.{changes_of, IsKept}
use Rattle.plan_repeat.specs.Jump.{IsRollOp, grows, tested, hold_after}
use Rattle.plan_repeat.specs.inside.Jumping.{HasGrowth, IsBase, IsTouchOp, RollsAll, RollsTo}
use Rattle.plan_step.specs.Conditions.{leaves_met, first_unmet}
use Rattle.pddl_task.specs.declared.condition.Cond.{Cond}
use Rattle.plan_step.specs.declared.failure.StepFail.{StepFail}
use Rattle.plan_step.specs.declared.failure.StepFail.TheVariants as fail
use Rattle.plan_repeat.proofs.Bases.{base-rolled, base-outside, base-on}

roll-op : (changes : List Change) (s : PlanState) (n : ℕ) (t : Touch) (q : Fraction) (w : Wide) → IsTouchOp t q (whole (pos n)) w → IsKept s t → HasGrowth changes t q → IsRollOp changes s n w × Passes w.op w.x w.y
roll-op changes s n (touch.Atom sign p args old) q w h kept g = absurd h
roll-op changes s n (touch.Function op f args by None) q w h kept g = absurd h
roll-op changes s n (touch.Function op f args by (Some x)) q w h kept g = (grows f args x (sym kept) (subst (λ (d : Fraction). IsGrowthOp x d (whole (pos n)) w) g h.0), h.1)

module _ (touches : List Touch) (qs : List Fraction) (old new : PlanState) where
  here : (n : ℕ) (r : Result (Unit {0}) Wide) → 0 < n → RollsAll touches qs (whole (pos n)) old new r → RollsTo touches qs n old new r
  here zero r l h = absurd (omega arith)
  here (suc n) (Ok u) l h = λ s base. h (rolled (changes_of touches) s (suc n)) (base-rolled s touches qs old base n) (base-outside s touches qs old base n)
  here (suc n) (Err w) l h = λ s base. roll-op (changes_of touches) s (suc n) h.t (get_or qs h.i (whole (pos 0))) w h.operation (base.kept h.i h.t h.within h.is) (base.grown h.i h.t h.within h.is)

  pub rolls-to : (n : ℕ) (x : Fraction) (r : Result (Unit {0}) Wide) → 0 < n → x ≡ whole (pos n) → RollsAll touches qs x old new r → RollsTo touches qs n old new r
  rolls-to n x r l e h = here n r l (subst (λ (y : Fraction). RollsAll touches qs y old new r) e h)

-- the state that is made is a base again
pub base-again : (touches : List Touch) (qs : List Fraction) (s old new : PlanState) (n : ℕ) → 0 < n → IsBase s touches qs old → new ≡ rolled (changes_of touches) s n → IsBase s touches qs new
base-again touches qs s old new zero l base e = absurd (omega arith)
base-again touches qs s old new (suc n) l base e = subst (λ (u : PlanState). IsBase s touches qs u) (sym e) (base-on s touches qs old base n)

-- the conditions are tested in it
pub tested-again : (args : List ℕ) (conds : List Cond) (changes : List Change) (s new : PlanState) (n : ℕ) (r : Result (Unit {0}) StepFail) → r ≡ first_unmet 0 (leaves_met new args conds) → new ≡ rolled changes s n → tested args conds changes s n ≡ r
tested-again args conds changes s new n r is made = sym (is ∙ ap (λ (u : PlanState). first_unmet 0 (leaves_met u args conds)) made)

-- and where they are met they hold
pub holds-again : (args : List ℕ) (conds : List Cond) (changes : List Change) (s new : PlanState) (n : ℕ) → first_unmet 0 (leaves_met new args conds) ≡ Ok tt → new ≡ rolled changes s n → hold_after args conds changes s n ≡ true
holds-again args conds changes s new n met made = sym (ap (λ (u : PlanState). all_hold u args conds) made) ∙ conditions_hold new args conds 0 met

-- where they fail, operations that pass aside, they don't
pub fails-again : (args : List ℕ) (conds : List Cond) (changes : List Change) (s : PlanState) (n : ℕ) (e : StepFail) → (IsWide e → ⊥) → tested args conds changes s n ≡ Err e → hold_after args conds changes s n ≡ false
fails-again args conds changes s n e other fails = by_test (hold_after args conds changes s n) refl
  where
    by_test : (b : Bool) → hold_after args conds changes s n ≡ b → hold_after args conds changes s n ≡ false
    by_test true is = absurd (other (conditions_fail (rolled changes s n) args conds 0 e is fails))
    by_test false is = is

-- a failure that is no operation
pub not-wide : (e : StepFail) → ((w : Wide) → e ≡ fail.Wide w → ⊥) → IsWide e → ⊥
not-wide (fail.Wide w) other h = other w refl
not-wide fail.Arity other h = h
not-wide fail.ArgType other h = h
not-wide (fail.Condition i) other h = h
not-wide (fail.NoValue i) other h = h
not-wide (fail.Clash i) other h = h
not-wide fail.Memory other h = h
