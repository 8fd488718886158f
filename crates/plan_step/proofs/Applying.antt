-- The state after the changes, from its truths and its values.
use Rattle.std.proofs.Common.{◌≡◌, ℕ, Bool, true, false, not, ◌&&◌, ◌||◌, cond, List, [], ◌∷◌, map, Ok, Err, refl, sym, ap, ap₂, ◌∙◌}
use Rattle.std.specs.List.{list_any}
use Rattle.frac128.specs.declared.operations.Wide.{Wide}
use Rattle.plan_step.specs.declared.failure.StepFail.TheVariants as fail
use Rattle.plan_step.specs.declared.touches.Touch.{Touch}
use Rattle.plan_step.specs.declared.touches.Touch.TheVariants as touch
use Rattle.plan_step.specs.State.{PlanState}
use Rattle.plan_step.specs.Met.{found, passes}
use Rattle.plan_step.specs.Effects.{values_after}
use Rattle.plan_step.specs.Meaning.{Change, puts, truth_after}
use Rattle.plan_step.specs.Step.{with_values, state_after}
use Rattle.plan_step.specs.Touches.{target_of, change_in, changes_of, DiffersIn, is_atom}
use Rattle.plan_step.specs.inside.Application.{with_truths}
use Rattle.plan_step.proofs.Booleans.{neither_true}
use Rattle.plan_step.proofs.Truths.{one_state, state_with}

module _ (changes : List Change) (old changed : PlanState) (truths : changed.truth ≡ old.truth) where
  both : (added deleted was : Bool) → cond added true (cond deleted false was) ≡ (added || (was && not deleted))
  both true deleted was = refl
  both false true true = refl
  both false true false = refl
  both false false true = refl
  both false false false = refl

  -- first the deleted atoms, and then the added ones
  pub after : values_after changes old.value ≡ found changed.value → state_after changes old ≡ Ok (with_truths true changes (with_truths false changes changed))
  after values =
      ap (with_values changes old) values
      ∙ ap Ok (one_state (state_with (truth_after changes old.truth) changed.value) (with_truths true changes (with_truths false changes changed))
      (λ p args. ap (λ (of : ℕ → List ℕ → Bool). truth_after changes of p args) (sym truths) ∙ sym (both (list_any (puts true p args) changes) (list_any (puts false p args) changes) (changed.truth p args)))
      (λ f args. refl))

pub after_fails : (changes : List Change) (old : PlanState) (w : Wide) → values_after changes old.value ≡ passes w → state_after changes old ≡ Err (fail.Wide w)
after_fails changes old w values = ap (with_values changes old) values

-- ---- an atom that isn't touched
not_put : (b : Bool) (p : ℕ) (args : List ℕ) (t : Touch) → is_atom p args (target_of t) ≡ false → puts b p args (change_in t) ≡ false
not_put true p args (touch.Atom true q others old) h = h
not_put true p args (touch.Atom false q others old) h = refl
not_put false p args (touch.Atom true q others old) h = refl
not_put false p args (touch.Atom false q others old) h = h
not_put b p args (touch.Function op f others by old) h = refl

none_put : (b : Bool) (p : ℕ) (args : List ℕ) (touches : List Touch) → list_any (is_atom p args) (map target_of touches) ≡ false → list_any (puts b p args) (changes_of touches) ≡ false
none_put b p args [] h = refl
none_put b p args (t ∷ touches) h =
    let k = neither_true (is_atom p args (target_of t)) (list_any (is_atom p args) (map target_of touches)) h in
    ap₂ ◌||◌ (not_put b p args t k.0) (none_put b p args touches k.1)

pub truths_differ : (b : Bool) (touches : List Touch) (s t : PlanState) → t ≡ with_truths b (changes_of touches) s → DiffersIn (map target_of touches) s t
truths_differ b touches s t is = record {
  truth = λ p args none. ap (λ (u : PlanState). u.truth p args) is ∙ ap (λ c. cond c b (s.truth p args)) (none_put b p args touches none);
  value = λ f args none. ap (λ (u : PlanState). u.value f args) is;
}
