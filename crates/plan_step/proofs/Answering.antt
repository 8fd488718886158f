-- Answers passed on: of a part by the whole, and of the changes of a step by the step.
use Rattle.std.proofs.Common.{◌≡◌, ℕ, List, [], map, Result, Ok, Err, refl, sym, ap, ◌∙◌}
use Rattle.pddl_task.specs.declared.action.Action.{Action}
use Rattle.pddl_task.specs.declared.condition.Cond.{Cond}
use Rattle.pddl_task.specs.declared.effect.Effect.{Effect}
use Rattle.plan_step.specs.declared.failure.StepFail.{StepFail}
use Rattle.plan_step.specs.declared.failure.StepFail.TheVariants as fail
use Rattle.plan_step.specs.declared.touches.Touch.{Touch}
use Rattle.plan_step.specs.State.{PlanState}
use Rattle.plan_step.specs.Conditions.{leaves_met, first_unmet}
use Rattle.plan_step.specs.Effects.{change_met, all_changes, first_clash}
use Rattle.plan_step.specs.Meaning.{Change}
use Rattle.plan_step.specs.Step.{then_next, state_after, made_by}
use Rattle.plan_step.specs.Touches.{changes_of}
use Rattle.plan_step.specs.inside.Touching.{Answers, changes_in}
use Rattle.plan_step.specs.Making.{MakesFail}

-- a failure is passed on, where the whole means it too
pub failed_as : {A B C D : Type 0} (f : A → B) (g : C → D) (part : Result B StepFail) (whole : Result D StepFail) (e : StepFail)
    → (part ≡ Err e → whole ≡ Err e) → Answers f part (Err e) → Answers g whole (Err e)
failed_as f g part whole fail.Memory pass h = tt
failed_as f g part whole fail.Arity pass h = pass h
failed_as f g part whole fail.ArgType pass h = pass h
failed_as f g part whole (fail.Condition i) pass h = pass h
failed_as f g part whole (fail.NoValue i) pass h = pass h
failed_as f g part whole (fail.Clash i) pass h = pass h
failed_as f g part whole (fail.Wide w) pass h = pass h

-- ---- the changes, and then the state after them

after_free : (r : Result (Unit {0}) StepFail) (changes : List Change) (next : List Change → Result PlanState StepFail) → then_next r (λ _. next changes) ≡ then_next (then_next r (λ _. Ok changes)) next
after_free (Ok u) changes next = refl
after_free (Err e) changes next = refl

after_changes : (r : Result (Unit {0}) StepFail) (q : Result (List Change) StepFail) (free : List Change → Result (Unit {0}) StepFail) (next : List Change → Result PlanState StepFail)
    → then_next r (λ _. then_next q (λ changes. then_next (free changes) (λ _. next changes))) ≡ then_next (then_next r (λ _. then_next q (λ changes. then_next (free changes) (λ _. Ok changes)))) next
after_changes (Ok u) (Ok changes) free next = after_free (free changes) changes next
after_changes (Ok u) (Err e) free next = refl
after_changes (Err e) q free next = refl

module _ (s : PlanState) (a : Action) (args : List ℕ) (conds : List Cond) (effs : List Effect) (same_conds : conds ≡ a.conds) (same_effs : effs ≡ a.effs) where
  made_is : made_by s a args ≡ then_next (changes_in s args conds effs) (λ changes. state_after changes s)
  made_is =
      after_changes (first_unmet 0 (leaves_met s args a.conds)) (all_changes 0 (map (change_met s args) a.effs)) (first_clash 0 []) (λ changes. state_after changes s)
      ∙ ap (λ (cs : List Cond). then_next (changes_in s args cs a.effs) (λ changes. state_after changes s)) (sym same_conds)
      ∙ ap (λ (es : List Effect). then_next (changes_in s args conds es) (λ changes. state_after changes s)) (sym same_effs)

  fails_as : (e : StepFail) → changes_in s args conds effs ≡ Err e → made_by s a args ≡ Err e
  fails_as e is = made_is ∙ ap (λ (r : Result (List Change) StepFail). then_next r (λ changes. state_after changes s)) is

  -- where the changes aren't found, no step is made
  pub unmade : (e : StepFail) → Answers changes_of (changes_in s args conds effs) (Err e) → MakesFail (made_by s a args) s s e
  unmade fail.Memory h = refl
  unmade fail.Arity h = (fails_as fail.Arity h, refl)
  unmade fail.ArgType h = (fails_as fail.ArgType h, refl)
  unmade (fail.Condition i) h = (fails_as (fail.Condition i) h, refl)
  unmade (fail.NoValue i) h = (fails_as (fail.NoValue i) h, refl)
  unmade (fail.Clash i) h = (fails_as (fail.Clash i) h, refl)
  unmade (fail.Wide w) h = (fails_as (fail.Wide w) h, refl)

  -- the state after the changes that are found
  pub made_after : (touches also : List Touch) (placed : PlanState) (r : Result PlanState StepFail) → changes_in s args conds effs ≡ Ok (changes_of touches) → also ≡ touches → placed ≡ s → state_after (changes_of also) placed ≡ r → made_by s a args ≡ r
  made_after touches also placed r found same placed_same after =
      made_is
      ∙ ap (λ (q : Result (List Change) StepFail). then_next q (λ changes. state_after changes s)) found
      ∙ ap (λ (ts : List Touch). state_after (changes_of ts) s) (sym same)
      ∙ ap (λ (t : PlanState). state_after (changes_of also) t) (sym placed_same)
      ∙ after
