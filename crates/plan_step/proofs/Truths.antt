-- Atoms put to a truth, one by one.
use Rattle.std.proofs.Common.{◌≡◌, ℕ, ◌==◌, Bool, true, false, ◌&&◌, ◌||◌, cond, List, [], ◌∷◌, ◌++◌, Option, refl, sym, ap, ap₂, ◌∙◌}
use Rattle.std.proofs.Math.Path.{fun_ext}
use Rattle.std.proofs.lemmas.List.Folds.{list_any-append}
use Rattle.std.specs.Prelude.{bytes_eq}
use Rattle.std.specs.List.{list_any}
use Rattle.rational.specs.Fraction.{Fraction}
use Rattle.plan_step.specs.declared.touches.Touch.{Touch}
use Rattle.plan_step.specs.declared.touches.Touch.TheVariants as touch
use Rattle.plan_step.specs.State.{PlanState}
use Rattle.plan_step.specs.Places.{with_atom}
use Rattle.plan_step.specs.Meaning.{Change, put, change, puts}
use Rattle.plan_step.specs.Touches.{change_in}
use Rattle.plan_step.specs.inside.Application.{with_truths, put_by}
use Rattle.plan_step.proofs.Booleans.{flipped}

abbrev pub state_with : (ℕ → List ℕ → Bool) → (ℕ → List ℕ → Option Fraction) → PlanState
state_with truth value = record { truth = truth; value = value }

-- states with the same truths and values are one
pub one_state : (s t : PlanState) → ((p : ℕ) (args : List ℕ) → s.truth p args ≡ t.truth p args) → ((f : ℕ) (args : List ℕ) → s.value f args ≡ t.value f args) → s ≡ t
one_state s t truths values = ap₂ state_with (fun_ext (λ p. fun_ext (λ args. truths p args))) (fun_ext (λ f. fun_ext (λ args. values f args)))

module _ (b : Bool) (changes : List Change) (s : PlanState) where
  choice : (x y : Bool) (z : Bool) → cond (x || (y || false)) b z ≡ cond y b (cond x b z)
  choice true true z = refl
  choice true false z = refl
  choice false true z = refl
  choice false false z = refl

  -- an atom after one more change
  push : (c : Change) (p : ℕ) (args : List ℕ) → (with_truths b (changes ++ c ∷ []) s).truth p args ≡ cond (puts b p args c) b ((with_truths b changes s).truth p args)
  push c p args = ap (λ t. cond t b (s.truth p args)) (list_any-append (puts b p args) changes (c ∷ [])) ∙ choice (list_any (puts b p args) changes) (puts b p args c) (s.truth p args)

  other : (c : Change) → ((p : ℕ) (args : List ℕ) → puts b p args c ≡ false) → with_truths b changes s ≡ with_truths b (changes ++ c ∷ []) s
  other c not_put = one_state _ _ (λ p args. sym (push c p args ∙ ap (λ t. cond t b ((with_truths b changes s).truth p args)) (not_put p args))) (λ f args. refl)

  own : (c : Change) (p : ℕ) (args : List ℕ) → ((q : ℕ) (others : List ℕ) → puts b q others c ≡ (p == q && bytes_eq args others))
      → with_atom (with_truths b changes s) p args b ≡ with_truths b (changes ++ c ∷ []) s
  own c p args is_put = one_state _ _ (λ q others. sym (push c q others ∙ ap (λ t. cond t b ((with_truths b changes s).truth q others)) (is_put q others ∙ flipped p q args others))) (λ f args. refl)

atom_by : (b sign old : Bool) (p : ℕ) (args : List ℕ) (changes : List Change) (s : PlanState)
    → put_by b (touch.Atom sign p args old) (with_truths b changes s) ≡ with_truths b (changes ++ put sign p args ∷ []) s
atom_by true true old p args changes s = own true changes s (put true p args) p args (λ q others. refl)
atom_by true false old p args changes s = other true changes s (put false p args) (λ q others. refl)
atom_by false true old p args changes s = other false changes s (put true p args) (λ q others. refl)
atom_by false false old p args changes s = own false changes s (put false p args) p args (λ q others. refl)

-- a touch after others
pub truths_more : (b : Bool) (t : Touch) (changes : List Change) (s : PlanState) → put_by b t (with_truths b changes s) ≡ with_truths b (changes ++ change_in t ∷ []) s
truths_more b (touch.Atom sign p args old) changes s = atom_by b sign old p args changes s
truths_more b (touch.Function op f args by old) changes s = other b changes s (change op f args by) (λ q others. refl)

pub no_truths : (b : Bool) (s : PlanState) → s ≡ with_truths b [] s
no_truths b s = refl
