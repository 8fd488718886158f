-- Where the layers are the same as far as the task's numbers go, they end; they end by the first layer's measure.
use Rattle.std.proofs.Common.{◌≡◌, ℕ, zero, suc, ◌+◌, ◌<◌, ◌≤◌, Bool, true, false, cond, ◌&&◌, ◌||◌, List, [], ◌∷◌, length, refl, ap, ◌∙◌, Option, Some, None, ◌⊎◌, inl, inr, arith}
use mathlib.Core.Path.{fun_ext}
use Rattle.std.specs.List.{AllByRecursion, list_any}
use Rattle.std.proofs.lemmas.Bool.{cases_lt}
use lib.IntN.{pos}
use Rattle.rational.specs.Fraction.{whole}
use Rattle.task_core.specs.declared.action.GAction.{GAction}
use Rattle.task_core.specs.Step.{is_in, set_of}
use Rattle.task_core.specs.Task.{GroundParts, IsGroundTask}
use Rattle.relaxed.specs.declared.interval.Interval.{Interval}
use Rattle.relaxed.specs.Interval.{hull}
use Rattle.relaxed.specs.Layers.{Layer, is_supported, reached_by, reached, widened, next_layer, layer, EndsAt}
use Rattle.relaxed.proofs.Measure.{measure, Same}
use Rattle.relaxed.proofs.Numbered.{IsInRange, actions_in_range}
use Rattle.relaxed.proofs.Ends.{layer-falls}

and-false : (b : Bool) → (b && false) ≡ false
and-false true = refl
and-false false = refl

or-false : (b : Bool) → (b || false) ≡ b
or-false true = refl
or-false false = refl

pub hull-none : (i : Option Interval) → hull i None ≡ i
hull-none None = refl
hull-none (Some i) = refl

module _ (task : GroundParts) (atoms funcs : ℕ) (y : Layer) where
  pub no-adds : (p : ℕ) → atoms ≤ p → (acts : List GAction) → AllByRecursion (IsInRange atoms funcs) acts → list_any (λ a. is_supported y a && is_in p a.adds) acts ≡ false
  no-adds p l [] h = refl
  no-adds p l (a ∷ more) h = ap (λ b. (is_supported y a && b) || list_any (λ a. is_supported y a && is_in p a.adds) more) (h.0.adds_in p l)
      ∙ ap (λ b. b || list_any (λ a. is_supported y a && is_in p a.adds) more) (and-false (is_supported y a)) ∙ no-adds p l more h.1

  pub no-dels : (p : ℕ) → atoms ≤ p → (acts : List GAction) → AllByRecursion (IsInRange atoms funcs) acts → list_any (λ a. is_supported y a && is_in p a.dels) acts ≡ false
  no-dels p l [] h = refl
  no-dels p l (a ∷ more) h = ap (λ b. (is_supported y a && b) || list_any (λ a. is_supported y a && is_in p a.dels) more) (h.0.dels_in p l)
      ∙ ap (λ b. b || list_any (λ a. is_supported y a && is_in p a.dels) more) (and-false (is_supported y a)) ∙ no-dels p l more h.1

  zero-none : (i : Option Interval) → reached_by y i (whole (pos 0)) None ≡ None
  zero-none None = refl
  zero-none (Some i) = refl

  pub no-reach : (f : ℕ) → funcs ≤ f → (acts : List GAction) (i : Option Interval) → AllByRecursion (IsInRange atoms funcs) acts → widened y f acts i ≡ i
  no-reach f l [] i h = refl
  no-reach f l (a ∷ more) i h = no-reach f l more (cond (is_supported y a) (hull i (reached y f a)) i) h.1 ∙ by_test (is_supported y a)
    where
      none : reached y f a ≡ None
      none = ap (λ c. reached_by y (y.interval f) c (set_of a.sets f)) (h.0.incs_in f l) ∙ ap (λ o. reached_by y (y.interval f) (whole (pos 0)) o) (h.0.sets_in f l) ∙ zero-none (y.interval f)

      by_test : (b : Bool) → cond b (hull i (reached y f a)) i ≡ i
      by_test true = ap (hull i) none ∙ hull-none i
      by_test false = refl

layer_of : (ℕ → Bool) → (ℕ → Bool) → (ℕ → Option Interval) → Layer
layer_of t f i = record { may_be_true = t; may_be_false = f; interval = i }

pub same-ends : (task : GroundParts) (atoms funcs n : ℕ) → AllByRecursion (IsInRange atoms funcs) task.actions → Same atoms funcs (layer task (suc n)) (layer task n) → EndsAt task n
unfolding layer_of
same-ends task atoms funcs n r s =
    ap (λ w. layer_of w z.may_be_false z.interval) (fun_ext (λ p. true_at p (cases_lt p atoms)))
    ∙ ap (λ w. layer_of y.may_be_true w z.interval) (fun_ext (λ p. false_at p (cases_lt p atoms)))
    ∙ ap (λ w. layer_of y.may_be_true y.may_be_false w) (fun_ext (λ f. interval_at f (cases_lt f funcs)))
  where
    y : Layer
    y = layer task n

    z : Layer
    z = next_layer task (layer task n)

    true_at : (p : ℕ) → (p < atoms) ⊎ (atoms ≤ p) → z.may_be_true p ≡ y.may_be_true p
    true_at p (inl l) = s.true_same p l
    true_at p (inr l) = ap (λ b. y.may_be_true p || b) (no-adds task atoms funcs y p l task.actions r) ∙ or-false (y.may_be_true p)

    false_at : (p : ℕ) → (p < atoms) ⊎ (atoms ≤ p) → z.may_be_false p ≡ y.may_be_false p
    false_at p (inl l) = s.false_same p l
    false_at p (inr l) = ap (λ b. y.may_be_false p || b) (no-dels task atoms funcs y p l task.actions r) ∙ or-false (y.may_be_false p)

    interval_at : (f : ℕ) → (f < funcs) ⊎ (funcs ≤ f) → z.interval f ≡ y.interval f
    interval_at f (inl l) = s.interval_same f l
    interval_at f (inr l) = no-reach task atoms funcs y f l task.actions (y.interval f) r

ends_from : (task : GroundParts) (atoms funcs : ℕ) → AllByRecursion (IsInRange atoms funcs) task.actions → (fuel n : ℕ) → measure task atoms funcs (layer task n) < fuel
    → (e : ℕ) × (e < n + fuel) × EndsAt task e
ends_from task atoms funcs r zero n l = absurd (omega arith)
ends_from task atoms funcs r (suc fuel) n l = by_fall (layer-falls task atoms funcs n) (ends_from task atoms funcs r fuel (suc n))
  where
    by_fall : Same atoms funcs (layer task (suc n)) (layer task n) ⊎ (measure task atoms funcs (layer task (suc n)) < measure task atoms funcs (layer task n))
        → (measure task atoms funcs (layer task (suc n)) < fuel → (e : ℕ) × (e < suc n + fuel) × EndsAt task e) → (e : ℕ) × (e < n + suc fuel) × EndsAt task e
    by_fall (inl s) ih = (n, omega arith, same-ends task atoms funcs n r s)
    by_fall (inr m) ih = let t = ih (omega arith) in (t.0, omega arith, t.2)

-- the layers end, at a number that is at most the first layer's measure
pub layers-end : (task : GroundParts) (atoms funcs : ℕ) → AllByRecursion (IsInRange atoms funcs) task.actions
    → (e : ℕ) × (e < 0 + suc (measure task atoms funcs (layer task 0))) × EndsAt task e
layers-end task atoms funcs r = ends_from task atoms funcs r (suc (measure task atoms funcs (layer task 0))) 0 (omega arith)

pub layers_of_task_end : (task : GroundParts) → IsGroundTask task → (e : ℕ) × EndsAt task e
layers_of_task_end task h = let end = layers-end task (length task.atoms) (length task.funcs) (actions_in_range task h) in (end.0, end.2)
