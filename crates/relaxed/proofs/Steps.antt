-- The state after a step lies in the next layer; each action of a run is supported by the layer with its number.
use Rattle.std.proofs.Common.{◌≡◌, ℕ, zero, suc, ◌+◌, ◌<◌, Bool, true, false, cond, not, ◌&&◌, ◌||◌, List, [], ◌∷◌, length, get_or, map, refl, ap, subst, Some, None, ◌⊎◌, inl, inr, arith}
use Rattle.std.specs.List.{All, AllByRecursion, list_any}
use Rattle.std.proofs.lemmas.Bool.{and_from}
use Rattle.std.proofs.lemmas.List.Folds.{list_any_at}
use Rattle.rational.proofs.OrderLaws.{≤ℚ_refl}
use Rattle.task_core.specs.declared.action.GAction.{GAction}
use Rattle.task_core.specs.State.{State}
use Rattle.task_core.specs.Step.{Holds, is_in, after}
use Rattle.task_core.specs.Task.{GroundParts, start, idle, action_at, has_value, IsActionOf}
use Rattle.task_core.specs.Plan.{Run}
use Rattle.relaxed.specs.Interval.{MayBe, point}
use Rattle.relaxed.specs.Layers.{Layer, first_layer, is_supported, reached, widened, next_layer, layer}
use Rattle.relaxed.specs.InLayer.{InLayer}
use Rattle.relaxed.proofs.Supported.{step-supported}
use Rattle.relaxed.proofs.Widened.{widened-keeps, widened-at}
use Rattle.relaxed.proofs.Reached.{after-reached}

or_left : (a b : Bool) → a ≡ true → (a || b) ≡ true
or_left true b e = refl
or_left false b e = absurd (cc)

or_right : (a b : Bool) → b ≡ true → (a || b) ≡ true
or_right true b e = refl
or_right false b e = e

pub start-inside : (task : GroundParts) → InLayer task (first_layer task) (start task)
start-inside task = record {
  true_in = λ p e. e;
  false_in = λ p e. ap not e;
  value_in = λ f e. by_value f (has_value task (start task) f) e;
}
  where
    by_value : (f : ℕ) (b : Bool) → b ≡ true → MayBe (cond b (Some (point ((start task).value f))) None) ((start task).value f)
    by_value f true e = record { low = ≤ℚ_refl _; high = ≤ℚ_refl _ }
    by_value f false e = absurd (cc)

pub step-inside : (task : GroundParts) (y : Layer) (s : State) (n : ℕ) → n < length task.actions → IsActionOf task (action_at task n) → InLayer task y s → Holds (action_at task n) s
    → InLayer task (next_layer task y) (after (action_at task n) s)
step-inside task y s n l of inside h = record {
  true_in = λ p e. true_by p (is_in p a.adds) (is_in p a.dels) refl e;
  false_in = λ p e. false_by p (is_in p a.adds) (is_in p a.dels) refl e;
  value_in = λ f e. value_by f (after-reached task y s inside a of h f e);
}
  where
    a : GAction
    a = action_at task n

    yes : is_supported y a ≡ true
    yes = step-supported task y s inside a of h

    adds_at : (p : ℕ) → is_in p a.adds ≡ true → list_any (λ a. is_supported y a && is_in p a.adds) task.actions ≡ true
    adds_at p e = list_any_at (λ a. is_supported y a && is_in p a.adds) task.actions n idle l (and_from _ _ yes e)

    dels_at : (p : ℕ) → is_in p a.dels ≡ true → list_any (λ a. is_supported y a && is_in p a.dels) task.actions ≡ true
    dels_at p e = list_any_at (λ a. is_supported y a && is_in p a.dels) task.actions n idle l (and_from _ _ yes e)

    true_by : (p : ℕ) (b d : Bool) → is_in p a.adds ≡ b → cond b true (cond d false (s.truth p)) ≡ true → (y.may_be_true p || list_any (λ a. is_supported y a && is_in p a.adds) task.actions) ≡ true
    true_by p true d j e = or_right (y.may_be_true p) _ (adds_at p j)
    true_by p false true j e = absurd (cc)
    true_by p false false j e = or_left (y.may_be_true p) _ (inside.true_in p e)

    false_by : (p : ℕ) (b d : Bool) → is_in p a.dels ≡ d → cond b true (cond d false (s.truth p)) ≡ false → (y.may_be_false p || list_any (λ a. is_supported y a && is_in p a.dels) task.actions) ≡ true
    false_by p true d j e = absurd (cc)
    false_by p false true j e = or_right (y.may_be_false p) _ (dels_at p j)
    false_by p false false j e = or_left (y.may_be_false p) _ (inside.false_in p e)

    value_by : (f : ℕ) → MayBe (y.interval f) ((after a s).value f) ⊎ MayBe (reached y f a) ((after a s).value f) → MayBe (widened y f task.actions (y.interval f)) ((after a s).value f)
    value_by f (inl r) = widened-keeps y f ((after a s).value f) task.actions (y.interval f) r
    value_by f (inr r) = widened-at y f ((after a s).value f) task.actions (y.interval f) n idle l yes r

-- each action of a run is supported by the layer with its number
pub run-supported : (task : GroundParts) → All (IsActionOf task) task.actions → (plan : List ℕ) (s t : State) (m : ℕ) → InLayer task (layer task m) s
    → AllByRecursion (λ n. n < length task.actions) plan → Run s (map (action_at task) plan) t
    → (i : ℕ) → i < length plan → is_supported (layer task (m + i)) (action_at task (get_or plan i 0)) ≡ true
run-supported task of [] s t m inside below run i l = absurd (omega arith)
run-supported task of (n ∷ plan) s t m inside below run zero l =
    let e : m ≡ m + 0 = omega arith in
    subst (λ k. is_supported (layer task k) (action_at task n) ≡ true) e (step-supported task (layer task m) s inside (action_at task n) (of n idle below.0) run.0)
run-supported task of (n ∷ plan) s t m inside below run (suc i) l =
    let e : suc m + i ≡ m + suc i = omega arith in
    subst (λ k. is_supported (layer task k) (action_at task (get_or plan i 0)) ≡ true) e
    (run-supported task of plan (after (action_at task n) s) t (suc m) (step-inside task (layer task m) s n below.0 (of n idle below.0) inside run.0)
    below.1 run.1 i (omega arith))
