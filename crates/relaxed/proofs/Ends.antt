-- Each layer is the same as the next, or the next has a smaller measure.
use Rattle.std.proofs.Common.{◌≡◌, ℕ, zero, suc, ◌+◌, ◌<◌, ◌≤◌, Bool, true, false, cond, not, ◌||◌, List, [], ◌∷◌, refl, ap, subst, Option, Some, None, ◌⊎◌, inl, inr, arith}
use Rattle.std.specs.List.{AllByRecursion}
use Rattle.std.proofs.lemmas.Bool.{cases_lt}
use Rattle.rational.specs.Fraction.{Fraction}
use Rattle.task_core.specs.declared.action.GAction.{GAction}
use Rattle.task_core.specs.Step.{set_of}
use Rattle.task_core.specs.Task.{GroundParts, start, has_value}
use Rattle.lin.specs.Linear.{Linear}
use Rattle.relaxed.specs.Interval.{point}
use Rattle.relaxed.specs.Layers.{Layer, next_layer, layer}
use Rattle.relaxed.proofs.Measure.{with_constant, constants_of, constants, bit, left, total, measure, Same}
use Rattle.relaxed.proofs.Falls.{Among, Known, widened-known, widened-falls}

-- ---- the constants of all actions are among the constants
among_more : (o : Option Linear) (ks : List Fraction) (x : Fraction) → Among x ks → Among x (with_constant o ks)
among_more None ks x h = h
among_more (Some l) ks x h = inr h

among_first : (o : Option Linear) (ks : List Fraction) (l : Linear) → o ≡ Some l → Among l.constant (with_constant o ks)
among_first None ks l e = absurd (cc)
among_first (Some m) ks l e = let q : m ≡ l = cc in inl (ap (λ (w : Linear). w.constant) q)

sets_known : (f : ℕ) (big : List Fraction) (acts : List GAction) → ((x : Fraction) → Among x (constants_of f acts) → Among x big)
    → AllByRecursion (λ (a : GAction). (l : Linear) → set_of a.sets f ≡ Some l → Among l.constant big) acts
sets_known f big [] h = tt
sets_known f big (a ∷ more) h = (
  λ l e. h l.constant (among_first (set_of a.sets f) (constants_of f more) l e),
  sets_known f big more (λ x g. h x (among_more (set_of a.sets f) (constants_of f more) x g)),
)

all_known : (task : GroundParts) (f : ℕ) → AllByRecursion (λ (a : GAction). (l : Linear) → set_of a.sets f ≡ Some l → Among l.constant (constants task f)) task.actions
all_known task f = sets_known f (constants task f) task.actions (λ x g. inr g)

-- the finite ends of each layer are constants of the task
pub layer-known : (task : GroundParts) (n f : ℕ) → Known (constants task f) ((layer task n).interval f)
layer-known task zero f = by_value (has_value task (start task) f)
  where
    by_value : (b : Bool) → Known (constants task f) (cond b (Some (point ((start task).value f))) None)
    by_value true = (inl refl, inl refl)
    by_value false = tt
layer-known task (suc n) f =
    let old = layer-known task n f in
    widened-known (constants task f) (layer task n) f old task.actions ((layer task n).interval f) (all_known task f) old

-- ---- totals
module _ (X : ℕ → Type 0) (g h : ℕ → ℕ) (same : (i : ℕ) → X i → g i ≡ h i) (each : (i : ℕ) → X i ⊎ (g i < h i)) where
  pub total-falls : (n : ℕ) → (((i : ℕ) → i < n → X i) × (total n g ≡ total n h)) ⊎ (total n g < total n h)
  total-falls zero = inl (λ i l. absurd (omega arith), refl)
  total-falls (suc n) = both (each n) (total-falls n)
    where
      at_last : ((i : ℕ) → i < n → X i) → X n → (i : ℕ) → i < suc n → X i
      at_last a x i l = by_place (cases_lt i n)
        where
          by_place : (i < n) ⊎ (n ≤ i) → X i
          by_place (inl m) = a i m
          by_place (inr m) = let e : n ≡ i = omega arith in subst X e x

      both : X n ⊎ (g n < h n) → (((i : ℕ) → i < n → X i) × (total n g ≡ total n h)) ⊎ (total n g < total n h) → (((i : ℕ) → i < suc n → X i) × (g n + total n g ≡ h n + total n h)) ⊎ (g n + total n g < h n + total n h)
      both (inl x) (inl a) = let e = same n x in let d = a.1 in inl (at_last a.0 x, omega arith)
      both (inl x) (inr m) = let e = same n x in inr (omega arith)
      both (inr l) (inl a) = let d = a.1 in inr (omega arith)
      both (inr l) (inr m) = inr (omega arith)

joins : (b c : Bool) → ((b || c) ≡ b) ⊎ (bit (not (b || c)) < bit (not b))
joins true c = inl refl
joins false true = inr (omega arith)
joins false false = inl refl

-- the next layer is the same, or its measure is smaller
pub layer-falls : (task : GroundParts) (atoms funcs n : ℕ) → Same atoms funcs (layer task (suc n)) (layer task n) ⊎ (measure task atoms funcs (layer task (suc n)) < measure task atoms funcs (layer task n))
layer-falls task atoms funcs n =
    combine
    (total-falls (λ p. z.may_be_true p ≡ y.may_be_true p) (λ p. bit (not (z.may_be_true p))) (λ p. bit (not (y.may_be_true p))) (λ p e. ap (λ b. bit (not b)) e) (λ p. joins (y.may_be_true p) _) atoms)
    (total-falls (λ p. z.may_be_false p ≡ y.may_be_false p) (λ p. bit (not (z.may_be_false p))) (λ p. bit (not (y.may_be_false p))) (λ p e. ap (λ b. bit (not b)) e) (λ p. joins (y.may_be_false p) _) atoms)
    (total-falls (λ f. z.interval f ≡ y.interval f) (λ f. left (constants task f) (z.interval f)) (λ f. left (constants task f) (y.interval f)) (λ f e. ap (left (constants task f)) e)
    (λ f. widened-falls (constants task f) y f (layer-known task n f) task.actions (y.interval f) (all_known task f)) funcs)
  where
    y : Layer
    y = layer task n

    z : Layer
    z = next_layer task (layer task n)

    combine : (((p : ℕ) → p < atoms → z.may_be_true p ≡ y.may_be_true p) × (total atoms (λ p. bit (not (z.may_be_true p))) ≡ total atoms (λ p. bit (not (y.may_be_true p))))) ⊎ (total atoms (λ p. bit (not (z.may_be_true p))) < total atoms (λ p. bit (not (y.may_be_true p))))
        → (((p : ℕ) → p < atoms → z.may_be_false p ≡ y.may_be_false p) × (total atoms (λ p. bit (not (z.may_be_false p))) ≡ total atoms (λ p. bit (not (y.may_be_false p))))) ⊎ (total atoms (λ p. bit (not (z.may_be_false p))) < total atoms (λ p. bit (not (y.may_be_false p))))
        → (((f : ℕ) → f < funcs → z.interval f ≡ y.interval f) × (total funcs (λ f. left (constants task f) (z.interval f)) ≡ total funcs (λ f. left (constants task f) (y.interval f)))) ⊎ (total funcs (λ f. left (constants task f) (z.interval f)) < total funcs (λ f. left (constants task f) (y.interval f)))
        → Same atoms funcs z y ⊎ (measure task atoms funcs z < measure task atoms funcs y)
    combine (inl a) (inl b) (inl c) = inl (record { true_same = a.0; false_same = b.0; interval_same = c.0 })
    combine (inl a) (inl b) (inr c) = let d = a.1 in let e = b.1 in inr (omega arith)
    combine (inl a) (inr b) (inl c) = let d = a.1 in let e = c.1 in inr (omega arith)
    combine (inl a) (inr b) (inr c) = let d = a.1 in inr (omega arith)
    combine (inr a) (inl b) (inl c) = let d = b.1 in let e = c.1 in inr (omega arith)
    combine (inr a) (inl b) (inr c) = let d = b.1 in inr (omega arith)
    combine (inr a) (inr b) (inl c) = let d = c.1 in inr (omega arith)
    combine (inr a) (inr b) (inr c) = inr (omega arith)
