-- What is left to change in a layer: atoms that may not be so yet, ends that are finite, and constants of the task beyond
use Rattle.task_core.specs.declared.action.GAction.{GAction}
use Rattle.task_core.specs.Step.{set_of}
use Rattle.task_core.specs.Task.{GroundParts, start}
use Rattle.lin.specs.Linear.{Linear}
use Rattle.relaxed.specs.declared.interval.End.{End}
use Rattle.relaxed.specs.declared.interval.End.TheVariants.{At, Infinite}
use Rattle.relaxed.specs.declared.interval.Interval.{Interval}
use Rattle.relaxed.specs.Interval.{is_at_most}
use Rattle.relaxed.specs.Layers.{Layer}
-- them.
use Rattle.std.proofs.Common.{◌≡◌, ℕ, zero, suc, ◌+◌, ◌*◌, ◌<◌, Bool, cond, not, List, [], ◌∷◌, length, Option, Some, None}
use Rattle.rational.specs.Fraction.{Fraction}

abbrev pub with_constant : Option Linear → List Fraction → List Fraction
with_constant None ks = ks
with_constant (Some l) ks = l.constant ∷ ks

abbrev pub constants_of : ℕ → List GAction → List Fraction
constants_of f [] = []
constants_of f (a ∷ more) = with_constant (set_of a.sets f) (constants_of f more)

-- the finite ends that a function's intervals may have: the value at the start and the constants of its new values
abbrev pub constants : GroundParts → ℕ → List Fraction
constants task f = (start task).value f ∷ constants_of f task.actions

abbrev pub bit : Bool → ℕ
bit b = cond b 1 0

abbrev pub count : (Fraction → Bool) → List Fraction → ℕ
count test [] = 0
count test (x ∷ xs) = bit (test x) + count test xs

-- an end can move to each constant beyond it, and once to infinity
abbrev pub left_low : List Fraction → End → ℕ
left_low ks Infinite = 0
left_low ks (At e) = 1 + count (λ x. not (is_at_most e x)) ks

abbrev pub left_high : List Fraction → End → ℕ
left_high ks Infinite = 0
left_high ks (At e) = 1 + count (λ x. not (is_at_most x e)) ks

abbrev pub left : List Fraction → Option Interval → ℕ
left ks None = 3 + 2 * length ks
left ks (Some i) = left_low ks i.low + left_high ks i.high

abbrev pub total : ℕ → (ℕ → ℕ) → ℕ
total zero g = 0
total (suc n) g = g n + total n g

-- the measure of a layer of a task with so many atoms and functions
abbrev pub measure : GroundParts → ℕ → ℕ → Layer → ℕ
measure task atoms funcs y =
    total atoms (λ p. bit (not (y.may_be_true p))) + (total atoms (λ p. bit (not (y.may_be_false p))) + total funcs (λ f. left (constants task f) (y.interval f)))

-- the layers are the same, as far as the task's numbers go
pub record Same (atoms funcs : ℕ) (y z : Layer) : Type 0 where
  pub true_same : (p : ℕ) → p < atoms → y.may_be_true p ≡ z.may_be_true p
  pub false_same : (p : ℕ) → p < atoms → y.may_be_false p ≡ z.may_be_false p
  pub interval_same : (f : ℕ) → f < funcs → y.interval f ≡ z.interval f
