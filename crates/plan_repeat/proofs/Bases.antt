-- What a jump stands on: the state before the first repetition, what a step changes, and by how much.
use Rattle.std.proofs.Common.{◌≡◌, ℕ, suc, ◌==◌, Bool, true, false, cond, ◌&&◌, ◌||◌, List, [], ◌∷◌, map, get_or, Option, Some, None, refl, sym, ap, ap₂, ◌∙◌}
use Rattle.std.specs.Prelude.{bytes_eq, is_some}
use Rattle.std.specs.List.{list_any, list_all}
use Rattle.std.specs.Option.{option_map}
use lib.IntN.{pos}
use Rattle.algebra.proofs.Solve.{v, k, ◌⊕◌, inv, solve_from, eq, done}
use Rattle.rational.specs.Fraction.{Fraction, whole, ◌+ℚ◌, ◌-ℚ◌}
use Rattle.rational.proofs.FieldLaws.{fraction-ring}
use Rattle.plan_step.specs.declared.touches.Touch.{Touch}
use Rattle.plan_step.specs.declared.touches.Touch.TheVariants as touch
use Rattle.plan_step.specs.State.{PlanState}
use Rattle.plan_step.specs.Meaning.{truth_after, value_after}
use Rattle.plan_repeat.specs.Rolling.{amount_of, growth, rolled}
use Rattle.plan_step.specs.Touches.{changes_of, target_of, is_function, EachTouch, IsKept}
use Rattle.plan_repeat.specs.inside.Jumping.{HasGrowth, IsBase, IsGrowth, AreGrowths, on_by, HasRolled, AreRolled, IsSameOutside}
use Rattle.plan_repeat.proofs.RolledSteps.{none-moved, is_sum, after-is}

-- a function that no touch names doesn't grow
untouched : (f : ℕ) (args : List ℕ) (b rest : Bool) (x y : Fraction) → (b || rest) ≡ false → (rest ≡ false → y ≡ whole (pos 0)) → cond b x y ≡ whole (pos 0)
untouched f args true rest x y e h = absurd (cc)
untouched f args false rest x y e h = h e

pub growth-untouched : (f : ℕ) (args : List ℕ) (touches : List Touch) → list_any (is_function f args) (map target_of touches) ≡ false → growth (changes_of touches) f args ≡ whole (pos 0)
growth-untouched f args [] none = refl
growth-untouched f args (touch.Atom sign p others kept ∷ more) none = growth-untouched f args more none
growth-untouched f args (touch.Function op g others by kept ∷ more) none =
    untouched f args (g == f && bytes_eq others args) (list_any (is_function f args) (map target_of more)) (amount_of op by +ℚ growth (changes_of more) f args) (growth (changes_of more) f args) none (growth-untouched f args more)

no-growth : (o : Option Fraction) (d : Fraction) → d ≡ whole (pos 0) → option_map (λ x. x +ℚ d) o ≡ o
no-growth None d e = refl
no-growth (Some x) d e = ap Some (solve_from fraction-ring (v 0 ⊕ v 1) (v 0) (x ∷ d ∷ []) (eq (k (pos 1)) (v 1) (k (pos 0)) e done) refl)

module _ (s : PlanState) (touches : List Touch) (qs : List Fraction) where
  -- what a touch keeps, and its growth
  rolled-touch : (n : ℕ) (t : Touch) (q : Fraction) → IsKept s t → HasGrowth (changes_of touches) t q → HasRolled (rolled (changes_of touches) s (suc n)) t q (whole (pos (suc n)))
  rolled-touch n (touch.Atom sign p args kept) q h g = tt
  rolled-touch n (touch.Function op f args by kept) q h g =
      sym (ap₂ (λ (o : Option Fraction) (d : Fraction). on_by d (whole (pos (suc n))) o) h g)

  outside-none : (n : ℕ) (f : ℕ) (args : List ℕ) → list_any (is_function f args) (map target_of touches) ≡ false → (rolled (changes_of touches) s (suc n)).value f args ≡ s.value f args
  outside-none n f args none = none-moved (suc n) (s.value f args) (growth (changes_of touches) f args) (growth-untouched f args touches none)

  module _ (now : PlanState) (h : IsBase s touches qs now) (n : ℕ) where
    pub base-rolled : AreRolled touches qs (whole (pos (suc n))) (rolled (changes_of touches) s (suc n))
    base-rolled = record { each = λ i t l is. rolled-touch n t (get_or qs i (whole (pos 0))) (h.kept i t l is) (h.grown i t l is) }

    pub base-outside : IsSameOutside touches now (rolled (changes_of touches) s (suc n))
    base-outside = record { truth = h.truth; value = λ f args none. h.outside f args none ∙ sym (outside-none n f args none) }

    -- the state n steps on is a base too
    pub base-on : IsBase s touches qs (rolled (changes_of touches) s (suc n))
    base-on = record { kept = h.kept; grown = h.grown; truth = λ p args. refl; outside = outside-none n }

  -- ---- the state after the first step is one
  grown-by : (x y : Fraction) (d q : Fraction) → y ≡ x +ℚ d → q ≡ y -ℚ x → q ≡ d
  grown-by x y d q e g = solve_from fraction-ring (v 3) (v 2) (x ∷ y ∷ d ∷ q ∷ []) (eq (k (pos 1)) (v 1) (v 0 ⊕ v 2) e (eq (k (pos 1)) (v 3) (v 1 ⊕ inv (v 0)) g done)) refl

  some_value : (o p : Option Fraction) (d q : Fraction) → p ≡ option_map (λ x. x +ℚ d) o → is_some o ≡ true → ((x y : Fraction) → o ≡ Some x → p ≡ Some y → q ≡ y -ℚ x) → q ≡ d
  some_value None p d q e some g = absurd (cc)
  some_value (Some x) p d q e some g = grown-by x (x +ℚ d) d q refl (g x (x +ℚ d) refl e)

  -- each touch of a sum has a value before
  abbrev pub HasOld : Touch → Type 0
  HasOld (touch.Atom sign p args kept) = Unit {0}
  HasOld (touch.Function op f args by kept) = is_some kept ≡ true

  touch-growth : (now : PlanState) (t : Touch) (q : Fraction) → ((f : ℕ) (args : List ℕ) → now.value f args ≡ value_after (changes_of touches) f args (s.value f args)) → list_all is_sum (changes_of touches) ≡ true
      → IsKept s t → HasOld t → IsGrowth now t q → HasGrowth (changes_of touches) t q
  touch-growth now (touch.Atom sign p args kept) q value sums h o g = tt
  touch-growth now (touch.Function op f args by kept) q value sums h o g =
      some_value kept (now.value f args) (growth (changes_of touches) f args) q
      (value f args ∙ after-is f args (changes_of touches) (s.value f args) sums ∙ ap (option_map (λ x. x +ℚ growth (changes_of touches) f args)) (sym h)) o g

  first-outside : (now : PlanState) → ((f : ℕ) (args : List ℕ) → now.value f args ≡ value_after (changes_of touches) f args (s.value f args)) → list_all is_sum (changes_of touches) ≡ true
      → (f : ℕ) (args : List ℕ) → list_any (is_function f args) (map target_of touches) ≡ false → now.value f args ≡ s.value f args
  first-outside now value sums f args none =
      value f args ∙ after-is f args (changes_of touches) (s.value f args) sums ∙ no-growth (s.value f args) (growth (changes_of touches) f args) (growth-untouched f args touches none)

  pub base-first : (now : PlanState) → ((p : ℕ) (args : List ℕ) → now.truth p args ≡ truth_after (changes_of touches) s.truth p args)
      → ((f : ℕ) (args : List ℕ) → now.value f args ≡ value_after (changes_of touches) f args (s.value f args)) → list_all is_sum (changes_of touches) ≡ true
      → EachTouch (IsKept s) touches → EachTouch HasOld touches → AreGrowths now touches qs → IsBase s touches qs now
  base-first now truth value sums kept old grown = record {
    kept = kept;
    grown = λ i t l is. touch-growth now t (get_or qs i (whole (pos 0))) value sums (kept i t l is) (old i t l is) (grown.each i t l is);
    truth = truth;
    outside = first-outside now value sums;
  }
