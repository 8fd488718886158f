-- Functions changed one by one.
use Rattle.std.proofs.Common.{◌≡◌, ℕ, ◌+◌, ◌<◌, ◌≤◌, ◌==◌, Bool, true, false, ◌&&◌, cond, List, ◌∷◌, map, length, get_or, drop, Option, Some, Ok, Err, refl, sym, ap, subst, ◌∙◌}
use Rattle.std.proofs.lemmas.List.{at_drop_more, at_drop_all, get_or-map, length-map}
use Rattle.std.proofs.lemmas.List.Folds.{list_any_at}
use Rattle.std.specs.Prelude.{bytes_eq}
use Rattle.std.specs.List.{list_any}
use Rattle.rational.specs.Fraction.{Fraction}
use Rattle.frac128.specs.declared.operations.Wide.{Wide}
use Rattle.pddl_task.specs.declared.effect.NumOp.{NumOp}
use Rattle.pddl_task.specs.declared.effect.NumOp.TheVariants.{Assign, Increase, Decrease, ScaleUp, ScaleDown}
use Rattle.plan_step.specs.declared.touches.Touch.{Touch}
use Rattle.plan_step.specs.declared.touches.Touch.TheVariants as touch
use Rattle.plan_step.specs.State.{PlanState}
use Rattle.plan_step.specs.Met.{Met, found, passes, and_then}
use Rattle.plan_step.specs.Places.{with_function}
use Rattle.plan_step.specs.Effects.{target_met, with_value, values_after}
use Rattle.plan_step.specs.Meaning.{Change}
use Rattle.plan_step.specs.Touches.{Target, target_of, change_in, changes_of, HasTarget, DiffersIn, is_function}
use Rattle.plan_step.specs.inside.Application.{TouchChanges}
use Rattle.plan_step.proofs.Booleans.{flipped}
use Rattle.plan_step.proofs.Restoring.{chosen, differs_refl}

abbrev Values : Type 0
Values = ℕ → List ℕ → Option Fraction

-- a test that no element passes fails at each
none_by : {X : Type 0} (test : X → Bool) (xs : List X) (i : ℕ) (d : X) → i < length xs → list_any test xs ≡ false → (b : Bool) → test (get_or xs i d) ≡ b → b ≡ false
none_by test xs i d within none true e = sym (list_any_at test xs i d within e) ∙ none
none_by test xs i d within none false e = refl

none_at : {X : Type 0} (test : X → Bool) (xs : List X) (i : ℕ) (d : X) → i < length xs → list_any test xs ≡ false → test (get_or xs i d) ≡ false
none_at test xs i d within none = none_by test xs i d within none (test (get_or xs i d)) refl

pub none_of : (test : Target → Bool) (touches : List Touch) (i : ℕ) (t : Touch) → i < length touches → t ≡ get_or touches i t → list_any test (map target_of touches) ≡ false → test (target_of t) ≡ false
none_of test touches i t within is none =
    let n : i < length (map target_of touches) = subst (λ n. i < n) (sym (length-map touches target_of)) within in
    ap test (sym (get_or-map target_of touches i t (target_of t) within ∙ ap target_of (sym is))) ∙ none_at test (map target_of touches) i (target_of t) n none

pub has_value : (op : NumOp) (x : Fraction) → target_met op (Some x) ≡ found tt
has_value Assign x = refl
has_value Increase x = refl
has_value Decrease x = refl
has_value ScaleUp x = refl
has_value ScaleDown x = refl

module _ (old new : PlanState) where
  -- the rest of the changes, from the values after the first
  pub values_step : (t : Touch) (more : List Change) (r : Unit {0}) → TouchChanges t old new (Ok r) → values_after (change_in t ∷ more) old.value ≡ values_after more new.value
  values_step (touch.Atom sign p args kept) more r h = ap (λ (s : PlanState). values_after more s.value) (sym h)
  values_step (touch.Function op f args by kept) more r h =
      ap (λ (m : Met Fraction). and_then m (λ x. values_after more (with_value old.value f args x))) h.1 ∙ ap (λ (s : PlanState). values_after more s.value) (sym h.2)

  pub values_fail : (t : Touch) (more : List Change) (w : Wide) → TouchChanges t old new (Err w) → values_after (change_in t ∷ more) old.value ≡ passes w
  values_fail (touch.Atom sign p args kept) more w h = absurd h
  values_fail (touch.Function op f args by kept) more w h = ap (λ (m : Met Fraction). and_then m (λ x. values_after more (with_value old.value f args x))) h.0

  pub truth_step : (t : Touch) (r : Unit {0}) → TouchChanges t old new (Ok r) → new.truth ≡ old.truth
  truth_step (touch.Atom sign p args kept) r h = ap (λ (s : PlanState). s.truth) h
  truth_step (touch.Function op f args by kept) r h = ap (λ (s : PlanState). s.truth) h.2

  pub unchanged : (t : Touch) (w : Wide) → TouchChanges t old new (Err w) → new ≡ old
  unchanged (touch.Atom sign p args kept) w h = absurd h
  unchanged (touch.Function op f args by kept) w h = h.1

  still : (u : Touch) (b : Bool) (op : NumOp) (x : Fraction) (v : Option Fraction) → target_met op v ≡ found tt → target_met op (cond b (Some x) v) ≡ found tt
  still u true op x v h = has_value op x
  still u false op x v h = h

  target_at : (u : Touch) (f : ℕ) (args : List ℕ) (x : Fraction) → HasTarget old u → HasTarget (with_function old f args (Some x)) u
  target_at (touch.Atom sign p others kept) f args x h = tt
  target_at (touch.Function op g others by kept) f args x h = still (touch.Function op g others by kept) (g == f && bytes_eq others args) op x (old.value g others) h

  pub target_step : (t : Touch) (r : Unit {0}) → TouchChanges t old new (Ok r) → (u : Touch) → HasTarget old u → HasTarget new u
  target_step (touch.Atom sign p args kept) r h u here = subst (λ (s : PlanState). HasTarget s u) (sym h) here
  target_step (touch.Function op f args by kept) r h u here = subst (λ (s : PlanState). HasTarget s u) (sym h.2) (target_at u f args h.0 here)

  pub differs_at : (touches : List Touch) (i : ℕ) (t : Touch) → i < length touches → t ≡ get_or touches i t → (r : Unit {0}) → TouchChanges t old new (Ok r) → DiffersIn (map target_of touches) old new
  differs_at touches i (touch.Atom sign p args kept) within is r h = differs_refl (map target_of touches) old new h
  differs_at touches i (touch.Function op f args by kept) within is r h = subst (λ (s : PlanState). DiffersIn (map target_of touches) old s) (sym h.2) (record {
    truth = λ p others none. refl;
    value = λ g others none. chosen (g == f && bytes_eq others args) (Some h.0) (old.value g others) (old.value g others)
        (λ here. let e : true ≡ false = sym here ∙ flipped g f others args ∙ none_of (is_function g others) touches i (touch.Function op f args by kept) within is none in cc)
        (λ apart. refl);
  })

module _ (touches : List Touch) (first : PlanState) where
  abbrev pub AreChanged : ℕ → PlanState → Type 0
  AreChanged i s = values_after (changes_of touches) first.value ≡ values_after (changes_of (drop i touches)) s.value

  split : (i : ℕ) (t : Touch) (s : PlanState) → i < length touches → t ≡ get_or touches i t
      → values_after (changes_of (drop i touches)) s.value ≡ values_after (change_in t ∷ changes_of (drop (i + 1) touches)) s.value
  split i t s within is = at_drop_more (λ us. values_after (changes_of us) s.value) touches i t within ∙ ap (λ (u : Touch). values_after (change_in u ∷ changes_of (drop (i + 1) touches)) s.value) (sym is)

  pub changed_more : (i : ℕ) (t : Touch) (s new : PlanState) → AreChanged i s → i < length touches → t ≡ get_or touches i t → (r : Unit {0}) → TouchChanges t s new (Ok r) → AreChanged (i + 1) new
  changed_more i t s new h within is r changes = h ∙ split i t s within is ∙ values_step s new t (changes_of (drop (i + 1) touches)) r changes

  pub change_fails : (i : ℕ) (t : Touch) (s new : PlanState) → AreChanged i s → i < length touches → t ≡ get_or touches i t → (w : Wide) → TouchChanges t s new (Err w) → values_after (changes_of touches) first.value ≡ passes w
  change_fails i t s new h within is w changes = h ∙ split i t s within is ∙ values_fail s new t (changes_of (drop (i + 1) touches)) w changes

  pub all_changed : (i : ℕ) (s : PlanState) → AreChanged i s → length touches ≤ i → values_after (changes_of touches) first.value ≡ found s.value
  all_changed i s h past = h ∙ at_drop_all (λ us. values_after (changes_of us) s.value) touches i past
