-- What stands among the kept instances is a kept instance.
use Rattle.std.proofs.Common.{◌≡◌, ℕ, zero, suc, ◌+◌, Bool, true, false, cond, List, [], ◌∷◌, ◌++◌, map, filter, length, Some, None, slice_get, refl, sym, ap, subst, ◌∙◌, arith}
use Rattle.std.specs.List.{list_all, flat_map}
use Rattle.std.proofs.lemmas.Bool.{and_parts}
use Rattle.pddl_task.specs.declared.action.Action.{Action}
use Rattle.pddl_task.specs.declared.parts.TaskParts.{TaskParts}
use Rattle.plan_step.specs.Meaning.{all_fit, IsInstanceOf}
use Rattle.ground_action.specs.Setting.{setting_of}
use Rattle.ground_action.specs.GroundAction.{is_kept}
use Rattle.ground_instances.specs.ArgumentLists.{count_from, lists_below, static_met, suits, argument_lists}
use Rattle.ground_walk.specs.Walk.{Kept, kept_of_action, kept_from, kept_instances}

-- a fact of each of a list
pub record Each {A : Type 0} (P : A → Type 0) (xs : List A) : Type 0 where
  pub at : (n : ℕ) (x : A) → slice_get xs n ≡ Some x → P x

module _ {A : Type 0} (P : A → Type 0) where
  none : Each P []
  none = record { at = λ n x e. absurd (differ e) }
    where
      differ : {x : A} → None ≡ Some x → ⊥
      differ e = cc

  one_more : (x : A) (xs : List A) → P x → Each P xs → Each P (x ∷ xs)
  one_more x xs p h = record { at = here }
    where
      here : (n : ℕ) (y : A) → slice_get (x ∷ xs) n ≡ Some y → P y
      here zero y e = let is : x ≡ y = cc in subst P is p
      here (suc n) y e = h.at n y e

  both : (xs ys : List A) → Each P xs → Each P ys → Each P (xs ++ ys)
  both [] ys h g = g
  both (x ∷ xs) ys h g = one_more x (xs ++ ys) (h.at zero x refl) (both xs ys (record { at = λ n y e. h.at (suc n) y e }) g)

each_map : {A B : Type 0} (P : B → Type 0) (f : A → B) (xs : List A) → Each (λ x. P (f x)) xs → Each P (map f xs)
each_map P f [] h = none P
each_map P f (x ∷ xs) h = one_more P (f x) (map f xs) (h.at zero x refl) (each_map P f xs (record { at = λ n y e. h.at (suc n) y e }))

each_flat : {A B : Type 0} (P : B → Type 0) (f : A → List B) (xs : List A) → ((x : A) → Each P (f x)) → Each P (flat_map f xs)
each_flat P f [] h = none P
each_flat P f (x ∷ xs) h = both P (f x) (flat_map f xs) (h x) (each_flat P f xs h)

each_filter : {A : Type 0} (P Q : A → Type 0) (p : A → Bool) → ((x : A) → P x → p x ≡ true → Q x) → (xs : List A) → Each P xs → Each Q (filter p xs)
each_filter P Q p f [] h = none Q
each_filter P Q p f (x ∷ xs) h = by (p x) refl (each_filter P Q p f xs (record { at = λ n y e. h.at (suc n) y e }))
  where
    by : (b : Bool) → p x ≡ b → Each Q (filter p xs) → Each Q (cond b (x ∷ filter p xs) (filter p xs))
    by true e rest = one_more Q x (filter p xs) (f x (h.at zero x refl) e) rest
    by false e rest = rest

-- lists of so many numbers
as_long : (n k : ℕ) → Each (λ (args : List ℕ). length args ≡ k) (lists_below n k)
as_long n zero = one_more (λ (args : List ℕ). length args ≡ zero) [] [] refl (none (λ (args : List ℕ). length args ≡ zero))
as_long n (suc k) =
    each_flat (λ (args : List ℕ). length args ≡ suc k) (λ o. map (λ args. o ∷ args) (lists_below n k)) (count_from 0 n)
    (λ o. each_map (λ (args : List ℕ). length args ≡ suc k) (λ args. o ∷ args) (lists_below n k) (record { at = λ i args e. ap suc ((as_long n k).at i args e) }))

module _ (task : TaskParts) where
  abbrev IsOf : Action → List ℕ → Type 0
  IsOf a args = (length args ≡ length a.params) × (all_fit task a.params args ≡ true)

  listed_fit : (a : Action) → Each (IsOf a) (argument_lists task a)
  listed_fit a =
      each_filter (λ (args : List ℕ). length args ≡ length a.params) (IsOf a) (suits task a)
      (λ args long h. (long, (and_parts (all_fit task a.params args) (list_all (static_met task args) a.conds) h).0))
      (lists_below (length task.objects) (length a.params)) (as_long (length task.objects) (length a.params))

  -- an instance of an action, which is kept
  pub record IsKeptOf (actions : List Action) (first : ℕ) (k : Kept) : Type 0 where
    pub place : ℕ
    pub number : k.number ≡ first + place
    pub there : slice_get actions place ≡ Some k.action
    pub long : length k.args ≡ length k.action.params
    pub fits : all_fit task k.action.params k.args ≡ true
    pub kept : is_kept (setting_of task [] []) k.action k.args ≡ true

  later : (a : Action) (actions : List Action) (n : ℕ) (k : Kept) → IsKeptOf actions (suc n) k → IsKeptOf (a ∷ actions) n k
  later a actions n k h = record { place = suc h.place; number = h.number ∙ shift n h.place; there = h.there; long = h.long; fits = h.fits; kept = h.kept }
    where
      shift : (m i : ℕ) → suc m + i ≡ m + suc i
      shift m i = omega arith

  all_kept : (n : ℕ) (actions : List Action) → Each (IsKeptOf actions n) (kept_from task n actions)
  all_kept n [] = none (IsKeptOf [] n)
  all_kept n (a ∷ actions) =
      both (IsKeptOf (a ∷ actions) n) (map with_args (kept_of_action task a)) (kept_from task (suc n) actions)
      (each_map (IsKeptOf (a ∷ actions) n) with_args (kept_of_action task a)
      (each_filter (IsOf a) (λ args. IsKeptOf (a ∷ actions) n (with_args args)) (is_kept (setting_of task [] []) a)
      (λ args of h. record { place = zero; number = plus_none n; there = refl; long = of.0; fits = of.1; kept = h })
      (argument_lists task a) (listed_fit a)))
      (record { at = λ i k e. later a actions n k ((all_kept (suc n) actions).at i k e) })
    where
      with_args : List ℕ → Kept
      with_args args = record { number = n; action = a; args = args }

      plus_none : (m : ℕ) → m ≡ m + zero
      plus_none m = omega arith

  pub kept_is : (n : ℕ) (k : Kept) → slice_get (kept_instances task) n ≡ Some k → IsKeptOf task.actions 0 k
  kept_is n k e = (all_kept 0 task.actions).at n k e

  pub kept_instance : (n : ℕ) (k : Kept) → slice_get (kept_instances task) n ≡ Some k → IsInstanceOf task (record { action = k.number; args = k.args }) k.action
  kept_instance n k e =
      let h = kept_is n k e in
      let place : k.number ≡ h.place = h.number ∙ zero_front h.place in
      record { is_action = ap (slice_get task.actions) place ∙ h.there; arity = sym h.long; typed = h.fits }
    where
      zero_front : (m : ℕ) → 0 + m ≡ m
      zero_front m = omega arith
