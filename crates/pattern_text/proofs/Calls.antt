-- The kept instances of a task have the numbers of its actions and objects.
use Rattle.std.proofs.Common.{◌≡◌, ℕ, zero, suc, ◌+◌, ◌≤◌, ◌<◌, Bool, true, false, cond, List, [], ◌∷◌, map, length, refl, ◌∙◌, arith, nat_lt}
use Rattle.std.specs.Prelude.{filter}
use Rattle.std.specs.List.{list_all, flat_map}
use Rattle.std.proofs.lemmas.Bool.{and_parts, and_from}
use Rattle.std.proofs.lemmas.Bool.Decides.{nat_tests}
use Rattle.std.proofs.lemmas.List.Folds.{list_all-append, list_all-map}
use Rattle.pddl_task.specs.declared.action.Action.{Action}
use Rattle.pddl_task.specs.declared.parts.TaskParts.{TaskParts}
use Rattle.plan_form.specs.Printed.{is_call_of}
use Rattle.ground_action.specs.Setting.{setting_of}
use Rattle.ground_action.specs.GroundAction.{is_kept}
use Rattle.ground_instances.specs.ArgumentLists.{count_from, lists_below, suits, argument_lists}
use Rattle.ground_walk.specs.Walk.{Kept, kept_of_action, kept_from, kept_instances}
use Rattle.ground_laws.specs.Laws.{instance_of}

-- ---- lists that pass a test still do where some elements are left out

passed_over : {X : Type 0} (p : X → Bool) (x : X) (xs : List X) (b : Bool) → p x ≡ true → list_all p xs ≡ true → list_all p (cond b (x ∷ xs) xs) ≡ true
passed_over p x xs true h g = and_from (p x) (list_all p xs) h g
passed_over p x xs false h g = g

filtered : {X : Type 0} (p q : X → Bool) (xs : List X) → list_all p xs ≡ true → list_all p (filter q xs) ≡ true
filtered p q [] h = refl
filtered p q (x ∷ xs) h = let parts = and_parts (p x) (list_all p xs) h in passed_over p x (filter q xs) (q x) parts.0 (filtered p q xs parts.1)

-- ---- argument lists are of objects

abbrev is_below : ℕ → ℕ → Bool
is_below n o = nat_lt o n

abbrev are_below : ℕ → List ℕ → Bool
are_below n args = list_all (is_below n) args

lt_true : (m n : ℕ) → m < n → nat_lt m n ≡ true
lt_true m n h = grind (arith, nat_tests)

counted : (n low m : ℕ) → low + m ≤ n → list_all (is_below n) (count_from low m) ≡ true
counted n low zero h = refl
counted n low (suc m) h = and_from (nat_lt low n) (list_all (is_below n) (count_from (low + 1) m)) (lt_true low n (omega (arith, h))) (counted n (low + 1) m (omega (arith, h)))

each_from : (x n : ℕ) (ls : List (List ℕ)) → nat_lt x n ≡ true → list_all (are_below n) ls ≡ true → list_all (λ args. are_below n (x ∷ args)) ls ≡ true
each_from x n [] g e = refl
each_from x n (l ∷ ls) g e =
    let parts = and_parts (are_below n l) (list_all (are_below n) ls) e in
    and_from (are_below n (x ∷ l)) (list_all (λ args. are_below n (x ∷ args)) ls) (and_from (nat_lt x n) (are_below n l) g parts.0) (each_from x n ls g parts.1)

-- each of the numbers in front of each list
fronted : (n : ℕ) (lists : List (List ℕ)) → list_all (are_below n) lists ≡ true → (xs : List ℕ) → list_all (is_below n) xs ≡ true
    → list_all (are_below n) (flat_map (λ o. map (λ args. o ∷ args) lists) xs) ≡ true
fronted n lists h [] g = refl
fronted n lists h (x ∷ xs) g =
    let parts = and_parts (is_below n x) (list_all (is_below n) xs) g in
    list_all-append (are_below n) (map (λ args. x ∷ args) lists) (flat_map (λ o. map (λ args. o ∷ args) lists) xs)
    ∙ and_from (list_all (are_below n) (map (λ args. x ∷ args) lists)) _ (list_all-map (are_below n) (λ args. x ∷ args) lists ∙ each_from x n lists parts.0 h) (fronted n lists h xs parts.1)

lists_are_below : (n k : ℕ) → list_all (are_below n) (lists_below n k) ≡ true
lists_are_below n zero = refl
lists_are_below n (suc k) = fronted n (lists_below n k) (lists_are_below n k) (count_from 0 n) (counted n 0 n (omega arith))

-- ---- kept instances

module _ (task : TaskParts) where
  args_are_objects : (a : Action) → list_all (are_below (length task.objects)) (kept_of_action task a) ≡ true
  args_are_objects a =
      filtered (are_below (length task.objects)) (is_kept (setting_of task [] []) a) (argument_lists task a)
      (filtered (are_below (length task.objects)) (suits task a) (lists_below (length task.objects) (length a.params)) (lists_are_below (length task.objects) (length a.params)))

  abbrev is_call : Kept → Bool
  is_call k = is_call_of task (instance_of k)

  of_action : (n : ℕ) (a : Action) → n < length task.actions → (lists : List (List ℕ)) → list_all (are_below (length task.objects)) lists ≡ true
      → list_all is_call (map (λ args. record { number = n; action = a; args = args }) lists) ≡ true
  of_action n a h [] g = refl
  of_action n a h (args ∷ lists) g =
      let parts = and_parts (are_below (length task.objects) args) (list_all (are_below (length task.objects)) lists) g in
      and_from _ _ (and_from (nat_lt n (length task.actions)) (are_below (length task.objects) args) (lt_true n (length task.actions) h) parts.0) (of_action n a h lists parts.1)

  of_actions : (n : ℕ) (actions : List Action) → n + length actions ≤ length task.actions → list_all is_call (kept_from task n actions) ≡ true
  of_actions n [] h = refl
  of_actions n (a ∷ actions) h =
      list_all-append is_call (map (λ args. record { number = n; action = a; args = args }) (kept_of_action task a)) (kept_from task (suc n) actions)
      ∙ and_from _ _ (of_action n a (omega (arith, h)) (kept_of_action task a) (args_are_objects a)) (of_actions (suc n) actions (omega (arith, h)))

  pub kept_are_calls : list_all is_call (kept_instances task) ≡ true
  kept_are_calls = of_actions 0 task.actions (omega arith)
