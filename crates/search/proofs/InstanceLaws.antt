-- The instance of a ground action can be written.
use Rattle.std.proofs.Common.{◌≡◌, ℕ, zero, suc, ◌<◌, Bool, true, false, ◌&&◌, List, [], ◌∷◌, length, map, Option, Some, slice_get, slice_index_or, ◌∙◌, sym, ap, subst, refl, arith}
use Rattle.std.specs.List.{AllByRecursion, list_all}
use Rattle.pddl_task.specs.declared.instance.Instance.{Instance}
use Rattle.pddl_task.specs.declared.parts.TaskParts.{TaskParts}
use Rattle.plan_form.specs.Printed.{is_call_of}
use Rattle.ground_walk.specs.Walk.{Kept, kept_instances}
use Rattle.ground_laws.specs.Laws.{instance_of}
use Rattle.ground_plans.specs.Plans.{instance_at, instance_or_none}

both_true : (a b : Bool) → (a && b) ≡ true → (a ≡ true) × (b ≡ true)
both_true true true is = (refl, refl)
both_true true false is = absurd (cc (is))
both_true false b is = absurd (cc (is))

module _ (task : TaskParts) where
  pub call_at : (kept : List Kept) (a : ℕ) (r : Instance) → list_all (λ k. is_call_of task (instance_of k)) kept ≡ true → slice_get (map instance_of kept) a ≡ Some r → is_call_of task r ≡ true
  call_at [] a r all is = absurd (cc (is))
  call_at (k ∷ ks) zero r all is =
      let e : instance_of k ≡ r = cc (is) in
      subst (λ (i : Instance). is_call_of task i ≡ true) e (both_true (is_call_of task (instance_of k)) _ all).0
  call_at (k ∷ ks) (suc a) r all is = call_at ks a r (both_true (is_call_of task (instance_of k)) _ all).1 is

  call_within : (kept : List Kept) (a : ℕ) → list_all (λ k. is_call_of task (instance_of k)) kept ≡ true → a < length kept → is_call_of task (instance_or_none (slice_get kept a)) ≡ true
  call_within [] a all l = absurd (omega (arith, l))
  call_within (k ∷ ks) zero all l = (both_true (is_call_of task (instance_of k)) _ all).0
  call_within (k ∷ ks) (suc a) all l = call_within ks a (both_true (is_call_of task (instance_of k)) _ all).1 (omega (arith, l))

  pub instance_is_call : (a : ℕ) → list_all (λ k. is_call_of task (instance_of k)) (kept_instances task) ≡ true → a < length (kept_instances task) → is_call_of task (instance_at task a) ≡ true
  instance_is_call a all l = call_within (kept_instances task) a all l

pub at_index : (n : ℕ) (xs : List ℕ) (i d : ℕ) → AllByRecursion (λ a. a < n) xs → i < length xs → slice_index_or xs i d < n
at_index n [] i d all l = absurd (omega (arith, l))
at_index n (x ∷ xs) zero d all l = all.0
at_index n (x ∷ xs) (suc i) d all l = at_index n xs i d all.1 (omega (arith, l))
