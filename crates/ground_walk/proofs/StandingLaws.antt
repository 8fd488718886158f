-- A kept instance stands among the kept instances.
use Rattle.std.proofs.Common.{◌≡◌, ℕ, zero, suc, ◌+◌, ◌<◌, Bool, true, false, ◌&&◌, List, [], ◌∷◌, ◌++◌, map, filter, length, Some, slice_get, refl, sym, ap, subst, ◌∙◌, arith}
use Rattle.pddl_task.specs.declared.action.Action.{Action}
use Rattle.pddl_task.specs.declared.instance.Instance.{Instance}
use Rattle.pddl_task.specs.declared.parts.TaskParts.{TaskParts}
use Rattle.plan_step.specs.Meaning.{all_fit, fits, IsInstanceOf}
use Rattle.ground_action.specs.Setting.{setting_of}
use Rattle.ground_action.specs.GroundAction.{is_kept}
use Rattle.ground_instances.specs.ArgumentLists.{lists_below}
use Rattle.ground_instances.proofs.Ending.{fitting_below}
use Rattle.ground_walk.specs.Walk.{Kept, kept_of_action, kept_from, kept_instances}
use Rattle.ground_walk.proofs.KeptLaws.{kept_are_all}
use Rattle.ground_walk.proofs.Standing.{Stands, AreBelow, stands_front, stands_back, stands_map, stands_filter, below_stands}

both_parts : (s t : Bool) → (s && t) ≡ true → (s ≡ true) × (t ≡ true)
both_parts true t e = (refl, e)
both_parts false t e = cc

module _ (task : TaskParts) where
  fitting_at : (params : List (List ℕ)) (args : List ℕ) → length params ≡ length args → all_fit task params args ≡ true → (k o : ℕ) → slice_get args k ≡ Some o → o < length task.objects
  fitting_at params [] long e k o there = cc
  fitting_at [] (p ∷ args) long e k o there = absurd (omega (arith, long))
  fitting_at (types ∷ params) (p ∷ args) long e zero o there =
      let is : p ≡ o = cc in
      subst (λ m. m < length task.objects) is (fitting_below task types p ((both_parts (fits task types p) (all_fit task params args) e).0))
  fitting_at (types ∷ params) (p ∷ args) long e (suc k) o there =
      fitting_at params args (omega (arith, long)) ((both_parts (fits task types p) (all_fit task params args) e).1) k o there

  args_stand : (a : Action) (args : List ℕ) → length a.params ≡ length args → all_fit task a.params args ≡ true → is_kept (setting_of task [] []) a args ≡ true → Stands (kept_of_action task a) args
  args_stand a args long fit kept =
      subst (λ lists. Stands lists args) (sym (kept_are_all task a))
      (stands_filter (is_kept (setting_of task [] []) a) _ args kept
      (stands_filter (all_fit task a.params) (lists_below (length task.objects) (length a.params)) args fit
      (subst (λ m. Stands (lists_below (length task.objects) m) args) (sym long) (below_stands (length task.objects) args (record { each = fitting_at a.params args long fit })))))

  abbrev as_kept : ℕ → Action → List ℕ → Kept
  as_kept n a args = record { number = n; action = a; args = args }

  action_stands : (n k : ℕ) (actions : List Action) (a : Action) (args : List ℕ) → slice_get actions k ≡ Some a → Stands (kept_of_action task a) args → Stands (kept_from task n actions) (as_kept (n + k) a args)
  action_stands n k [] a args e s = cc
  action_stands n zero (b ∷ actions) a args e s =
      let is : b ≡ a = cc in
      let same : n ≡ n + zero = omega arith in
      stands_front (map (λ l. as_kept n b l) (kept_of_action task b)) (kept_from task (suc n) actions) (as_kept (n + zero) a args)
      (subst (λ m. Stands (map (λ l. as_kept n b l) (kept_of_action task b)) (as_kept m a args)) same
      (subst (λ c. Stands (map (λ l. as_kept n c l) (kept_of_action task c)) (as_kept n a args)) (sym is) (stands_map (λ l. as_kept n a l) (kept_of_action task a) args s)))
  action_stands n (suc k) (b ∷ actions) a args e s =
      let same : suc n + k ≡ n + suc k = omega arith in
      stands_back (map (λ l. as_kept n b l) (kept_of_action task b)) (kept_from task (suc n) actions) (as_kept (n + suc k) a args)
      (subst (λ m. Stands (kept_from task (suc n) actions) (as_kept m a args)) same (action_stands (suc n) k actions a args e s))

  pub kept_stands : (by : Instance) (a : Action) → IsInstanceOf task by a → is_kept (setting_of task [] []) a by.args ≡ true
      → (n : ℕ) × (slice_get (kept_instances task) n ≡ Some (record { number = by.action; action = a; args = by.args }))
  kept_stands by a of kept =
      let s = action_stands 0 by.action task.actions a by.args of.is_action (args_stand a by.args of.arity of.typed kept) in
      let same : 0 + by.action ≡ by.action = omega arith in
      (s.place, s.there ∙ ap (λ m. Some (as_kept m a by.args)) same)
