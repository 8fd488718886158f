-- The loop through the actions.
use Rattle.std.proofs.Common.{◌≡◌, ℕ, suc, ◌+◌, ◌<◌, ◌≤◌, List, ◌++◌, drop, length, get_or, ap, subst, ◌∙◌, arith}
use Rattle.std.proofs.lemmas.List.{drop_all}
use Rattle.pddl_task.specs.declared.action.Action.{Action}
use Rattle.pddl_task.specs.declared.parts.TaskParts.{TaskParts}
use Rattle.ground_walk.specs.Walk.{Kept}
use Rattle.ground_entry.specs.declared.walk.Walk.{Walk}
use Rattle.ground_entry.specs.declared.failure.GroundFail.{GroundFail}
use Rattle.ground_entry.specs.Walking.{instances_of, instances_from, IsThrough, Refuses}
use Rattle.ground_entry.proofs.Walking.{IsWalking, walking-start, walking-next, walking-refused, walking-done}
use Rattle.ground.specs.Course.{all_instances}
use Rattle.ground.proofs.Lists.{drop_at}

module _ (task : TaskParts) (limit : ℕ) (start : Walk) where
  abbrev all : List Kept
  all = all_instances task

  -- as far as the loop has come
  pub record IsAt (now : Walk) (n : ℕ) : Type 0 where
    pub walking : IsWalking task limit start all now (instances_from task n (drop n task.actions))

  pub at-start : length start.instances ≤ limit → IsAt start 0
  at-start few = record { walking = walking-start task limit start all few }

  module _ (now : Walk) (n : ℕ) (a : Action) (items : List Action) (same : items ≡ task.actions) (among : n < length items) (item : a ≡ get_or items n a) (h : IsAt now n) where
    within : n < length task.actions
    within = subst (λ (acts : List Action). n < length acts) same among

    is : a ≡ get_or task.actions n a
    is = subst (λ (acts : List Action). a ≡ get_or acts n a) same item

    abbrev rest : List Kept
    rest = instances_from task (n + 1) (drop (n + 1) task.actions)

    in_two : instances_from task n (drop n task.actions) ≡ instances_of task n a ++ rest
    in_two =
        let more : suc n ≡ n + 1 = omega arith in
        ap (instances_from task n) (drop_at task.actions n a within is) ∙ ap (λ m. instances_of task n a ++ instances_from task m (drop (n + 1) task.actions)) more

    here : IsWalking task limit start all now (instances_of task n a ++ rest)
    here = subst (IsWalking task limit start all now) in_two h.walking

    pub at-next : (new : Walk) → IsThrough task limit now (instances_of task n a) new → IsAt new (n + 1)
    at-next new through = record { walking = walking-next task limit start all now (instances_of task n a) rest here new through }

    pub at-refused : (e : GroundFail) → Refuses task limit now (instances_of task n a) e → Refuses task limit start all e
    at-refused e w = walking-refused task limit start all now (instances_of task n a) rest here e w

  pub at-done : (now : Walk) (n : ℕ) → length task.actions ≤ n → IsAt now n → IsThrough task limit start all now
  at-done now n past h = walking-done task limit start all now (subst (λ actions. IsWalking task limit start all now (instances_from task n actions)) (drop_all n task.actions past) h.walking)
