-- The loop through the argument lists of an action.
use Rattle.std.proofs.Common.{◌≡◌, ℕ, ◌<◌, ◌≤◌, Bool, true, false, cond, List, [], ◌∷◌, map, length, sym, ap, subst, ◌∙◌, arith}
use Rattle.pddl_task.specs.declared.action.Action.{Action}
use Rattle.pddl_task.specs.declared.parts.TaskParts.{TaskParts}
use Rattle.ground_instances.specs.ArgumentLists.{suits, lists_above, IsFirst, IsNext}
use Rattle.ground_walk.specs.Walk.{Kept}
use Rattle.ground_entry.specs.declared.walk.Walk.{Walk}
use Rattle.ground_entry.specs.declared.failure.GroundFail.{GroundFail}
use Rattle.ground_entry.specs.Walking.{instances_of, IsThrough, Refuses}
use Rattle.ground_entry.proofs.Walking.{IsWalking, walking-start, walking-next, walking-refused, walking-done}

module _ (task : TaskParts) (limit n : ℕ) (a : Action) where
  -- the list at hand and those above it, where there is one
  abbrev pub rest_of : Bool → List ℕ → List (List ℕ)
  rest_of found args = cond found (args ∷ lists_above task a args) []

  abbrev pub with_args : List ℕ → Kept
  with_args args = record { number = n; action = a; args = args }

  -- as far as the loop has come
  pub record IsGoing (start now : Walk) (found : Bool) (args : List ℕ) : Type 0 where
    pub long : length args ≡ length a.params
    pub suiting : found ≡ true → suits task a args ≡ true
    pub walking : IsWalking task limit start (instances_of task n a) now (map with_args (rest_of found args))

  pub going-start : (start : Walk) (found : Bool) (args : List ℕ) → length start.instances ≤ limit → length args ≡ length a.params → IsFirst task a found args → IsGoing start start found args
  going-start start found args few long first = record {
    long = long;
    suiting = first.suiting;
    walking = subst (λ lists. IsWalking task limit start (instances_of task n a) start (map with_args lists)) first.lists (walking-start task limit start (instances_of task n a) few);
  }

  module _ (start now : Walk) (found : Bool) (args : List ℕ) (going : IsGoing start now found args) (is : found ≡ true) where
    at_hand : IsWalking task limit start (instances_of task n a) now (with_args args ∷ map with_args (lists_above task a args))
    at_hand = subst (λ b. IsWalking task limit start (instances_of task n a) now (map with_args (rest_of b args))) is going.walking

    pub going-next : (new : Walk) (more : Bool) (next : List ℕ) → length next ≡ length args → IsThrough task limit now (with_args args ∷ []) new → IsNext task a args more next → IsGoing start new more next
    going-next new more next long through above = record {
      long = long ∙ going.long;
      suiting = above.suiting;
      walking =
          subst (λ lists. IsWalking task limit start (instances_of task n a) new (map with_args lists)) above.lists
          (walking-next task limit start (instances_of task n a) now (with_args args ∷ []) (map with_args (lists_above task a args)) at_hand new through);
    }

    pub going-smaller : (more : Bool) (next : List ℕ) → IsNext task a args more next → length (rest_of more next) < length (rest_of found args)
    going-smaller more next above =
        let fewer : length (lists_above task a args) ≡ length (rest_of more next) = ap (λ (l : List (List ℕ)). length l) above.lists in
        subst (λ b. length (rest_of more next) < length (rest_of b args)) (sym is) (omega arith)

    pub going-refused : (e : GroundFail) → Refuses task limit now (with_args args ∷ []) e → Refuses task limit start (instances_of task n a) e
    going-refused e w = walking-refused task limit start (instances_of task n a) now (with_args args ∷ []) (map with_args (lists_above task a args)) at_hand e w

  pub going-done : (start now : Walk) (found : Bool) (args : List ℕ) → IsGoing start now found args → found ≡ false → IsThrough task limit start (instances_of task n a) now
  going-done start now found args going is =
      walking-done task limit start (instances_of task n a) now
      (subst (λ b. IsWalking task limit start (instances_of task n a) now (map with_args (rest_of b args))) is going.walking)
