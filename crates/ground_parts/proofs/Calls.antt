-- What a task and its numbers say of a function or a predicate that isn't there.
use Rattle.std.proofs.Common.{◌≡◌, ℕ, zero, suc, ◌≤◌, Bool, true, false, cond, ◌||◌, ◌==◌, List, [], ◌∷◌, length, Option, Some, None, refl, sym, ap, ap₂, ◌∙◌, arith, nat_lt}
use Rattle.std.specs.List.{list_all, list_any}
use Rattle.std.proofs.lemmas.Bool.{and_parts}
use Rattle.std.proofs.lemmas.Bool.Decides.{nat_tests}
use Rattle.pddl_task.specs.declared.action.Action.{Action}
use Rattle.pddl_task.specs.declared.effect.Effect.{Effect}
use Rattle.pddl_task.specs.declared.effect.Effect.TheVariants as effect
use Rattle.pddl_task.specs.declared.parts.TaskParts.{TaskParts}
use Rattle.pddl_task.specs.Task.{changes_pred, changes_func, is_changing_pred, is_changing_func}
use Rattle.pddl_task.specs.Numbers.{Counts, counts_of, is_effect, is_action, IsNumbered}
use Rattle.ground_numbers.specs.declared.named.Named.{Named}
use Rattle.ground_numbers.specs.Numbers.{same, is_listed, number_in, found_in}

other_number : (g f n : ℕ) → nat_lt g n ≡ true → n ≤ f → (g == f) ≡ false
other_number g f n h l = grind (arith, nat_tests)

none_changes : (counts : Counts) (k f : ℕ) → counts.funcs ≤ f → (es : List Effect) → list_all (is_effect counts k) es ≡ true → list_any (changes_func f) es ≡ false
none_changes counts k f l [] h = refl
none_changes counts k f l (effect.Put sign pred args ∷ es) h = none_changes counts k f l es (and_parts _ _ h).1
none_changes counts k f l (effect.Change op func args by ∷ es) h = let hs = and_parts _ _ h in
    ap₂ ◌||◌ (other_number func f counts.funcs (and_parts _ _ (and_parts _ _ hs.0).0).0 l) (none_changes counts k f l es hs.1)

none_change : (counts : Counts) (f : ℕ) → counts.funcs ≤ f → (bs : List Action) → list_all (is_action counts) bs ≡ true → is_changing_func bs f ≡ false
none_change counts f l [] h = refl
none_change counts f l (a ∷ bs) h = let hs = and_parts _ _ h in
    ap₂ ◌||◌ (none_changes counts (length a.params) f l a.effs (and_parts _ _ (and_parts _ _ hs.0).1).1) (none_change counts f l bs hs.1)

-- no effect names a function that isn't there
pub unchanged : (task : TaskParts) (f : ℕ) → IsNumbered task → length task.funcs ≤ f → false ≡ is_changing_func task.actions f
unchanged task f h l = sym (none_change (counts_of task) f l task.actions h.actions)

no_puts : (counts : Counts) (k p : ℕ) → counts.preds ≤ p → (es : List Effect) → list_all (is_effect counts k) es ≡ true → list_any (changes_pred p) es ≡ false
no_puts counts k p l [] h = refl
no_puts counts k p l (effect.Put sign pred args ∷ es) h = let hs = and_parts _ _ h in
    ap₂ ◌||◌ (other_number pred p counts.preds (and_parts _ _ hs.0).0 l) (no_puts counts k p l es hs.1)
no_puts counts k p l (effect.Change op func args by ∷ es) h = no_puts counts k p l es (and_parts _ _ h).1

no_put : (counts : Counts) (p : ℕ) → counts.preds ≤ p → (bs : List Action) → list_all (is_action counts) bs ≡ true → is_changing_pred bs p ≡ false
no_put counts p l [] h = refl
no_put counts p l (a ∷ bs) h = let hs = and_parts _ _ h in
    ap₂ ◌||◌ (no_puts counts (length a.params) p l a.effs (and_parts _ _ (and_parts _ _ hs.0).1).1) (no_put counts p l bs hs.1)

-- nor a predicate
pub unchanged_pred : (task : TaskParts) (p : ℕ) → IsNumbered task → length task.preds ≤ p → false ≡ is_changing_pred task.actions p
unchanged_pred task p h l = sym (no_put (counts_of task) p l task.actions h.actions)

-- what isn't listed has the number after the last
unlisted : (ks : List Named) (k : Named) → is_listed same ks k ≡ false → length ks ≡ number_in same ks k
unlisted [] k h = refl
unlisted (x ∷ ks) k h = by_test (same x k) h (unlisted ks k)
  where
    by_test : (b : Bool) → (b || is_listed same ks k) ≡ false → (is_listed same ks k ≡ false → length ks ≡ number_in same ks k) → suc (length ks) ≡ cond b zero (suc (number_in same ks k))
    by_test true e ih = absurd (cc)
    by_test false e ih = ap suc (ih e)

pub next_number : (ks : List Named) (k : Named) (o : Option ℕ) (n : ℕ) → o ≡ found_in same ks k → o ≡ None → n ≡ length ks → n ≡ number_in same ks k
next_number ks k o n e is last = last ∙ unlisted ks k (by_test (is_listed same ks k) (sym e ∙ is))
  where
    by_test : (b : Bool) → cond b (Some (number_in same ks k)) None ≡ None → b ≡ false
    by_test true h = absurd (cc)
    by_test false h = refl
