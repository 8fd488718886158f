-- A kept instance meets the static literals and the equalities of objects, so passing over lists that don't drops none.
use Rattle.std.proofs.Common.{◌≡◌, ℕ, Bool, true, false, cond, ◌&&◌, ◌||◌, List, [], ◌∷◌, map, filter, length, refl, sym, ap, ◌∙◌}
use Rattle.std.specs.List.{list_all}
use Rattle.pddl_task.specs.declared.action.Action.{Action}
use Rattle.pddl_task.specs.declared.condition.Cond.{Cond}
use Rattle.pddl_task.specs.declared.condition.Cond.TheVariants as cond_
use Rattle.pddl_task.specs.declared.parts.TaskParts.{TaskParts}
use Rattle.pddl_task.specs.Task.{is_changing_pred}
use Rattle.plan_step.specs.State.{initial}
use Rattle.plan_step.specs.Meaning.{object_of, objects_of, signed, all_fit}
use Rattle.ground_numbers.specs.Numbers.{named}
use Rattle.ground_action.specs.Setting.{Setting, atom, setting_of}
use Rattle.ground_action.specs.Leaves.{Leaf, literal, settled, leaf_of, written, are_clean, move_of}
use Rattle.ground_action.specs.GroundAction.{may_hold, may_move, is_kept, leaves_of}
use Rattle.ground_instances.specs.ArgumentLists.{static_met, suits, argument_lists, lists_below}
use Rattle.ground_walk.specs.Walk.{kept_of_action}

both_parts : (s t : Bool) → (s && t) ≡ true → (s ≡ true) × (t ≡ true)
both_parts true t e = (refl, e)
both_parts false t e = cc

both : (s t : Bool) → s ≡ true → t ≡ true → (s && t) ≡ true
both s t e f = ap (λ b. b && t) e ∙ f

module _ (task : TaskParts) where
  abbrev set : Setting
  set = setting_of task [] []

  settled_true : (b : Bool) → may_hold (settled b) ≡ true → b ≡ true
  settled_true true e = refl
  settled_true false e = cc

  literal_true : (changing b : Bool) (l : Leaf) → may_hold (cond changing l (settled b)) ≡ true → (changing || b) ≡ true
  literal_true true b l e = refl
  literal_true false b l e = settled_true b e

  leaf_static : (args : List ℕ) (c : Cond) → may_hold (leaf_of set args c) ≡ true → static_met task args c ≡ true
  leaf_static args (cond_.Lit sign pred terms) e =
      literal_true (is_changing_pred task.actions pred) (signed sign ((initial task).truth pred (objects_of args terms))) (literal (atom (named pred (objects_of args terms))) sign) e
  leaf_static args (cond_.Same sign left right) e = settled_true _ e
  leaf_static args (cond_.Compare rel left right) e = refl

  leaves_static : (args : List ℕ) (cs : List Cond) → list_all may_hold (map (leaf_of set args) cs) ≡ true → list_all (static_met task args) cs ≡ true
  leaves_static args [] e = refl
  leaves_static args (c ∷ cs) e =
      let parts = both_parts (may_hold (leaf_of set args c)) (list_all may_hold (map (leaf_of set args) cs)) e in
      both (static_met task args c) (list_all (static_met task args) cs) (leaf_static args c parts.0) (leaves_static args cs parts.1)

  kept_static : (a : Action) (args : List ℕ) → is_kept set a args ≡ true → list_all (static_met task args) a.conds ≡ true
  kept_static a args e =
      let parts = both_parts (are_clean (map (written args) a.effs)) (list_all may_hold (leaves_of set a args) && list_all may_move (map (move_of set args) a.effs)) e in
      leaves_static args a.conds (both_parts (list_all may_hold (leaves_of set a args)) (list_all may_move (map (move_of set args) a.effs)) parts.1).0

filter_twice : {A : Type 0} (p q r : A → Bool) → ((x : A) → p x ≡ true → q x ≡ r x) → (xs : List A) → filter p (filter q xs) ≡ filter p (filter r xs)
filter_twice p q r alike [] = refl
filter_twice p q r alike (x ∷ xs) = one (p x) refl (q x) (r x) (λ h. alike x h) (filter_twice p q r alike xs)
  where
    differ : true ≡ false → ⊥
    differ h = cc

    one : (b : Bool) → p x ≡ b → (c d : Bool) → (p x ≡ true → c ≡ d) → filter p (filter q xs) ≡ filter p (filter r xs)
        → filter p (cond c (x ∷ filter q xs) (filter q xs)) ≡ filter p (cond d (x ∷ filter r xs) (filter r xs))
    one b e true true same rest = ap (λ l. cond (p x) (x ∷ l) l) rest
    one b e false false same rest = rest
    one true e true false same rest = absurd (differ (same e))
    one true e false true same rest = absurd (differ (sym (same e)))
    one false e true false same rest = ap (λ t. cond t (x ∷ filter p (filter q xs)) (filter p (filter q xs))) e ∙ rest
    one false e false true same rest = rest ∙ sym (ap (λ t. cond t (x ∷ filter p (filter r xs)) (filter p (filter r xs))) e)

and_true : (a b : Bool) → b ≡ true → (a && b) ≡ a
and_true true b e = e
and_true false b e = refl

pub kept_are_all : (task : TaskParts) (a : Action) → kept_of_action task a
    ≡ filter (is_kept (setting_of task [] []) a) (filter (all_fit task a.params) (lists_below (length task.objects) (length a.params)))
kept_are_all task a =
    filter_twice (is_kept (setting_of task [] []) a) (suits task a) (all_fit task a.params)
    (λ args e. and_true (all_fit task a.params args) (list_all (static_met task args) a.conds) (kept_static task a args e)) (lists_below (length task.objects) (length a.params))
