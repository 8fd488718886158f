-- A kept instance passes the tests that come before its expressions.
use Rattle.std.proofs.Common.{◌≡◌, ℕ, Bool, true, false, ◌&&◌, List, [], ◌∷◌, map, refl}
use Rattle.std.specs.List.{list_all}
use Rattle.std.proofs.lemmas.Bool.{and_parts, and_from}
use Rattle.pddl_task.specs.declared.action.Action.{Action}
use Rattle.pddl_task.specs.declared.condition.Cond.{Cond}
use Rattle.pddl_task.specs.declared.condition.Cond.TheVariants as cond_
use Rattle.pddl_task.specs.declared.condition.Rel.{Rel}
use Rattle.pddl_task.specs.declared.effect.Effect.{Effect}
use Rattle.pddl_task.specs.declared.effect.Effect.TheVariants as effect
use Rattle.pddl_task.specs.declared.effect.NumOp.{NumOp}
use Rattle.plan_step.specs.Meaning.{objects_of}
use Rattle.ground_numbers.specs.declared.named.Named.{Named}
use Rattle.ground_numbers.specs.Numbers.{named}
use Rattle.ground_action.specs.Setting.{Setting}
use Rattle.ground_action.specs.Parts.{Outcome, ends, bent, part, part_of}
use Rattle.ground_action.specs.Leaves.{compared_outcomes, leaf_of, moved_by, move_of, written, are_clean}
use Rattle.ground_action.specs.GroundAction.{leaves_of, may_hold, may_move, is_kept}
use Rattle.ground_action.specs.Work.{is_part, cond_has_values, effect_has_values, literal_may_hold, is_begun}
use Rattle.ground_draft.proofs.Goals.{part_has}

sides_made : (r : Rel) (a b : Outcome) → may_hold (compared_outcomes r a b) ≡ true → (is_part a ≡ true) × (is_part b ≡ true)
sides_made r ends b h = absurd (cc)
sides_made r bent b h = absurd (cc)
sides_made r (part p) ends h = absurd (cc)
sides_made r (part p) bent h = absurd (cc)
sides_made r (part p) (part q) h = (refl, refl)

amount_made : (op : NumOp) (k : Named) (o : Outcome) → may_move (moved_by op k o) ≡ true → is_part o ≡ true
amount_made op k ends h = absurd (cc)
amount_made op k bent h = absurd (cc)
amount_made op k (part p) h = refl

all_mapped : {A B : Type 0} (f : A → B) (test : B → Bool) (other : A → Bool) → ((x : A) → test (f x) ≡ true → other x ≡ true) → (xs : List A) → list_all test (map f xs) ≡ true → list_all other xs ≡ true
all_mapped f test other each [] h = refl
all_mapped f test other each (x ∷ xs) h =
    let hs = and_parts (test (f x)) (list_all test (map f xs)) h in and_from _ _ (each x hs.0) (all_mapped f test other each xs hs.1)

module _ (set : Setting) (args : List ℕ) where
  literal_holds : (c : Cond) → may_hold (leaf_of set args c) ≡ true → literal_may_hold set args c ≡ true
  literal_holds (cond_.Lit sign pred terms) h = h
  literal_holds (cond_.Same sign left right) h = h
  literal_holds (cond_.Compare r left right) h = refl

  condition_has : (c : Cond) → may_hold (leaf_of set args c) ≡ true → cond_has_values set args c ≡ true
  condition_has (cond_.Lit sign pred terms) h = refl
  condition_has (cond_.Same sign left right) h = refl
  condition_has (cond_.Compare r left right) h =
      let sides = sides_made r (part_of set args left) (part_of set args right) h in and_from _ _ (part_has set args left sides.0) (part_has set args right sides.1)

  effect_has : (e : Effect) → may_move (move_of set args e) ≡ true → effect_has_values set args e ≡ true
  effect_has (effect.Put sign pred terms) h = refl
  effect_has (effect.Change op func terms by) h = part_has set args by (amount_made op (named func (objects_of args terms)) (part_of set args by) h)

  kept_begun : (a : Action) → is_kept set a args ≡ true → is_begun set a args ≡ true
  kept_begun a h =
      let clean = and_parts (are_clean (map (written args) a.effs)) (list_all may_hold (leaves_of set a args) && list_all may_move (map (move_of set args) a.effs)) h in
      let made = and_parts (list_all may_hold (leaves_of set a args)) (list_all may_move (map (move_of set args) a.effs)) clean.1 in
      and_from _ _ clean.0
      (and_from _ _ (all_mapped (leaf_of set args) may_hold (literal_may_hold set args) literal_holds a.conds made.0)
      (and_from _ _ (all_mapped (leaf_of set args) may_hold (cond_has_values set args) condition_has a.conds made.0)
      (all_mapped (move_of set args) may_move (effect_has_values set args) effect_has a.effs made.1)))

  pub not_begun : (a : Action) → is_begun set a args ≡ false → is_kept set a args ≡ false
  not_begun a e = by (is_kept set a args) refl
    where
      by : (b : Bool) → is_kept set a args ≡ b → b ≡ false
      by true h = let t : is_begun set a args ≡ true = kept_begun a h in absurd (cc)
      by false h = refl
