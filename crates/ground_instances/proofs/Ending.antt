-- The answers of `first` and `next`, by what the search finds.
use Rattle.std.proofs.Common.{◌≡◌, ℕ, ◌<◌, Bool, true, false, List, [], ◌∷◌, ◌++◌, length, filter, Option, Some, None, slice_get, if◌then◌else◌, refl, sym, ap, subst, ◌∙◌, append_assoc, arith}
use Rattle.std.proofs.lemmas.Option.{slice_get_within}
use Rattle.pddl_task.specs.declared.action.Action.{Action}
use Rattle.pddl_task.specs.declared.declared.Object.{Object}
use Rattle.pddl_task.specs.declared.parts.TaskParts.{TaskParts}
use Rattle.pddl_task.specs.Numbers.{counts_of, is_action}
use Rattle.pddl_task.specs.Task.{parents}
use Rattle.plan_step.specs.Meaning.{is_of, fits, all_fit}
use Rattle.ground_instances.specs.ArgumentLists.{argument_lists, lists_above, lists_below, is_above, suits, IsFirst, IsNext}
use Rattle.ground_instances.specs.inside.Open.{is_open}
use Rattle.ground_instances.specs.inside.Search.{lists_from, lists_after, IsCompleted, IsFollowed}
use Rattle.ground_instances.proofs.Opening.{both_parts, need, enough}
use Rattle.ground_instances.proofs.Whole.{head_passes, all_lists, no_lists}
use Rattle.ground_instances.proofs.Above.{IsOpenAll, above_is_after}

is_there : (above types : List ℕ) (found : Option Object) → is_of above types found ≡ true → (o : Object) × (found ≡ Some o)
is_there above types None e = cc
is_there above types (Some o) e = (o, refl)

module _ (task : TaskParts) where
  -- what fits is an object
  pub fitting_below : (types : List ℕ) (o : ℕ) → fits task types o ≡ true → o < length task.objects
  fitting_below types o e =
      let there = is_there (parents task.types) types (slice_get task.objects o) e in
      slice_get_within task.objects o there.0 there.1

  placed_below : (params : List (List ℕ)) (front : List ℕ) (o : ℕ) (back : List ℕ) → length (front ++ o ∷ back) ≡ length params → all_fit task params (front ++ o ∷ back) ≡ true → o < length task.objects
  placed_below [] [] o back long e = absurd (omega (arith, long))
  placed_below [] (f ∷ front) o back long e = absurd (omega (arith, long))
  placed_below (types ∷ params) [] o back long e = fitting_below types o ((both_parts (fits task types o) (all_fit task params back) e).0)
  placed_below (types ∷ params) (f ∷ front) o back long e =
      placed_below params front o back (omega (arith, long)) ((both_parts (fits task types f) (all_fit task params (front ++ o ∷ back)) e).1)

  module _ (a : Action) (numbered : is_action (counts_of task) a ≡ true) where
    abbrev objects : ℕ
    objects = length task.objects

    abbrev allowed : List ℕ → Bool
    allowed = is_open task a

    whole_suits : (args : List ℕ) → length args ≡ length a.params → allowed args ≡ true → suits task a args ≡ true
    whole_suits args long opens = enough task a args numbered long opens

    pub fronts_open : (args : List ℕ) → length args ≡ length a.params → suits task a args ≡ true → IsOpenAll objects allowed [] args
    fronts_open args long e = record {
      fronts = λ front o back same.
          let whole : suits task a (front ++ o ∷ back) ≡ true = subst (λ l. suits task a l ≡ true) same e in
          let fit : all_fit task a.params (front ++ o ∷ back) ≡ true = (both_parts _ _ whole).0 in (
            placed_below a.params front o back (ap (λ l. length l) (sym same) ∙ long) fit,
            need task a (front ++ o ∷ []) back (subst (λ l. suits task a l ≡ true) (sym (append_assoc front (o ∷ []) back)) whole),
          );
    }

    lists_are : allowed [] ≡ true → argument_lists task a ≡ lists_from objects allowed (length a.params) [] 0
    lists_are opens = sym (all_lists objects (length a.params) allowed (suits task a) (need task a) whole_suits opens)

    above_are : (args : List ℕ) → length args ≡ length a.params → suits task a args ≡ true → lists_above task a args ≡ lists_after objects allowed [] args
    above_are args long e =
        ap (filter (is_above args)) (lists_are (need task a [] args e) ∙ ap (λ k. lists_from objects allowed k [] 0) (sym long))
        ∙ above_is_after objects allowed [] args (fronts_open args long e)

    suits_found : (new : List ℕ) (rest : List (List ℕ)) → argument_lists task a ≡ new ∷ rest → suits task a new ≡ true
    suits_found new rest e = head_passes (suits task a) (lists_below objects (length a.params)) new rest e

    -- no list begins with nothing
    pub first_none : (args : List ℕ) → allowed [] ≡ false → IsFirst task a false args
    first_none args shut = record { lists = no_lists objects (length a.params) allowed (suits task a) (need task a) whole_suits shut; suiting = λ e. absurd (cc) }

    pub first_found : (old new : List ℕ) (found : Bool) → length old ≡ length a.params → length new ≡ length a.params → allowed [] ≡ true → IsCompleted objects allowed old 0 0 found new → IsFirst task a found new
    first_found old new false long longer opens completed = record {
      lists = lists_are opens ∙ ap (λ k. lists_from objects allowed k [] 0) (omega (arith, long)) ∙ completed.lists;
      suiting = λ e. absurd (cc);
    }
    first_found old new true long longer opens completed =
        let found : argument_lists task a ≡ new ∷ lists_after objects allowed [] new = lists_are opens ∙ ap (λ k. lists_from objects allowed k [] 0) (omega (arith, long)) ∙ completed.lists in
        let fitting : suits task a new ≡ true = suits_found new (lists_after objects allowed [] new) found in
        record { lists = found ∙ ap (λ l. new ∷ l) (sym (above_are new longer fitting)); suiting = λ e. fitting }

    passes_twice : (p q : List ℕ → Bool) (lists : List (List ℕ)) (y : List ℕ) (ys : List (List ℕ)) → filter p (filter q lists) ≡ y ∷ ys → q y ≡ true
    passes_twice p q [] y ys e = cc
    passes_twice p q (l ∷ lists) y ys e = by (q l) refl (λ f. passes_twice p q lists y ys f)
      where
        by_both : (b : Bool) → p l ≡ b → q l ≡ true → filter p (l ∷ filter q lists) ≡ y ∷ ys → (filter p (filter q lists) ≡ y ∷ ys → q y ≡ true) → q y ≡ true
        by_both true h k f later =
            let same : l ≡ y = (let g : l ∷ filter p (filter q lists) ≡ y ∷ ys = ap (λ t. if t then l ∷ filter p (filter q lists) else filter p (filter q lists)) (sym h) ∙ f in cc) in
            ap q (sym same) ∙ k
        by_both false h k f later = later (ap (λ t. if t then l ∷ filter p (filter q lists) else filter p (filter q lists)) (sym h) ∙ f)

        by : (b : Bool) → q l ≡ b → (filter p (filter q lists) ≡ y ∷ ys → q y ≡ true) → q y ≡ true
        by true k later = by_both (p l) refl k (ap (λ t. filter p (if t then l ∷ filter q lists else filter q lists)) (sym k) ∙ e) later
        by false k later = later (ap (λ t. filter p (if t then l ∷ filter q lists else filter q lists)) (sym k) ∙ e)

    pub next_found : (old new : List ℕ) (found : Bool) → length old ≡ length a.params → length new ≡ length a.params → suits task a old ≡ true → IsFollowed objects allowed old 0 found new → IsNext task a old found new
    next_found old new false long longer e followed = record { lists = above_are old long e ∙ followed.lists; suiting = λ h. absurd (cc) }
    next_found old new true long longer e followed =
        let found : lists_above task a old ≡ new ∷ lists_after objects allowed [] new = above_are old long e ∙ followed.lists in
        let fitting : suits task a new ≡ true = passes_twice (is_above old) (suits task a) (lists_below objects (length a.params)) new (lists_after objects allowed [] new) found in
        record { lists = found ∙ ap (λ l. new ∷ l) (sym (above_are new longer fitting)); suiting = λ h. fitting }
