-- The walk through all instances is the course of grounding.
use Rattle.std.proofs.Common.{◌≡◌, ℕ, suc, Bool, true, false, cond, List, [], ◌∷◌, ◌++◌, map, filter, length, refl, sym, ap, ap₂, subst, ◌∙◌, append_assoc}
use Rattle.std.specs.Prelude.{nat_lt}
use Rattle.std.specs.List.{flat_map}
use Rattle.std.proofs.lemmas.List.{append-nil, map-append, length-map}
use Rattle.std.proofs.lemmas.List.Elements.{filter-append}
use Rattle.std.proofs.lemmas.Grind.{flat_map-append}
use Rattle.pddl_task.specs.declared.action.Action.{Action}
use Rattle.pddl_task.specs.declared.parts.TaskParts.{TaskParts}
use Rattle.ground_numbers.specs.declared.named.Named.{Named}
use Rattle.ground_numbers.specs.Numbers.{same, once}
use Rattle.ground_numbers.proofs.FirstSight.{once_more}
use Rattle.ground_action.specs.Setting.{setting_of}
use Rattle.ground_action.specs.GroundAction.{is_kept}
use Rattle.ground_action.specs.Work.{instance_ops}
use Rattle.ground_instances.specs.ArgumentLists.{argument_lists}
use Rattle.ground_walk.specs.Sightings.{instance_atoms, instance_funcs}
use Rattle.ground_walk.specs.Walk.{Kept, kept_from, kept_instances, fact_atoms, given_funcs}
use Rattle.ground_seen.specs.Seen.{seen}
use Rattle.ground_laws.specs.Laws.{instance_of}
use Rattle.ground_draft.specs.Drafts.{draft_of}
use Rattle.ground_draft.specs.declared.draft.Draft.{Draft}
use Rattle.ground_entry.specs.declared.walk.Walk.{Walk}
use Rattle.ground_entry.specs.Walking.{instances_of, instances_from, is_kept_in, tables_with, setting_at, ops_at, kept_with, walk_with, walk_start, walk_on, ops_on}
use Rattle.ground.specs.Course.{all_instances, atoms_with, funcs_with, ops_behind, kept_behind, ops_from}
use Rattle.ground.proofs.Behind.{draft_behind, drafts_from, IsBehind}

-- ---- lists of sightings
module _ (given : List Named) (names : Kept → List Named) where
  abbrev numbered_with : List Kept → List Named
  numbered_with kept = once same (given ++ flat_map names kept)

  one_more : (before : List Kept) (k : Kept) → numbered_with (before ++ k ∷ []) ≡ seen (numbered_with before) (names k)
  one_more before k =
      ap (λ l. once same (given ++ l)) (flat_map-append names before (k ∷ []) ∙ ap (λ l. flat_map names before ++ l) (append-nil (names k)))
      ∙ ap (once same) (sym (append_assoc given (flat_map names before) (names k)))
      ∙ once_more (given ++ flat_map names before) (names k)

  at_start : numbered_with [] ≡ seen [] given
  at_start = ap (once same) (append-nil given) ∙ once_more [] given

-- ---- the kept among all
module _ (task : TaskParts) where
  abbrev with_args : ℕ → Action → List ℕ → Kept
  with_args n a args = record { number = n; action = a; args = args }

  filter_map : (n : ℕ) (a : Action) (lists : List (List ℕ)) → filter (is_kept_in task) (map (with_args n a) lists) ≡ map (with_args n a) (filter (is_kept (setting_of task [] []) a) lists)
  filter_map n a [] = refl
  filter_map n a (args ∷ lists) = by (is_kept (setting_of task [] []) a args) (filter_map n a lists)
    where
      by : (b : Bool) → filter (is_kept_in task) (map (with_args n a) lists) ≡ map (with_args n a) (filter (is_kept (setting_of task [] []) a) lists)
          → cond b (with_args n a args ∷ filter (is_kept_in task) (map (with_args n a) lists)) (filter (is_kept_in task) (map (with_args n a) lists))
          ≡ map (with_args n a) (cond b (args ∷ filter (is_kept (setting_of task [] []) a) lists) (filter (is_kept (setting_of task [] []) a) lists))
      by true ih = ap (λ l. with_args n a args ∷ l) ih
      by false ih = ih

  kept_among : (n : ℕ) (actions : List Action) → filter (is_kept_in task) (instances_from task n actions) ≡ kept_from task n actions
  kept_among n [] = refl
  kept_among n (a ∷ actions) =
      filter-append (is_kept_in task) (instances_of task n a) (instances_from task (suc n) actions) ∙ ap₂ ◌++◌ (filter_map n a (argument_lists task a)) (kept_among (suc n) actions)

  -- ---- one instance
  behind_start : IsBehind task [] (walk_start task)
  behind_start = record {
    atoms = sym (at_start (flat_map (fact_atoms task) task.facts) (λ (k : Kept). instance_atoms task k.action k.args));
    funcs = sym (at_start (flat_map (given_funcs task) task.values) (λ (k : Kept). instance_funcs task k.action k.args));
    instances = refl;
    drafts = refl;
  }

  drafts_last : (first before : List Kept) (k : Kept) → drafts_from task first (before ++ k ∷ []) ≡ drafts_from task first before ++ draft_behind task (first ++ before) k ∷ []
  drafts_last first [] k = ap (λ l. draft_behind task l k ∷ []) (sym (append-nil first))
  drafts_last first (j ∷ before) k =
      ap (λ l. draft_behind task first j ∷ l)
      (drafts_last (first ++ j ∷ []) before k ∙ ap (λ l. drafts_from task (first ++ j ∷ []) before ++ draft_behind task l k ∷ []) (append_assoc first (j ∷ []) before))

  module _ (before : List Kept) (w : Walk) (h : IsBehind task before w) (k : Kept) where
    atoms_are : (tables_with task w.tables k).atoms ≡ atoms_with task (before ++ k ∷ [])
    atoms_are =
        ap (λ l. seen l (instance_atoms task k.action k.args)) h.atoms ∙ sym (one_more (flat_map (fact_atoms task) task.facts) (λ (j : Kept). instance_atoms task j.action j.args) before k)

    funcs_are : (tables_with task w.tables k).funcs ≡ funcs_with task (before ++ k ∷ [])
    funcs_are =
        ap (λ l. seen l (instance_funcs task k.action k.args)) h.funcs ∙ sym (one_more (flat_map (given_funcs task) task.values) (λ (j : Kept). instance_funcs task j.action j.args) before k)

    ops_are : ops_at task w k ≡ ops_behind task before k
    ops_are = ap₂ (λ atoms funcs. instance_ops (setting_of task atoms funcs) k.action k.args) atoms_are funcs_are

    draft_is : draft_of (setting_at task (tables_with task w.tables k)) (tables_with task w.tables k).atoms k.action k.args ≡ draft_behind task before k
    draft_is = ap₂ (λ atoms funcs. draft_of (setting_of task atoms funcs) atoms k.action k.args) atoms_are funcs_are

    behind_kept : IsBehind task (before ++ k ∷ []) (kept_with task w k)
    behind_kept = record {
      atoms = atoms_are;
      funcs = funcs_are;
      instances = ap (λ l. l ++ instance_of k ∷ []) h.instances ∙ sym (map-append instance_of before (k ∷ []));
      drafts = ap₂ (λ l d. l ++ d ∷ []) h.drafts draft_is ∙ sym (drafts_last [] before k);
    }

    behind_next : IsBehind task (kept_behind task before k) (walk_with task w k)
    behind_next = by (is_kept_in task k)
      where
        by : (b : Bool) → IsBehind task (cond b (before ++ k ∷ []) before) (cond b (kept_with task w k) w)
        by true = behind_kept
        by false = h

  count_is : (kept : List Kept) (w : Walk) → IsBehind task kept w → length w.instances ≡ length kept
  count_is kept w h = ap (λ l. length l) h.instances ∙ length-map kept instance_of

  drafts_count : (before kept : List Kept) → length (drafts_from task before kept) ≡ length kept
  drafts_count before [] = refl
  drafts_count before (k ∷ more) = ap suc (drafts_count (before ++ k ∷ []) more)

  pub drafts_match : (kept : List Kept) (w : Walk) → IsBehind task kept w → length w.instances ≡ length w.drafts
  drafts_match kept w h = count_is kept w h ∙ sym (ap (λ (l : List Draft). length l) h.drafts ∙ drafts_count [] kept)

  -- ---- instances in order
  abbrev kept_after : List Kept → List Kept → List Kept
  kept_after before [] = before
  kept_after before (k ∷ more) = kept_after (kept_behind task before k) more

  after_is : (before list : List Kept) → kept_after before list ≡ before ++ filter (is_kept_in task) list
  after_is before [] = sym (append-nil before)
  after_is before (k ∷ more) = after_is (kept_behind task before k) more ∙ by (is_kept_in task k)
    where
      by : (b : Bool) → cond b (before ++ k ∷ []) before ++ filter (is_kept_in task) more ≡ before ++ cond b (k ∷ filter (is_kept_in task) more) (filter (is_kept_in task) more)
      by true = append_assoc before (k ∷ []) (filter (is_kept_in task) more)
      by false = refl

  behind_on : (before : List Kept) (w : Walk) (list : List Kept) → IsBehind task before w → IsBehind task (kept_after before list) (walk_on task w list)
  behind_on before w [] h = h
  behind_on before w (k ∷ more) h = behind_on (kept_behind task before k) (walk_with task w k) more (behind_next before w h k)

  course_is : (limit : ℕ) (before : List Kept) (w : Walk) (list : List Kept) → IsBehind task before w → ops_on task limit w list ≡ ops_from task limit before list
  course_is limit before w [] h = refl
  course_is limit before w (k ∷ more) h =
      let next = behind_next before w h k in
      ap₂ ◌++◌ (ops_are before w h k)
      (ap₂ (λ n ops. cond (nat_lt limit n) [] ops) (count_is (kept_behind task before k) (walk_with task w k) next) (course_is limit (kept_behind task before k) (walk_with task w k) more next))

  -- ---- all of them
  pub walked_behind : IsBehind task (kept_instances task) (walk_on task (walk_start task) (all_instances task))
  walked_behind =
      subst (λ kept. IsBehind task kept (walk_on task (walk_start task) (all_instances task))) (after_is [] (all_instances task) ∙ kept_among 0 task.actions)
      (behind_on [] (walk_start task) (all_instances task) behind_start)

  pub walked_ops : (limit : ℕ) → ops_on task limit (walk_start task) (all_instances task) ≡ ops_from task limit [] (all_instances task)
  walked_ops limit = course_is limit [] (walk_start task) (all_instances task) behind_start

  pub walked_count : length (walk_on task (walk_start task) (all_instances task)).instances ≡ length (kept_instances task)
  walked_count = count_is (kept_instances task) (walk_on task (walk_start task) (all_instances task)) walked_behind
