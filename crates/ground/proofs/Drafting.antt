-- A draft stays the same when more is numbered behind what it is over, so at the end it becomes the ground action.
use Rattle.std.proofs.Common.{◌≡◌, ℕ, true, not, List, [], ◌∷◌, ◌++◌, map, length, refl, sym, ap, ap₂, subst, ◌∙◌, append_assoc}
use Rattle.std.specs.List.{list_all, flat_map}
use Rattle.std.proofs.lemmas.Bool.{and_parts}
use Rattle.std.proofs.lemmas.Grind.{flat_map-append}
use Rattle.task_core.specs.declared.action.GAction.{GAction}
use Rattle.pddl_task.specs.declared.action.Action.{Action}
use Rattle.pddl_task.specs.declared.parts.TaskParts.{TaskParts}
use Rattle.plan_step.specs.State.{initial}
use Rattle.ground_numbers.specs.declared.named.Named.{Named}
use Rattle.ground_numbers.specs.Numbers.{same, is_listed, once}
use Rattle.ground_numbers.proofs.FirstSight.{once_more}
use Rattle.ground_action.specs.Setting.{Setting, setting_of}
use Rattle.ground_action.specs.Leaves.{Leaf, Move}
use Rattle.ground_action.specs.GroundAction.{leaves_of, moves_of, is_numbered}
use Rattle.ground_action.proofs.StepLaws.{all_listed}
use Rattle.ground_walk.specs.Sightings.{cond_atoms, cond_funcs, instance_atoms, instance_funcs}
use Rattle.ground_walk.specs.Walk.{Kept, kept_instances, fact_atoms, given_funcs, atoms_of, funcs_of}
use Rattle.ground_walk.proofs.NumberLaws.{instance_numbered}
use Rattle.ground_walk.proofs.Within.{Within, through, in_front, in_back, once_within}
use Rattle.ground_seen.specs.Seen.{seen}
use Rattle.ground_laws.specs.Result.{numbered, action_in}
use Rattle.ground_laws.proofs.ActionGrowth as grows
use Rattle.ground_laws.proofs.Plain.{all_plain, all_aimed}
use Rattle.ground_draft.specs.declared.draft.Draft.{Draft}
use Rattle.ground_draft.specs.Drafts.{is_missing, draft_from, draft_of, rank_in, finished}
use Rattle.ground_draft.proofs.Finishing.{action_finished}
use Rattle.ground_entry.proofs.Growing.{IsGrown, grown}
use Rattle.ground.specs.Course.{atoms_with, funcs_with}
use Rattle.ground.proofs.Behind.{draft_behind, drafts_from}

-- ---- one draft
made : GAction → List ℕ → List ℕ → Draft
made action reads assigns = record { action = action; reads = reads; assigns = assigns }

module _ (task : TaskParts) (atoms more funcs later : List Named) (more_new : list_all (λ k. not (is_listed same atoms k)) more ≡ true) (later_new : list_all (λ k. not (is_listed same funcs k)) later ≡ true)
    (a : Action) (args : List ℕ) (in_atoms : Within (instance_atoms task a args) atoms) (in_funcs : Within (instance_funcs task a args) funcs) where
  abbrev small : Setting
  small = setting_of task atoms funcs

  abbrev big : Setting
  big = setting_of task (atoms ++ more) (funcs ++ later)

  abbrev leaves : List Leaf
  leaves = leaves_of small a args

  abbrev moves : List Move
  moves = moves_of small a args

  named_funcs : list_all (is_listed same funcs) (instance_funcs task a args) ≡ true
  named_funcs = all_listed (is_listed same funcs) (instance_funcs task a args) (λ k l. in_funcs.within k l)

  pub draft_stays : draft_of big (atoms ++ more) a args ≡ draft_of small atoms a args
  unfolding draft_of made
  draft_stays =
      let parts = and_parts _ _ (instance_numbered task atoms funcs a args in_atoms in_funcs) in
      let marks = and_parts _ _ parts.1 in
      let plain = all_plain task (initial task) atoms funcs args a.conds marks.0 in
      let aimed = all_aimed task (initial task) atoms funcs moves marks.1 in
      ap₂ (draft_from big (atoms ++ more)) (grows.leaves_stay task (initial task) atoms more funcs later more_new later_new a args named_funcs) (grows.moves_stay task (initial task) atoms more funcs later more_new later_new a args named_funcs)
      ∙ ap₂ (λ action reads. made action reads (draft_from big (atoms ++ more) leaves moves).assigns)
      (grows.action_stays task (initial task) atoms more funcs later more_new later_new leaves moves plain aimed parts.0)
      (grows.reads_stay task (initial task) atoms more funcs later more_new later_new leaves moves plain aimed parts.0 (is_missing small))
      ∙ ap (made (draft_from small atoms leaves moves).action (draft_from small atoms leaves moves).reads)
      (grows.assigns_stay task (initial task) atoms more funcs later more_new later_new leaves moves plain aimed parts.0 (is_missing small))

-- ---- what has a number behind some of the kept instances, and at the end
module _ (given goal : List Named) (names : Kept → List Named) where
  abbrev numbered_with : List Kept → List Named
  numbered_with kept = once same (given ++ flat_map names kept)

  regroup : (f a b g : List Named) → (f ++ (a ++ b)) ++ g ≡ (f ++ a) ++ (b ++ g)
  regroup f a b g = ap (λ l. l ++ g) (sym (append_assoc f a b)) ∙ append_assoc (f ++ a) b g

  pub all_seen : (kept front behind : List Kept) → kept ≡ front ++ behind → once same ((given ++ flat_map names kept) ++ goal) ≡ seen (numbered_with front) (flat_map names behind ++ goal)
  all_seen kept front behind e =
      ap (λ ks. once same ((given ++ flat_map names ks) ++ goal)) e ∙ ap (λ l. once same ((given ++ l) ++ goal)) (flat_map-append names front behind)
      ∙ ap (once same) (regroup given (flat_map names front) (flat_map names behind) goal) ∙ once_more (given ++ flat_map names front) (flat_map names behind ++ goal)

  grown_to : (kept front behind : List Kept) → kept ≡ front ++ behind → (all : List Named) → all ≡ once same ((given ++ flat_map names kept) ++ goal) → IsGrown (numbered_with front) all
  grown_to kept front behind e all is = subst (IsGrown (numbered_with front)) (sym (is ∙ all_seen kept front behind e)) (grown (numbered_with front) (flat_map names behind ++ goal))

  last_within : (before : List Kept) (k : Kept) → Within (names k) (numbered_with (before ++ k ∷ []))
  last_within before k =
      once_within (names k) (given ++ flat_map names (before ++ k ∷ []))
      (through (names k) (flat_map names (before ++ k ∷ [])) (given ++ flat_map names (before ++ k ∷ []))
      (subst (λ l. Within (names k) l) (sym (flat_map-append names before (k ∷ [])))
      (through (names k) (names k ++ []) (flat_map names before ++ (names k ++ [])) (in_front (names k) []) (in_back (flat_map names before) (names k ++ []))))
      (in_back given (flat_map names (before ++ k ∷ []))))

module _ (task : TaskParts) where
  abbrev atoms_named : Kept → List Named
  atoms_named k = instance_atoms task k.action k.args

  abbrev funcs_named : Kept → List Named
  funcs_named k = instance_funcs task k.action k.args

  atoms_grow : (front behind : List Kept) → kept_instances task ≡ front ++ behind → IsGrown (atoms_with task front) (atoms_of task)
  unfolding atoms_of
  atoms_grow front behind e = grown_to (flat_map (fact_atoms task) task.facts) (flat_map (cond_atoms task []) task.goal) atoms_named (kept_instances task) front behind e (atoms_of task) refl

  funcs_grow : (front behind : List Kept) → kept_instances task ≡ front ++ behind → IsGrown (funcs_with task front) (funcs_of task)
  unfolding funcs_of
  funcs_grow front behind e = grown_to (flat_map (given_funcs task) task.values) (flat_map (cond_funcs task []) task.goal) funcs_named (kept_instances task) front behind e (funcs_of task) refl

  -- ---- a kept instance, in front of which some are kept
  module _ (before behind : List Kept) (k : Kept) (e : kept_instances task ≡ before ++ k ∷ behind) where
    split : kept_instances task ≡ (before ++ k ∷ []) ++ behind
    split = e ∙ sym (append_assoc before (k ∷ []) behind)

    abbrev atoms_here : List Named
    atoms_here = atoms_with task (before ++ k ∷ [])

    abbrev funcs_here : List Named
    funcs_here = funcs_with task (before ++ k ∷ [])

    in_atoms_here : Within (atoms_named k) atoms_here
    in_atoms_here = last_within (flat_map (fact_atoms task) task.facts) (flat_map (cond_atoms task []) task.goal) atoms_named before k

    in_funcs_here : Within (funcs_named k) funcs_here
    in_funcs_here = last_within (flat_map (given_funcs task) task.values) (flat_map (cond_funcs task []) task.goal) funcs_named before k

    draft_final : draft_behind task before k ≡ draft_of (numbered task) (atoms_of task) k.action k.args
    draft_final =
        let g = atoms_grow (before ++ k ∷ []) behind split in
        let f = funcs_grow (before ++ k ∷ []) behind split in
        sym (draft_stays task atoms_here g.more funcs_here f.more g.fresh f.fresh k.action k.args in_atoms_here in_funcs_here)
        ∙ ap₂ (λ atoms funcs. draft_of (setting_of task atoms funcs) atoms k.action k.args) (sym g.is) (sym f.is)

    in_all : is_numbered (numbered task) (leaves_of (numbered task) k.action k.args) (moves_of (numbered task) k.action k.args) ≡ true
    in_all =
        let g = atoms_grow (before ++ k ∷ []) behind split in
        let f = funcs_grow (before ++ k ∷ []) behind split in
        instance_numbered task (atoms_of task) (funcs_of task) k.action k.args
        (through (atoms_named k) atoms_here (atoms_of task) in_atoms_here (subst (λ l. Within atoms_here l) (sym g.is) (in_front atoms_here g.more)))
        (through (funcs_named k) funcs_here (funcs_of task) in_funcs_here (subst (λ l. Within funcs_here l) (sym f.is) (in_front funcs_here f.more)))

    one_finished : finished (length (atoms_of task)) (rank_in (initial task) (funcs_of task)) (draft_behind task before k) ≡ action_in (numbered task) k
    one_finished =
        ap (finished (length (atoms_of task)) (rank_in (initial task) (funcs_of task))) draft_final
        ∙ action_finished task (initial task) (atoms_of task) (funcs_of task) k.action k.args in_all

  finished_from : (before list : List Kept) → kept_instances task ≡ before ++ list
      → map (finished (length (atoms_of task)) (rank_in (initial task) (funcs_of task))) (drafts_from task before list) ≡ map (action_in (numbered task)) list
  finished_from before [] e = refl
  finished_from before (k ∷ more) e = ap₂ ◌∷◌ (one_finished before more k e) (finished_from (before ++ k ∷ []) more (e ∙ sym (append_assoc before (k ∷ []) more)))

  pub all_finished : map (finished (length (atoms_of task)) (rank_in (initial task) (funcs_of task))) (drafts_from task [] (kept_instances task)) ≡ map (action_in (numbered task)) (kept_instances task)
  all_finished = finished_from [] (kept_instances task) refl

  -- the goal's names behind all of them
  pub atoms_end : atoms_of task ≡ seen (atoms_with task (kept_instances task)) (flat_map (cond_atoms task []) task.goal)
  unfolding atoms_of
  atoms_end = all_seen (flat_map (fact_atoms task) task.facts) (flat_map (cond_atoms task []) task.goal) atoms_named (kept_instances task) (kept_instances task) [] (sym (nothing_behind (kept_instances task)))
    where
      nothing_behind : (xs : List Kept) → xs ++ [] ≡ xs
      nothing_behind [] = refl
      nothing_behind (x ∷ xs) = ap (λ l. x ∷ l) (nothing_behind xs)

  pub funcs_end : funcs_of task ≡ seen (funcs_with task (kept_instances task)) (flat_map (cond_funcs task []) task.goal)
  unfolding funcs_of
  funcs_end = all_seen (flat_map (given_funcs task) task.values) (flat_map (cond_funcs task []) task.goal) funcs_named (kept_instances task) (kept_instances task) [] (sym (nothing_behind (kept_instances task)))
    where
      nothing_behind : (xs : List Kept) → xs ++ [] ≡ xs
      nothing_behind [] = refl
      nothing_behind (x ∷ xs) = ap (λ l. x ∷ l) (nothing_behind xs)
