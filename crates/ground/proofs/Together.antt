-- The walk and the goal, behind each other, are grounding as it is specified.
use Rattle.std.proofs.Common.{◌≡◌, ℕ, ◌<◌, ◌≤◌, Bool, true, false, cond, List, [], ◌++◌, length, refl, sym, ap, ap₂, subst, ◌∙◌, arith}
use Rattle.std.specs.Prelude.{nat_lt}
use Rattle.std.specs.List.{flat_map}
use Rattle.std.proofs.lemmas.Bool.Decides.{nat_tests}
use Rattle.frac128.specs.declared.operations.Wide.{Wide}
use Rattle.lin.specs.declared.failure.LinFail.{LinFail}
use Rattle.lin.specs.declared.failure.LinFail.TheVariants as lin
use Rattle.lin.specs.Operations.{AllFit, IsFirstPassing, IsRefusal}
use Rattle.lin.proofs.Leading.{left-start, left-first}
use Rattle.pddl_task.specs.declared.parts.TaskParts.{TaskParts}
use Rattle.ground_action.specs.Setting.{setting_of}
use Rattle.ground_action.specs.Work.{goal_ops}
use Rattle.ground_walk.specs.Sightings.{cond_atoms, cond_funcs}
use Rattle.ground_walk.specs.Walk.{kept_instances, atoms_of, funcs_of}
use Rattle.ground_seen.specs.declared.tables.Tables.{Tables}
use Rattle.ground_seen.specs.Seen.{seen}
use Rattle.ground_laws.specs.Result.{numbered}
use Rattle.ground_draft.specs.declared.draft.Draft.{Draft}
use Rattle.ground_draft.specs.Drafts.{goal_draft_of}
use Rattle.ground_draft.proofs.Both.{fit_append, refused_behind}
use Rattle.ground_entry.specs.declared.walk.Walk.{Walk}
use Rattle.ground_entry.specs.declared.failure.GroundFail.{GroundFail}
use Rattle.ground_entry.specs.declared.failure.GroundFail.TheVariants.{Many, CoefWide, Memory}
use Rattle.ground_entry.specs.Refusals.{refusal_of}
use Rattle.ground_entry.specs.Walking.{setting_at, walk_start, walk_on, ops_on, IsThrough, IsTooMany, Refuses}
use Rattle.ground.specs.Course.{all_instances, ops_within}
use Rattle.ground.specs.Grounds.{HasTooMany, RefusesTask}
use Rattle.ground.specs.inside.Goal.{with_goal, IsGoalMade}
use Rattle.ground.specs.inside.Working.{IsWorked}
use Rattle.ground.proofs.Behind.{IsBehind}
use Rattle.ground.proofs.Course.{drafts_match, walked_behind, walked_ops, walked_count}
use Rattle.ground.proofs.Drafting.{atoms_end, funcs_end}
use Rattle.ground.proofs.Parts.{parts_are}

not_over : (m n : ℕ) → n ≤ m → nat_lt m n ≡ false
not_over m n h = grind (arith, nat_tests)

over : (m n : ℕ) → m < n → nat_lt m n ≡ true
over m n h = grind (arith, nat_tests)

module _ (task : TaskParts) (limit : ℕ) where
  abbrev walked : Walk
  walked = walk_on task (walk_start task) (all_instances task)

  abbrev walk_ops : List Wide
  walk_ops = ops_on task limit (walk_start task) (all_instances task)

  abbrev last_ops : List Wide
  last_ops = goal_ops (numbered task) task.goal

  ops_by : (b : Bool) → nat_lt limit (length (kept_instances task)) ≡ b → ops_within task limit ≡ walk_ops ++ cond b [] last_ops
  ops_by b e = ap₂ (λ ops c. ops ++ cond c [] last_ops) (sym (walked_ops task limit)) e

  module _ (w : Walk) (through : IsThrough task limit (walk_start task) (all_instances task) w) where
    behind : IsBehind task (kept_instances task) w
    behind = subst (IsBehind task (kept_instances task)) (sym through.is) (walked_behind task)

    few : length (kept_instances task) ≤ limit
    few = subst (λ n. n ≤ limit) (ap (λ (v : Walk). length v.instances) through.is ∙ walked_count task) through.few

    all_ops : ops_within task limit ≡ walk_ops ++ last_ops
    all_ops = ops_by false (not_over limit (length (kept_instances task)) few)

    atoms_are : (with_goal task w.tables).atoms ≡ atoms_of task
    atoms_are = ap (λ l. seen l (flat_map (cond_atoms task []) task.goal)) behind.atoms ∙ sym (atoms_end task)

    funcs_are : (with_goal task w.tables).funcs ≡ funcs_of task
    funcs_are = ap (λ l. seen l (flat_map (cond_funcs task []) task.goal)) behind.funcs ∙ sym (funcs_end task)

    same_ops : goal_ops (setting_at task (with_goal task w.tables)) task.goal ≡ last_ops
    same_ops = ap₂ (λ atoms funcs. goal_ops (setting_of task atoms funcs) task.goal) atoms_are funcs_are

    pub worked : (t : Tables) (goal : Draft) → IsGoalMade task w.tables goal t → IsWorked task limit (record { walk = record { tables = t; instances = w.instances; drafts = w.drafts }; goal = goal })
    worked t goal made = record {
      fit = subst AllFit (sym all_ops) (fit_append walk_ops last_ops through.fit (subst AllFit same_ops made.fit));
      few = few;
      parts_are =
          parts_are task (record { tables = t; instances = w.instances; drafts = w.drafts }) goal (ap (λ (s : Tables). s.atoms) made.tables_are ∙ atoms_are) (ap (λ (s : Tables). s.funcs) made.tables_are ∙ funcs_are) behind.drafts
          (made.draft_is ∙ ap₂ (λ atoms funcs. goal_draft_of (setting_of task atoms funcs) atoms task.goal) atoms_are funcs_are);
      instances_are = behind.instances;
      funcs_are = ap (λ (s : Tables). s.funcs) made.tables_are ∙ funcs_are;
      matched = drafts_match task (kept_instances task) w behind;
    }

    pub goal_refused : (e : LinFail) → IsRefusal (goal_ops (setting_at task (with_goal task w.tables)) task.goal) e → RefusesTask task limit (refusal_of e)
    goal_refused (lin.Wide o) h =
        subst (IsFirstPassing o) (sym all_ops) (refused_behind walk_ops last_ops (lin.Wide o) through.fit (subst (IsFirstPassing o) same_ops h))
    goal_refused lin.Memory h = h

  full : IsTooMany task limit (walk_start task) (all_instances task) → HasTooMany task limit
  full m =
      let more : limit < length (kept_instances task) = subst (λ n. limit < n) (walked_count task) m.over in
      record { fit = subst AllFit (sym (ops_by true (over limit (length (kept_instances task)) more))) (fit_append walk_ops [] m.fit tt); over = more }

  pub walk_refused : (e : GroundFail) → Refuses task limit (walk_start task) (all_instances task) e → RefusesTask task limit e
  walk_refused Many m = full m
  walk_refused (CoefWide o) f =
      subst (IsFirstPassing o) (sym (ops_by (nat_lt limit (length (kept_instances task))) refl))
      (left-first o walk_ops (cond (nat_lt limit (length (kept_instances task))) [] last_ops) (walk_ops ++ cond (nat_lt limit (length (kept_instances task))) [] last_ops) (left-start _) f)
  walk_refused Memory f = f
