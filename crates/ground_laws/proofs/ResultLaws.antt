-- The parts that grounding makes of a task are a ground task.
use Rattle.std.proofs.Common.{◌≡◌, ℕ, suc, ◌≤◌, Bool, true, false, cond, ◌&&◌, List, [], ◌∷◌, map, length, Option, Some, None, refl, sym, ap, subst, ◌∙◌}
use Rattle.std.specs.Prelude.{slice_get, slice_index_or}
use Rattle.std.specs.List.{All, flat_map}
use Rattle.std.proofs.lemmas.Bool.{and_parts}
use Rattle.std.proofs.lemmas.List.Folds.{list_all-append}
use Rattle.std.proofs.lemmas.List.Elements.{All-map}
use Rattle.std.proofs.lemmas.Option.{slice_get-get_or}
use Rattle.std.proofs.lemmas.List.{length-map}
use Rattle.pddl_task.specs.declared.action.Action.{Action}
use Rattle.pddl_task.specs.declared.parts.TaskParts.{TaskParts}
use Rattle.plan_step.specs.State.{initial}
use Rattle.task_core.specs.declared.action.GAction.{GAction}
use Rattle.task_core.specs.Task.{IsActionOf, IsTest, IsGroundTask}
use Rattle.ground_numbers.specs.declared.named.Named.{Named}
use Rattle.ground_numbers.specs.Numbers.{same, number_in, once}
use Rattle.ground_action.specs.Setting.{Proposition, atom, valued, func_number}
use Rattle.ground_action.specs.Leaves.{leaf_reads, move_reads}
use Rattle.ground_action.specs.GroundAction.{numbers_where, with_row, rows_of, is_added, is_deleted, increment_of, new_value_of, leaves_of, moves_of, all_reads, ground_action, goal_leaves, ground_goal, is_numbered}
use Rattle.ground_walk.specs.Walk.{kept_instances, funcs_seen, atoms_of, funcs_of}
use Rattle.ground_walk.proofs.NumberLaws.{kept_numbered, goal_numbered}
use Rattle.ground_laws.specs.Result.{numbered, parts_in, action_in, task_from}
use Rattle.ground_laws.proofs.Distinct.{once_apart, own_number}
use Rattle.ground_laws.proofs.VariableLaws.{reads_pass, condition_passed, goal_leaves_passed, moves_passed}
use Rattle.ground_laws.proofs.TellLaws.{value_atoms_fit, value_atoms_false}
use Rattle.ground_laws.proofs.ActionLaws.{is_action}

no_numbers : {A : Type 0} (test : A → Bool) (n : ℕ) (xs : List A) → ((x : A) → test x ≡ false) → numbers_where test n xs ≡ []
no_numbers test n [] h = refl
no_numbers test n (x ∷ xs) h = ap (λ b. cond b (n ∷ numbers_where test (suc n) xs) (numbers_where test (suc n) xs)) (h x) ∙ no_numbers test (suc n) xs h

no_rows : {A B : Type 0} (f : A → Option B) (n : ℕ) (xs : List A) → ((x : A) → f x ≡ None) → rows_of f n xs ≡ []
no_rows f n [] h = refl
no_rows f n (x ∷ xs) h = ap (λ o. with_row n o (rows_of f (suc n) xs)) (h x) ∙ no_rows f (suc n) xs h

none_added : (x : Proposition) → is_added [] x ≡ false
none_added (atom k) = refl
none_added (valued k) = refl

none_deleted : (x : Proposition) → is_deleted [] x ≡ false
none_deleted (atom k) = refl
none_deleted (valued k) = refl

module _ (task : TaskParts) where
  own : (n : ℕ) (k : Named) → slice_get (funcs_of task) n ≡ Some k → number_in same (funcs_of task) k ≡ n
  unfolding funcs_of
  own = own_number (once same (funcs_seen task)) (once_apart (funcs_seen task))

  -- any instance whose names are numbered
  pub instance_action : (actions : List GAction) (goal : GAction) (a : Action) (args : List ℕ) → is_numbered (numbered task) (leaves_of (numbered task) a args) (moves_of (numbered task) a args) ≡ true
      → IsActionOf (parts_in (numbered task) actions goal) (ground_action (numbered task) a args)
  unfolding ground_action
  instance_action actions goal a args h =
      is_action task (initial task) (atoms_of task) (funcs_of task) actions goal own (leaves_of (numbered task) a args) (moves_of (numbered task) a args)
      (λ test r. condition_passed test (numbered task) args a.conds (and_parts _ _ (split test r)).0)
      (λ test r. moves_passed test (numbered task) args a.effs (and_parts _ _ (split test r)).1)
      h
    where
      split : (test : ℕ → Bool) → reads_pass test (numbered task) (all_reads (leaves_of (numbered task) a args) (moves_of (numbered task) a args)) ≡ true
          → (reads_pass test (numbered task) (flat_map leaf_reads (leaves_of (numbered task) a args)) && reads_pass test (numbered task) (flat_map move_reads (moves_of (numbered task) a args))) ≡ true
      split test r = sym (list_all-append (λ k. test (func_number (numbered task) k)) (flat_map leaf_reads (leaves_of (numbered task) a args)) (flat_map move_reads (moves_of (numbered task) a args))) ∙ r

  goal_action : (actions : List GAction) (goal : GAction) → IsActionOf (parts_in (numbered task) actions goal) (ground_goal (numbered task) task.goal)
  unfolding ground_goal
  goal_action actions goal =
      is_action task (initial task) (atoms_of task) (funcs_of task) actions goal own (goal_leaves (numbered task) task.goal) []
      (λ test r. goal_leaves_passed test (numbered task) [] task.goal (and_parts _ _ (split test r)).0)
      (λ test r. refl)
      (goal_numbered task)
    where
      split : (test : ℕ → Bool) → reads_pass test (numbered task) (all_reads (goal_leaves (numbered task) task.goal) []) ≡ true
          → (reads_pass test (numbered task) (flat_map leaf_reads (goal_leaves (numbered task) task.goal)) && true) ≡ true
      split test r = sym (list_all-append (λ k. test (func_number (numbered task) k)) (flat_map leaf_reads (goal_leaves (numbered task) task.goal)) []) ∙ r

  goal_test : IsTest (ground_goal (numbered task) task.goal)
  unfolding ground_goal
  goal_test = record {
    adds = no_numbers (is_added []) 0 (numbered task).propositions none_added;
    dels = no_numbers (is_deleted []) 0 (numbered task).propositions none_deleted;
    incs = no_rows (increment_of []) 0 (funcs_of task) (λ k. refl);
    sets = no_rows (new_value_of (numbered task) []) 0 (funcs_of task) (λ k. refl);
  }

  each_action : (actions : List GAction) (goal : GAction) → All (IsActionOf (parts_in (numbered task) actions goal)) (map (action_in (numbered task)) (kept_instances task))
  each_action actions goal =
      All-map (IsActionOf (parts_in (numbered task) actions goal)) (action_in (numbered task)) (kept_instances task)
      (λ i d l. let k = slice_index_or (kept_instances task) i d in instance_action actions goal k.action k.args (kept_numbered task i k (slice_get-get_or (kept_instances task) i d l)))

  pub is_ground_task : length (kept_instances task) ≤ 1000000 → IsGroundTask (task_from task)
  is_ground_task few =
      let actions = map (action_in (numbered task)) (kept_instances task) in
      let goal = ground_goal (numbered task) task.goal in
      record {
        few = subst (λ n. n ≤ 1000000) (sym (length-map (kept_instances task) (action_in (numbered task)))) few;
        actions = each_action actions goal;
        goal = goal_action actions goal;
        goal_is_test = goal_test;
        value_atoms_fit = value_atoms_fit task (initial task) (atoms_of task) (funcs_of task) actions goal;
        value_atoms_false = value_atoms_false task (initial task) (atoms_of task) (funcs_of task) actions goal;
      }
