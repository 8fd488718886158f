-- What a kept instance or the goal names has a number.
use Rattle.std.proofs.Common.{◌≡◌, ℕ, Bool, true, false, cond, ◌&&◌, ◌||◌, List, [], ◌∷◌, ◌++◌, map, Option, Some, slice_get, refl, sym, ap, ◌∙◌}
use Rattle.std.specs.List.{list_all, flat_map, filter_map, cons_option}
use Rattle.std.proofs.lemmas.List.Folds.{list_any-append}
use Rattle.rational.specs.Fraction.{Fraction}
use Rattle.lin.specs.declared.comparison.Cmp.{Cmp}
use Rattle.pddl_task.specs.declared.action.Action.{Action}
use Rattle.pddl_task.specs.declared.condition.Cond.{Cond}
use Rattle.pddl_task.specs.declared.condition.Cond.TheVariants as cond_
use Rattle.pddl_task.specs.declared.condition.Rel.{Rel}
use Rattle.pddl_task.specs.declared.effect.Effect.{Effect}
use Rattle.pddl_task.specs.declared.effect.Effect.TheVariants as effect
use Rattle.pddl_task.specs.declared.effect.NumOp.{NumOp}
use Rattle.pddl_task.specs.declared.effect.NumOp.TheVariants.{Assign, Increase, Decrease, ScaleUp, ScaleDown}
use Rattle.pddl_task.specs.declared.parts.TaskParts.{TaskParts}
use Rattle.plan_step.specs.State.{initial}
use Rattle.plan_step.specs.Meaning.{objects_of, signed}
use Rattle.ground_numbers.specs.declared.named.Named.{Named}
use Rattle.ground_numbers.specs.Numbers.{named, same, is_listed}
use Rattle.ground_numbers.specs.inside.Same.{same_itself}
use Rattle.ground_action.specs.Setting.{Setting, Proposition, atom, valued, same_proposition, missing, setting_of, are_numbered}
use Rattle.ground_action.specs.Parts.{Part, constant, linear, Outcome, ends, bent, part, is_zero}
use Rattle.ground_action.specs.Leaves.{Leaf, fails, unclear, nothing, literal, compared, settled, compared_parts, compared_outcomes, leaf_of, leaf_reads, Move, acts, scale_up, scale_down, MoveOutcome, move_ends, move_bent, move, scaled, moved, moved_by, move_of, move_reads}
use Rattle.ground_action.specs.GroundAction.{leaves_of, moves_of, move_in, all_reads, goal_leaf, goal_leaves, is_literal_numbered, is_target_numbered, is_numbered}
use Rattle.ground_action.proofs.StepLaws.{all_listed}
use Rattle.ground_walk.specs.Sightings.{names_of, cond_funcs, cond_atoms, effect_funcs, effect_atoms, instance_funcs, instance_atoms}
use Rattle.ground_walk.specs.Walk.{Kept, kept_instances, atoms_seen, funcs_seen, atoms_of, funcs_of, fact_atoms, given_funcs}
use Rattle.ground_walk.proofs.Within.{Within, or_left, itself, nothing_within, through, in_front, in_back, side_by_side, no_more, once_within, one_within}
use Rattle.ground_walk.proofs.ReadLaws.{leaves_within, goal_within, moves_within}

both : (s t : Bool) → s ≡ true → t ≡ true → (s && t) ≡ true
both s t e f = ap (λ b. b && t) e ∙ f

atom_listed : (xs : List Named) (k : Named) → is_listed same_proposition (map atom xs) (atom k) ≡ is_listed same xs k
atom_listed [] k = refl
atom_listed (x ∷ xs) k = ap (λ t. same x k || t) (atom_listed xs k)

module _ (task : TaskParts) (atoms funcs : List Named) where
  abbrev set : Setting
  set = setting_of task atoms funcs

  proposition_listed : (k : Named) → is_listed same atoms k ≡ true → is_listed same_proposition set.propositions (atom k) ≡ true
  proposition_listed k h = list_any-append (λ y. same_proposition y (atom k)) (map atom atoms) (map valued (missing (initial task) funcs)) ∙ or_left _ _ (atom_listed atoms k ∙ h)

  all_numbered : (reads : List Named) → Within reads funcs → are_numbered set reads ≡ true
  all_numbered reads h = all_listed (is_listed same funcs) reads (λ k l. h.within k l)

  -- ---- literals
  settled_numbered : (b : Bool) → is_literal_numbered set (settled b) ≡ true
  settled_numbered true = refl
  settled_numbered false = refl

  parts_numbered : (r : Rel) (p q : Part) → is_literal_numbered set (compared_parts r p q) ≡ true
  parts_numbered r (constant a) (constant b) = settled_numbered _
  parts_numbered r (constant a) (linear q m) = refl
  parts_numbered r (linear p l) q = refl

  outcomes_numbered : (r : Rel) (a b : Outcome) → is_literal_numbered set (compared_outcomes r a b) ≡ true
  outcomes_numbered r ends b = refl
  outcomes_numbered r bent b = refl
  outcomes_numbered r (part p) ends = refl
  outcomes_numbered r (part p) bent = refl
  outcomes_numbered r (part p) (part q) = parts_numbered r p q

  by_test : (b : Bool) (sign c : Bool) (k : Named) → Within (cond b (k ∷ []) []) atoms → is_literal_numbered set (cond b (literal (atom k) sign) (settled c)) ≡ true
  by_test true sign c k h = proposition_listed k (h.within k (or_left _ _ (same_itself k)))
  by_test false sign c k h = settled_numbered c

  module _ (args : List ℕ) where
    one : (c : Cond) → Within (cond_atoms task args c) atoms → is_literal_numbered set (leaf_of set args c) ≡ true
    one (cond_.Lit sign pred terms) h = by_test (set.changing_pred pred) sign _ (named pred (objects_of args terms)) h
    one (cond_.Same sign left right) h = settled_numbered _
    one (cond_.Compare r left right) h = outcomes_numbered r _ _

    as_goal : (l : Leaf) → is_literal_numbered set l ≡ true → is_literal_numbered set (goal_leaf l) ≡ true
    as_goal fails h = refl
    as_goal unclear h = refl
    as_goal nothing h = refl
    as_goal (literal x sign) h = h
    as_goal (compared r l c) h = refl

    literals_in : (cs : List Cond) → Within (flat_map (cond_atoms task args) cs) atoms → list_all (is_literal_numbered set) (map (leaf_of set args) cs) ≡ true
    literals_in [] h = refl
    literals_in (c ∷ cs) h = both _ _ (one c (through _ _ _ (in_front _ _) h)) (literals_in cs (through _ _ _ (in_back (cond_atoms task args c) _) h))

    goal_literals : (cs : List Cond) → Within (flat_map (cond_atoms task args) cs) atoms → list_all (is_literal_numbered set) (map (λ c. goal_leaf (leaf_of set args c)) cs) ≡ true
    goal_literals [] h = refl
    goal_literals (c ∷ cs) h = both _ _ (as_goal (leaf_of set args c) (one c (through _ _ _ (in_front _ _) h))) (goal_literals cs (through _ _ _ (in_back (cond_atoms task args c) _) h))

    -- ---- targets
    abbrev outcome_numbered : MoveOutcome → Bool
    outcome_numbered move_ends = true
    outcome_numbered move_bent = true
    outcome_numbered (move m) = is_target_numbered set m

    scaled_numbered : (p : Part) (f : Fraction → MoveOutcome) → ((a : Fraction) → outcome_numbered (f a) ≡ true) → outcome_numbered (scaled p f) ≡ true
    scaled_numbered (constant a) f h = h a
    scaled_numbered (linear r l) f h = refl

    down_numbered : (k : Named) (a : Fraction) (b : Bool) → is_listed same funcs k ≡ true → outcome_numbered (cond b move_ends (move (acts k (scale_down a)))) ≡ true
    down_numbered k a true h = refl
    down_numbered k a false h = h

    moved_numbered : (op : NumOp) (k : Named) (p : Part) → is_listed same funcs k ≡ true → outcome_numbered (moved op k p) ≡ true
    moved_numbered Assign k p h = h
    moved_numbered Increase k p h = h
    moved_numbered Decrease k p h = h
    moved_numbered ScaleUp k p h = scaled_numbered p _ (λ a. h)
    moved_numbered ScaleDown k p h = scaled_numbered p _ (λ a. down_numbered k a (is_zero a) h)

    moved_by_numbered : (op : NumOp) (k : Named) (o : Outcome) → is_listed same funcs k ≡ true → outcome_numbered (moved_by op k o) ≡ true
    moved_by_numbered op k ends h = refl
    moved_by_numbered op k bent h = refl
    moved_by_numbered op k (part p) h = moved_numbered op k p h

    move_numbered : (e : Effect) → Within (effect_atoms args e) atoms → Within (effect_funcs task args e) funcs → outcome_numbered (move_of set args e) ≡ true
    move_numbered (effect.Put sign pred terms) h i = let k = named pred (objects_of args terms) in proposition_listed k (h.within k (or_left (same k k) false (same_itself k)))
    move_numbered (effect.Change op func terms by) h i =
        let k = named func (objects_of args terms) in
        moved_by_numbered op k _ (i.within k (or_left (same k k) (is_listed same (names_of task args by) k) (same_itself k)))

    moves_numbered : (es : List Effect) → Within (flat_map (effect_atoms args) es) atoms → Within (flat_map (effect_funcs task args) es) funcs → list_all (is_target_numbered set) (filter_map move_in (map (move_of set args) es)) ≡ true
    moves_numbered [] h i = refl
    moves_numbered (e ∷ es) h i =
        by_move (move_of set args e) (move_numbered e (through _ _ _ (in_front _ _) h) (through _ _ _ (in_front _ _) i))
        (moves_numbered es (through _ _ _ (in_back (effect_atoms args e) _) h) (through _ _ _ (in_back (effect_funcs task args e) _) i))
      where
        by_move : (m : MoveOutcome) → outcome_numbered m ≡ true → list_all (is_target_numbered set) (filter_map move_in (map (move_of set args) es)) ≡ true
            → list_all (is_target_numbered set) (cons_option (move_in m) (filter_map move_in (map (move_of set args) es))) ≡ true
        by_move move_ends h ih = ih
        by_move move_bent h ih = ih
        by_move (move m) h ih = both _ _ h ih

-- whatever the tables, where all that an instance names stands in them
pub instance_numbered : (task : TaskParts) (atoms funcs : List Named) (a : Action) (args : List ℕ) → Within (instance_atoms task a args) atoms → Within (instance_funcs task a args) funcs
    → is_numbered (setting_of task atoms funcs) (leaves_of (setting_of task atoms funcs) a args) (moves_of (setting_of task atoms funcs) a args) ≡ true
instance_numbered task atoms funcs a args in_atoms in_funcs =
    both _ _
    (all_numbered task atoms funcs (all_reads (leaves_of (setting_of task atoms funcs) a args) (moves_of (setting_of task atoms funcs) a args))
    (through _ _ _ (side_by_side _ _ _ _ (leaves_within task atoms funcs args a.conds) (moves_within task atoms funcs args a.effs)) in_funcs))
    (both _ _
    (literals_in task atoms funcs args a.conds (through _ _ _ (in_front _ (flat_map (effect_atoms args) a.effs)) in_atoms))
    (moves_numbered task atoms funcs args a.effs
    (through _ _ _ (in_back (flat_map (cond_atoms task args) a.conds) _) in_atoms)
    (through _ _ _ (in_back (flat_map (cond_funcs task args) a.conds) _) in_funcs)))

pub whole_goal_numbered : (task : TaskParts) (atoms funcs : List Named) → Within (flat_map (cond_atoms task []) task.goal) atoms → Within (flat_map (cond_funcs task []) task.goal) funcs
    → is_numbered (setting_of task atoms funcs) (goal_leaves (setting_of task atoms funcs) task.goal) [] ≡ true
whole_goal_numbered task atoms funcs in_atoms in_funcs =
    both _ _
    (all_numbered task atoms funcs (all_reads (goal_leaves (setting_of task atoms funcs) task.goal) [])
    (through _ _ _ (no_more _) (through _ _ _ (goal_within task atoms funcs [] task.goal) in_funcs)))
    (both _ _ (goal_literals task atoms funcs [] task.goal in_atoms) refl)

module _ (task : TaskParts) where
  funcs_within : (n : ℕ) (k : Kept) → slice_get (kept_instances task) n ≡ Some k → Within (instance_funcs task k.action k.args) (funcs_of task)
  unfolding funcs_of
  funcs_within n k e =
      once_within _ _ (through _ _ _ (one_within (λ (j : Kept). instance_funcs task j.action j.args) (kept_instances task) n k e) (through _ _ _ (in_back (flat_map (given_funcs task) task.values) _) (in_front _ (flat_map (cond_funcs task []) task.goal))))

  atoms_within : (n : ℕ) (k : Kept) → slice_get (kept_instances task) n ≡ Some k → Within (instance_atoms task k.action k.args) (atoms_of task)
  unfolding atoms_of
  atoms_within n k e =
      once_within _ _ (through _ _ _ (one_within (λ (j : Kept). instance_atoms task j.action j.args) (kept_instances task) n k e) (through _ _ _ (in_back (flat_map (fact_atoms task) task.facts) _) (in_front _ (flat_map (cond_atoms task []) task.goal))))

  goal_funcs_within : Within (flat_map (cond_funcs task []) task.goal) (funcs_of task)
  unfolding funcs_of
  goal_funcs_within = once_within _ _ (in_back _ (flat_map (cond_funcs task []) task.goal))

  goal_atoms_within : Within (flat_map (cond_atoms task []) task.goal) (atoms_of task)
  unfolding atoms_of
  goal_atoms_within = once_within _ _ (in_back _ (flat_map (cond_atoms task []) task.goal))

  pub kept_numbered : (n : ℕ) (k : Kept) → slice_get (kept_instances task) n ≡ Some k
      → is_numbered (setting_of task (atoms_of task) (funcs_of task)) (leaves_of (setting_of task (atoms_of task) (funcs_of task)) k.action k.args) (moves_of (setting_of task (atoms_of task) (funcs_of task)) k.action k.args) ≡ true
  kept_numbered n k e = instance_numbered task (atoms_of task) (funcs_of task) k.action k.args (atoms_within n k e) (funcs_within n k e)

  pub goal_numbered : is_numbered (setting_of task (atoms_of task) (funcs_of task)) (goal_leaves (setting_of task (atoms_of task) (funcs_of task)) task.goal) [] ≡ true
  goal_numbered = whole_goal_numbered task (atoms_of task) (funcs_of task) goal_atoms_within goal_funcs_within
