-- When tables grow at the end by what is new, the ground action of an instance over its atoms stays the same, and so do its
-- operations.
use Rattle.std.proofs.Common.{◌≡◌, ℕ, suc, Bool, true, false, not, cond, ◌&&◌, ◌||◌, List, [], ◌∷◌, ◌++◌, map, Option, Some, None, refl, sym, ap, ap₂, ◌∙◌}
use Rattle.std.specs.Prelude.{pos}
use Rattle.std.specs.List.{list_all, list_any, flat_map, filter_map, cons_option}
use Rattle.std.proofs.lemmas.Bool.{and_parts, and_from, or_parts}
use Rattle.std.proofs.lemmas.List.{map-append}
use Rattle.std.proofs.lemmas.List.Folds.{list_all-append}
use Rattle.std.proofs.lemmas.Grind.{flat_map-append}
use Rattle.frac128.specs.declared.operations.Wide.{Wide}
use Rattle.rational.specs.Fraction.{Fraction, whole}
use Rattle.lin.specs.Linear.{Linear, var}
use Rattle.lin.specs.declared.comparison.Cmp.{Cmp}
use Rattle.task_core.specs.declared.action.GAction.{GAction}
use Rattle.pddl_task.specs.declared.action.Action.{Action}
use Rattle.pddl_task.specs.declared.parts.TaskParts.{TaskParts}
use Rattle.plan_step.specs.State.{PlanState}
use Rattle.ground_numbers.specs.declared.named.Named.{Named}
use Rattle.ground_numbers.specs.Numbers.{same, is_listed, number_in, once}
use Rattle.ground_numbers.specs.inside.Same.{same_sound, same_itself}
use Rattle.ground_action.specs.Setting.{Setting, Proposition, atom, valued, same_proposition, setting_from, func_number}
use Rattle.ground_action.specs.Leaves.{Leaf, fails, unclear, nothing, literal, compared, Act, Move, puts_atom, acts, move_of, written, are_clean}
use Rattle.ground_action.specs.GroundAction.{numbers_where, with_row, rows_of, puts_it, is_assign, assigns_it, is_added, is_deleted, fold_acts, linear_act, sum_act, is_stepped, increment_of, new_value_of, literal_row, comparison_row, move_in, leaves_of, moves_of, all_reads, is_read, same_literal, action_from, may_hold, may_move, is_kept}
use Rattle.ground_action.specs.Work.{is_begun, expression_ops, condition_made, condition_ops, effect_ops, until_end, fold_ops, sum_ops, act_ops, func_ops, part_ops, instance_ops}
use Rattle.ground_action.proofs.WorkLaws.{same_number}
use Rattle.ground_action.proofs.StepLaws.{listed_all}
use Rattle.ground_walk.specs.Sightings.{cond_funcs, effect_funcs, instance_funcs}
use Rattle.ground_laws.proofs.ReadLaws.{acts_it, no_increment, no_new_value}
use Rattle.ground_laws.proofs.WorkGrowth.{same_func, same_leaves, comparisons_same, all_made_same, until_conditions_same, same_moves, until_effects_same}

-- ---- lists that go on
pub where_front : {A : Type 0} (test : A → Bool) (n : ℕ) (xs ys : List A) → list_all (λ y. not (test y)) ys ≡ true → numbers_where test n (xs ++ ys) ≡ numbers_where test n xs
where_front test n [] [] h = refl
where_front test n [] (y ∷ ys) h = let hs = and_parts _ _ h in by (test y) hs.0 (where_front test (suc n) [] ys hs.1)
  where
    by : (b : Bool) → not b ≡ true → numbers_where test (suc n) ys ≡ [] → cond b (n ∷ numbers_where test (suc n) ys) (numbers_where test (suc n) ys) ≡ []
    by true h ih = absurd (cc)
    by false h ih = ih
where_front test n (x ∷ xs) ys h = ap (λ r. cond (test x) (n ∷ r) r) (where_front test (suc n) xs ys h)

pub rows_front : {A B : Type 0} (f : A → Option B) (n : ℕ) (xs ys : List A) (none : A → Bool) → ((y : A) → none y ≡ true → f y ≡ None) → list_all none ys ≡ true → rows_of f n (xs ++ ys) ≡ rows_of f n xs
rows_front f n [] [] none each h = refl
rows_front f n [] (y ∷ ys) none each h = let hs = and_parts _ _ h in ap (λ o. with_row n o (rows_of f (suc n) ys)) (each y hs.0) ∙ rows_front f (suc n) [] ys none each hs.1
rows_front f n (x ∷ xs) ys none each h = ap (with_row n (f x)) (rows_front f (suc n) xs ys none each h)

later_listed : (x k : Named) (xs : List Named) → is_listed same xs k ≡ true → is_listed same (x ∷ xs) k ≡ true
later_listed x k xs h = by (same x k)
  where
    by : (b : Bool) → (b || is_listed same xs k) ≡ true
    by true = refl
    by false = h

first_listed : (x : Named) (xs : List Named) → is_listed same (x ∷ xs) x ≡ true
first_listed x xs = ap (λ b. b || is_listed same xs x) (same_itself x)

pub rows_same : {B : Type 0} (f g : Named → Option B) (n : ℕ) (xs : List Named) → ((k : Named) → is_listed same xs k ≡ true → f k ≡ g k) → rows_of f n xs ≡ rows_of g n xs
rows_same f g n [] h = refl
rows_same f g n (x ∷ xs) h = ap₂ (with_row n) (h x (first_listed x xs)) (rows_same f g (suc n) xs (λ k l. h k (later_listed x k xs l)))

pub flat_same : {B : Type 0} (f g : Named → List B) (xs : List Named) → ((k : Named) → is_listed same xs k ≡ true → f k ≡ g k) → flat_map f xs ≡ flat_map g xs
flat_same f g [] h = refl
flat_same f g (x ∷ xs) h = ap₂ ◌++◌ (h x (first_listed x xs)) (flat_same f g xs (λ k l. h k (later_listed x k xs l)))

flat_none : {B : Type 0} (f : Named → List B) (xs : List Named) (none : Named → Bool) → ((k : Named) → none k ≡ true → f k ≡ []) → list_all none xs ≡ true → flat_map f xs ≡ []
flat_none f [] none each h = refl
flat_none f (x ∷ xs) none each h = let hs = and_parts _ _ h in ap₂ ◌++◌ (each x hs.0) (flat_none f xs none each hs.1)

end : {A : Type 0} (xs : List A) → xs ++ [] ≡ xs
end [] = refl
end (x ∷ xs) = ap (λ l. x ∷ l) (end xs)

all_through : {A : Type 0} (p q : A → Bool) (f : (x : A) → p x ≡ true → q x ≡ true) (xs : List A) → list_all p xs ≡ true → list_all q xs ≡ true
all_through p q f [] h = refl
all_through p q f (x ∷ xs) h = let hs = and_parts _ _ h in and_from _ _ (f x hs.0) (all_through p q f xs hs.1)

all_mapped : {A B : Type 0} (p : B → Bool) (f : A → B) (xs : List A) → list_all (λ x. p (f x)) xs ≡ true → list_all p (map f xs) ≡ true
all_mapped p f [] h = refl
all_mapped p f (x ∷ xs) h = let hs = and_parts _ _ h in and_from _ _ hs.0 (all_mapped p f xs hs.1)

not_true : (b : Bool) → not b ≡ true → b ≡ false
not_true true h = absurd (cc)
not_true false h = refl

-- one that isn't listed differs from each that is
unlike : (xs : List Named) (j k : Named) → is_listed same xs j ≡ true → is_listed same xs k ≡ false → same j k ≡ false
unlike xs j k l n = by (same j k) refl
  where
    by : (b : Bool) → same j k ≡ b → b ≡ false
    by true e = absurd (differ (ap (is_listed same xs) (sym (same_sound j k e)) ∙ l) n)
      where
        differ : {c : Bool} → c ≡ true → c ≡ false → ⊥
        differ f g = cc
    by false e = refl

-- ---- atoms
abbrev pub is_plain : List Named → Leaf → Bool
is_plain atoms fails = true
is_plain atoms unclear = true
is_plain atoms nothing = true
is_plain atoms (literal (atom k) sign) = is_listed same atoms k
is_plain atoms (literal (valued k) sign) = false
is_plain atoms (compared r l c) = true

-- the targets stand in the tables
abbrev pub is_aimed : List Named → List Named → Move → Bool
is_aimed atoms funcs (puts_atom sign k) = is_listed same atoms k
is_aimed atoms funcs (acts k a) = is_listed same funcs k

atom_listed : (xs : List Named) (k : Named) → is_listed same_proposition (map atom xs) (atom k) ≡ is_listed same xs k
atom_listed [] k = refl
atom_listed (x ∷ xs) k = ap (λ t. same x k || t) (atom_listed xs k)

-- with the atoms alone
abbrev pub atoms_only : Setting → List Named → Setting
atoms_only set atoms = record { changing_pred = set.changing_pred; changing_func = set.changing_func; start = set.start; funcs = set.funcs; propositions = map atom atoms }

module _ (atoms funcs : List Named) where
  not_put : (want : Bool) (ms : List Move) (k : Named) → list_all (is_aimed atoms funcs) ms ≡ true → is_listed same atoms k ≡ false → list_any (puts_it want k) ms ≡ false
  not_put want [] k h n = refl
  not_put want (puts_atom sign j ∷ ms) k h n = let hs = and_parts _ _ h in ap₂ ◌||◌ (ap (λ b. (cond want sign (not sign)) && b) (unlike atoms j k hs.0 n) ∙ last (cond want sign (not sign))) (not_put want ms k hs.1 n)
    where
      last : (b : Bool) → (b && false) ≡ false
      last true = refl
      last false = refl
  not_put want (acts j a ∷ ms) k h n = let hs = and_parts _ _ h in not_put want ms k hs.1 n

  not_acted_on : (ms : List Move) (k : Named) → list_all (is_aimed atoms funcs) ms ≡ true → is_listed same funcs k ≡ false → list_any (acts_it k) ms ≡ false
  not_acted_on [] k h n = refl
  not_acted_on (puts_atom sign j ∷ ms) k h n = let hs = and_parts _ _ h in not_acted_on ms k hs.1 n
  not_acted_on (acts j a ∷ ms) k h n = let hs = and_parts _ _ h in ap₂ ◌||◌ (unlike funcs j k hs.0 n) (not_acted_on ms k hs.1 n)

not_assigned : (ms : List Move) (k : Named) → list_any (acts_it k) ms ≡ false → list_any (assigns_it k) ms ≡ false
not_assigned [] k h = refl
not_assigned (puts_atom sign j ∷ ms) k h = not_assigned ms k h
not_assigned (acts j a ∷ ms) k h = let hs = or_parts (same j k) (list_any (acts_it k) ms) h in ap₂ (λ b c. (b && is_assign a) || c) hs.0 (not_assigned ms k hs.1)

no_fold_ops : {A : Type 0} (f : Act → A → A) (ops : Act → A → List Wide) (k : Named) (ms : List Move) (q : A) → list_any (acts_it k) ms ≡ false → fold_ops f ops k ms q ≡ []
no_fold_ops f ops k [] q h = refl
no_fold_ops f ops k (puts_atom sign j ∷ ms) q h = no_fold_ops f ops k ms q h
no_fold_ops f ops k (acts j a ∷ ms) q h = by (same j k) h (no_fold_ops f ops k ms q)
  where
    by : (b : Bool) → (b || list_any (acts_it k) ms) ≡ false → (list_any (acts_it k) ms ≡ false → fold_ops f ops k ms q ≡ []) → cond b (ops a q ++ fold_ops f ops k ms (f a q)) (fold_ops f ops k ms q) ≡ []
    by true h ih = absurd (cc)
    by false h ih = ih h

no_func_ops : (set : Setting) (ms : List Move) (k : Named) → list_any (acts_it k) ms ≡ false → func_ops set ms k ≡ []
no_func_ops set ms k h = by (is_stepped ms k)
  where
    by : (b : Bool) → cond b (fold_ops sum_act sum_ops k ms (whole (pos 0))) (fold_ops linear_act act_ops k ms (var (func_number set k))) ≡ []
    by true = no_fold_ops sum_act sum_ops k ms _ h
    by false = no_fold_ops linear_act act_ops k ms _ h

abbrev made_action : List (ℕ × Bool) → List (Linear × Cmp) → List ℕ → List ℕ → List (ℕ × Fraction) → List (ℕ × Linear) → GAction
made_action lits cmps adds dels incs sets = record { lits = lits; cmps = cmps; adds = adds; dels = dels; incs = incs; sets = sets }

module _ (task : TaskParts) (begin : PlanState) (atoms more funcs later : List Named)
    (more_new : list_all (λ k. not (is_listed same atoms k)) more ≡ true) (later_new : list_all (λ k. not (is_listed same funcs k)) later ≡ true) where
  abbrev small : Setting
  small = setting_from task begin atoms funcs

  abbrev big : Setting
  big = setting_from task begin (atoms ++ more) (funcs ++ later)

  -- ---- over any leaves and moves
  module _ (leaves : List Leaf) (moves : List Move) (plain : list_all (is_plain atoms) leaves ≡ true) (aimed : list_all (is_aimed atoms funcs) moves ≡ true) (read : list_all (is_listed same funcs) (all_reads leaves moves) ≡ true) where
    row_stays : (l : Leaf) → is_plain atoms l ≡ true → literal_row (atoms_only big (atoms ++ more)) l ≡ literal_row (atoms_only small atoms) l
    row_stays fails h = refl
    row_stays unclear h = refl
    row_stays nothing h = refl
    row_stays (literal (atom k) sign) h =
        ap (λ xs. Some (number_in same_proposition xs (atom k), sign)) (map-append atom atoms more)
        ∙ ap (λ n. Some (n, sign)) (same_number same_proposition (map atom atoms) (map atom more) (atom k) (atom_listed atoms k ∙ h))
    row_stays (literal (valued k) sign) h = absurd (cc)
    row_stays (compared r l c) h = refl

    rows_stay : (ls : List Leaf) → list_all (is_plain atoms) ls ≡ true → filter_map (literal_row (atoms_only big (atoms ++ more))) ls ≡ filter_map (literal_row (atoms_only small atoms)) ls
    rows_stay [] h = refl
    rows_stay (l ∷ ls) h = let hs = and_parts _ _ h in ap₂ cons_option (row_stays l hs.0) (rows_stay ls hs.1)

    atoms_stay : (test : Proposition → Bool) → ((k : Named) → is_listed same atoms k ≡ false → test (atom k) ≡ false) → numbers_where test 0 (map atom (atoms ++ more)) ≡ numbers_where test 0 (map atom atoms)
    atoms_stay test fails_new =
        ap (numbers_where test 0) (map-append atom atoms more)
        ∙ where_front test 0 (map atom atoms) (map atom more) (all_mapped (λ x. not (test x)) atom more (all_through (λ k. not (is_listed same atoms k)) (λ k. not (test (atom k))) (λ k h. ap not (fails_new k (not_true _ h))) more more_new))

    deleted_new : (k : Named) → is_listed same atoms k ≡ false → is_deleted moves (atom k) ≡ false
    deleted_new k n = ap (λ b. b && not (list_any (puts_it true k) moves)) (not_put atoms funcs false moves k aimed n)

    none_acts : (k : Named) → not (is_listed same funcs k) ≡ true → list_any (acts_it k) moves ≡ false
    none_acts k h = not_acted_on atoms funcs moves k aimed (not_true _ h)

    value_stays : (k : Named) → is_listed same funcs k ≡ true → new_value_of big moves k ≡ new_value_of small moves k
    value_stays k h = ap (λ n. cond (is_stepped moves k) None (Some (fold_acts linear_act k moves (var n)))) (same_func task begin atoms more funcs later k h)

    sets_stay : rows_of (new_value_of big moves) 0 (funcs ++ later) ≡ rows_of (new_value_of small moves) 0 funcs
    sets_stay =
        rows_front (new_value_of big moves) 0 funcs later (λ k. not (is_listed same funcs k)) (λ k h. no_new_value big k moves (none_acts k h)) later_new
        ∙ rows_same (new_value_of big moves) (new_value_of small moves) 0 funcs value_stays

    incs_stay : rows_of (increment_of moves) 0 (funcs ++ later) ≡ rows_of (increment_of moves) 0 funcs
    incs_stay = rows_front (increment_of moves) 0 funcs later (λ k. not (is_listed same funcs k)) (λ k h. no_increment k moves (none_acts k h)) later_new

    pub action_stays : action_from (atoms_only big (atoms ++ more)) leaves moves ≡ action_from (atoms_only small atoms) leaves moves
    action_stays =
        let cmps = filter_map comparison_row leaves in
        let reads = is_read (all_reads leaves moves) in
        ap₂ (λ rows ns. made_action (once same_literal rows ++ map (λ n. (n, true)) ns) cmps (numbers_where (is_added moves) 0 (map atom (atoms ++ more))) (numbers_where (is_deleted moves) 0 (map atom (atoms ++ more))) (rows_of (increment_of moves) 0 (funcs ++ later)) (rows_of (new_value_of big moves) 0 (funcs ++ later)))
        (rows_stay leaves plain) (atoms_stay reads (λ k n. refl))
        ∙ ap₂ (λ adds dels. made_action (action_from (atoms_only small atoms) leaves moves).lits cmps adds dels (rows_of (increment_of moves) 0 (funcs ++ later)) (rows_of (new_value_of big moves) 0 (funcs ++ later)))
        (atoms_stay (is_added moves) (λ k n. not_put atoms funcs true moves k aimed n)) (atoms_stay (is_deleted moves) deleted_new)
        ∙ ap₂ (λ incs sets. made_action (action_from (atoms_only small atoms) leaves moves).lits cmps (action_from (atoms_only small atoms) leaves moves).adds (action_from (atoms_only small atoms) leaves moves).dels incs sets) incs_stay sets_stay

    pub func_ops_stay : flat_map (func_ops big moves) (funcs ++ later) ≡ flat_map (func_ops small moves) funcs
    func_ops_stay =
        flat_map-append (func_ops big moves) funcs later
        ∙ ap₂ ◌++◌ (flat_same (func_ops big moves) (func_ops small moves) funcs ops_stay) (flat_none (func_ops big moves) later (λ k. not (is_listed same funcs k)) (λ k h. no_func_ops big moves k (none_acts k h)) later_new)
        ∙ end (flat_map (func_ops small moves) funcs)
      where
        ops_stay : (k : Named) → is_listed same funcs k ≡ true → func_ops big moves k ≡ func_ops small moves k
        ops_stay k h = ap (λ n. cond (is_stepped moves k) (fold_ops sum_act sum_ops k moves (whole (pos 0))) (fold_ops linear_act act_ops k moves (var n))) (same_func task begin atoms more funcs later k h)

    -- the functions that are read and those that are assigned, among those that pass a test
    pub reads_stay : (test : Named → Bool) → numbers_where (λ k. test k && is_listed same (all_reads leaves moves) k) 0 (funcs ++ later) ≡ numbers_where (λ k. test k && is_listed same (all_reads leaves moves) k) 0 funcs
    reads_stay test = where_front (λ k. test k && is_listed same (all_reads leaves moves) k) 0 funcs later (all_through (λ k. not (is_listed same funcs k)) (λ k. not (test k && is_listed same (all_reads leaves moves) k)) fresh later later_new)
      where
        unread : (b c : Bool) → b ≡ false → (c ≡ true → b ≡ true) → c ≡ false
        unread b true f g = absurd (let t : b ≡ true = g refl in cc)
        unread b false f g = refl

        fresh : (k : Named) → not (is_listed same funcs k) ≡ true → not (test k && is_listed same (all_reads leaves moves) k) ≡ true
        fresh k h = ap (λ b. not (test k && b)) (unread (is_listed same funcs k) (is_listed same (all_reads leaves moves) k) (not_true _ h) (λ l. listed_all (is_listed same funcs) (all_reads leaves moves) k read l)) ∙ last (test k)
          where
            last : (b : Bool) → not (b && false) ≡ true
            last true = refl
            last false = refl

    pub assigns_stay : (test : Named → Bool) → numbers_where (λ k. test k && list_any (assigns_it k) moves) 0 (funcs ++ later) ≡ numbers_where (λ k. test k && list_any (assigns_it k) moves) 0 funcs
    assigns_stay test = where_front (λ k. test k && list_any (assigns_it k) moves) 0 funcs later (all_through (λ k. not (is_listed same funcs k)) (λ k. not (test k && list_any (assigns_it k) moves)) (λ k h. ap (λ b. not (test k && b)) (not_assigned moves k (none_acts k h)) ∙ last (test k)) later later_new)
      where
        last : (b : Bool) → not (b && false) ≡ true
        last true = refl
        last false = refl

  -- ---- of an instance
  module _ (a : Action) (args : List ℕ) (named_funcs : list_all (is_listed same funcs) (instance_funcs task a args) ≡ true) where
    conds_listed : list_all (is_listed same funcs) (flat_map (cond_funcs task args) a.conds) ≡ true
    conds_listed = (and_parts _ _ (sym (list_all-append (is_listed same funcs) (flat_map (cond_funcs task args) a.conds) (flat_map (effect_funcs task args) a.effs)) ∙ named_funcs)).0

    effs_listed : list_all (is_listed same funcs) (flat_map (effect_funcs task args) a.effs) ≡ true
    effs_listed = (and_parts _ _ (sym (list_all-append (is_listed same funcs) (flat_map (cond_funcs task args) a.conds) (flat_map (effect_funcs task args) a.effs)) ∙ named_funcs)).1

    pub leaves_stay : leaves_of big a args ≡ leaves_of small a args
    leaves_stay = same_leaves task begin atoms more funcs later args a.conds conds_listed

    outcomes_stay : map (move_of big args) a.effs ≡ map (move_of small args) a.effs
    outcomes_stay = same_moves task begin atoms more funcs later args a.effs effs_listed

    pub moves_stay : moves_of big a args ≡ moves_of small a args
    moves_stay = ap (filter_map move_in) outcomes_stay

    pub kept_stays : is_kept big a args ≡ is_kept small a args
    kept_stays = ap₂ (λ ls ms. are_clean (map (written args) a.effs) && (list_all may_hold ls && list_all may_move ms)) leaves_stay outcomes_stay

    begun_stays : is_begun big a args ≡ is_begun small a args
    begun_stays = refl

    expressions_stay : expression_ops big a args ≡ expression_ops small a args
    expressions_stay =
        ap₂ (λ xs b. xs ++ cond b (until_end (λ e. may_move (move_of big args e)) (effect_ops big args) a.effs) [])
        (until_conditions_same task begin atoms more funcs later args a.conds conds_listed) (all_made_same task begin atoms more funcs later args a.conds conds_listed)
        ∙ ap (λ ys. until_end (condition_made small args) (condition_ops small args) a.conds ++ cond (list_all (condition_made small args) a.conds) ys []) (until_effects_same task begin atoms more funcs later args a.effs effs_listed)

    module _ (aimed : list_all (is_aimed atoms funcs) (moves_of small a args) ≡ true) (plain : list_all (is_plain atoms) (leaves_of small a args) ≡ true) (read : list_all (is_listed same funcs) (all_reads (leaves_of small a args) (moves_of small a args)) ≡ true) where
      parts_stay : part_ops big a args ≡ part_ops small a args
      parts_stay =
          ap₂ ◌++◌ (comparisons_same task begin atoms more funcs later args a.conds conds_listed)
          (ap (λ ms. flat_map (func_ops big ms) (funcs ++ later)) moves_stay ∙ func_ops_stay (leaves_of small a args) (moves_of small a args) plain aimed read)

      -- its operations
      pub ops_stay : instance_ops big a args ≡ instance_ops small a args
      ops_stay =
          ap₂ (λ (xs : List Wide) (b : Bool). cond (is_begun small a args) (xs ++ cond b (part_ops big a args) []) []) expressions_stay kept_stays
          ∙ ap (λ ys. cond (is_begun small a args) (expression_ops small a args ++ cond (is_kept small a args) ys []) []) parts_stay

      -- its ground action over the atoms
      pub own_action_stays : action_from (atoms_only big (atoms ++ more)) (leaves_of big a args) (moves_of big a args) ≡ action_from (atoms_only small atoms) (leaves_of small a args) (moves_of small a args)
      own_action_stays =
          ap₂ (λ ls ms. action_from (atoms_only big (atoms ++ more)) ls ms) leaves_stay moves_stay
          ∙ action_stays (leaves_of small a args) (moves_of small a args) plain aimed read
