-- An instance, stage by stage, is what the specification says of it.
use Rattle.std.proofs.Common.{◌≡◌, ℕ, ◌≤◌, Bool, true, false, not, cond, ◌&&◌, ◌||◌, List, [], ◌∷◌, ◌++◌, map, length, Option, Some, None, Result, refl, sym, ap, ap₂, subst, ◌∙◌, append_assoc, nat_eq}
use Rattle.std.specs.Prelude.{slice_get, is_some}
use Rattle.std.specs.List.{list_all, list_any, flat_map, filter_map, cons_option}
use Rattle.std.specs.Option.{option_map}
use Rattle.std.proofs.lemmas.Bool.{and_parts}
use Rattle.std.proofs.lemmas.List.{append-nil}
use Rattle.std.proofs.lemmas.List.Folds.{list_any-append}
use Rattle.rational.specs.Fraction.{Fraction}
use Rattle.frac128.specs.declared.operations.Wide.{Wide}
use Rattle.lin.specs.Linear.{Linear}
use Rattle.lin.specs.declared.comparison.Cmp.{Cmp}
use Rattle.lin.specs.declared.failure.LinFail.{LinFail}
use Rattle.lin.specs.Operations.{AnswersInMemory}
use Rattle.task_core.specs.Step.{is_in}
use Rattle.pddl_task.specs.declared.action.Action.{Action}
use Rattle.pddl_task.specs.declared.condition.Cond.{Cond}
use Rattle.pddl_task.specs.declared.condition.Cond.TheVariants as cond_
use Rattle.pddl_task.specs.declared.condition.Rel.{Rel}
use Rattle.pddl_task.specs.declared.effect.Effect.{Effect}
use Rattle.pddl_task.specs.declared.effect.Effect.TheVariants as effect
use Rattle.pddl_task.specs.declared.effect.NumOp.{NumOp}
use Rattle.pddl_task.specs.declared.effect.NumOp.TheVariants.{Assign, Increase, Decrease, ScaleUp, ScaleDown}
use Rattle.pddl_task.specs.declared.parts.TaskParts.{TaskParts}
use Rattle.plan_step.specs.State.{PlanState}
use Rattle.plan_step.specs.Meaning.{objects_of}
use Rattle.ground_numbers.specs.declared.named.Named.{Named}
use Rattle.ground_numbers.specs.Numbers.{named, same, is_listed, number_in, once, AreDistinct}
use Rattle.ground_action.specs.Setting.{Setting, atom, valued, same_proposition, setting_from, missing, are_numbered}
use Rattle.ground_action.specs.Parts.{constant, linear, Outcome, ends, bent, part, is_zero, part_of}
use Rattle.ground_action.specs.Leaves as spec
use Rattle.ground_action.specs.Leaves.{leaf_of, leaf_reads, settled, compared_parts, compared_outcomes, puts_atom, acts, scale_down, MoveOutcome, move_ends, move_bent, move, moved, moved_by, move_of, move_reads, written, are_clean}
use Rattle.ground_action.specs.GroundAction as action
use Rattle.ground_action.specs.GroundAction.{numbers_where, assigns_it, all_reads, is_read, same_literal, literal_row, leaves_of, moves_of, move_in, may_hold, may_move, is_kept, is_target_numbered, is_literal_numbered, is_numbered}
use Rattle.ground_action.specs.Work.{is_part, condition_made, condition_ops, until_end, literal_may_hold, is_begun, expression_ops, part_ops, instance_ops}
use Rattle.ground_action.proofs.WorkLaws.{work_is}
use Rattle.ground_parts.specs.Forms.{part_made}
use Rattle.ground_draft.specs.declared.draft.Draft.{Draft}
use Rattle.ground_draft.specs.declared.leaves.Leaf.{Leaf}
use Rattle.ground_draft.specs.declared.moves.Move.{Move}
use Rattle.ground_draft.specs.Drafts.{over_atoms, is_missing, draft_of, kept_draft}
use Rattle.ground_draft.specs.inside.Rising.{rising}
use Rattle.ground_draft.specs.inside.Made.{sides_made, leaf_made, leaf_holds, acts_made, on_func, move_made, with_first, all_made}
use Rattle.ground_draft.specs.inside.Lists.{if_missing, literals_in, condition_reads, change_reads, instance_reads, assigned_in}
use Rattle.ground_draft.specs.inside.Assembly.{drafted, drafted_ops, moved_draft, moved_ops, effects_ops, left_draft, left_ops, made_draft, made_ops}
use Rattle.ground_draft.proofs.Finishing.{no_reads}
use Rattle.ground_draft.proofs.Places.{rising_where}
use Rattle.ground_draft.proofs.Acting.{form_act, form_move, divides, target_listed}
use Rattle.ground_draft.proofs.Changing.{added_is, deleted_is, incs_are, sets_are, row_ops_are}
use Rattle.ground_draft.proofs.Lits.{Matched, matched, literals_are, comparisons_are, comparisons_ops_are, holds_are}
use Rattle.ground_draft.proofs.Reading.{flat-append, missing_of, missing_in, missing_above, conditions_read, effects_read, effects_assigned, assigned_name}

-- ---- whether each is made
all_is : {A B : Type 0} (made : A → Bool) (f : A → Option B) → ((x : A) → made x ≡ is_some (f x)) → (xs : List A) → list_all made xs ≡ is_some (all_made f xs)
all_is made f agree [] = refl
all_is {A} {B} made f agree (x ∷ xs) = ap₂ ◌&&◌ (agree x) (all_is made f agree xs) ∙ both (f x) (all_made f xs)
  where
    both : (o : Option B) (p : Option (List B)) → (is_some o && is_some p) ≡ is_some (with_first o p)
    both None p = refl
    both (Some y) None = refl
    both (Some y) (Some ys) = refl

all_map : {A B : Type 0} (f : A → B) (test : B → Bool) (xs : List A) → list_all test (map f xs) ≡ list_all (λ x. test (f x)) xs
all_map f test [] = refl
all_map f test (x ∷ xs) = ap (λ b. test (f x) && b) (all_map f test xs)

from_all : {A : Type 0} (p q : A → Bool) → ((x : A) → p x ≡ true → q x ≡ true) → (xs : List A) → list_all p xs ≡ true → list_all q xs ≡ true
from_all p q f [] h = refl
from_all p q f (x ∷ xs) h = let hs = and_parts (p x) (list_all p xs) h in ap₂ ◌&&◌ (f x hs.0) (from_all p q f xs hs.1)

module _ (set : Setting) (atoms : List Named) (args : List ℕ) where
  -- ---- conditions
  sides_some : (r : Rel) (a b : Outcome) → (is_part a && is_part b) ≡ is_some (sides_made r (part_made a) (part_made b))
  sides_some r ends b = refl
  sides_some r bent b = refl
  sides_some r (part p) ends = refl
  sides_some r (part p) bent = refl
  sides_some r (part p) (part q) = refl

  pub condition_agrees : (c : Cond) → condition_made set args c ≡ is_some (leaf_made set atoms args c)
  condition_agrees (cond_.Lit sign pred terms) = refl
  condition_agrees (cond_.Same sign left right) = refl
  condition_agrees (cond_.Compare r left right) =
      sides_some r (part_of set args left) (part_of set args right) ∙ ap₂ (λ a b. is_some (sides_made r (part_made a) (part_made b))) (sym (work_is set args left)) (sym (work_is set args right))

  outcomes_hold : (r : Rel) (a b : Outcome) → may_hold (compared_outcomes r a b) ≡ true → (is_part a && is_part b) ≡ true
  outcomes_hold r ends b h = absurd (cc)
  outcomes_hold r bent b h = absurd (cc)
  outcomes_hold r (part p) ends h = absurd (cc)
  outcomes_hold r (part p) bent h = absurd (cc)
  outcomes_hold r (part p) (part q) h = refl

  hold_made : (c : Cond) → may_hold (leaf_of set args c) ≡ true → condition_made set args c ≡ true
  hold_made (cond_.Lit sign pred terms) h = refl
  hold_made (cond_.Same sign left right) h = refl
  hold_made (cond_.Compare r left right) h = outcomes_hold r (part_of set args left) (part_of set args right) h

  -- ---- effects
  moved_is : (op : NumOp) (k : Named) (o : Outcome) → on_func (number_in same set.funcs k) (acts_made op (part_made o)) ≡ option_map (form_move atoms set.funcs) (move_in (moved_by op k o))
  moved_is op k ends = refl
  moved_is op k bent = refl
  moved_is Assign k (part p) = refl
  moved_is Increase k (part p) = refl
  moved_is Decrease k (part p) = refl
  moved_is ScaleUp k (part (constant a)) = refl
  moved_is ScaleUp k (part (linear r l)) = refl
  moved_is ScaleDown k (part (constant a)) = by (is_zero a)
    where
      by : (b : Bool) → on_func (number_in same set.funcs k) (cond b None (Some (form_act (scale_down a)))) ≡ option_map (form_move atoms set.funcs) (move_in (cond b move_ends (move (acts k (scale_down a)))))
      by true = refl
      by false = refl
  moved_is ScaleDown k (part (linear r l)) = refl

  move_is : (e : Effect) → move_made set atoms args e ≡ option_map (form_move atoms set.funcs) (move_in (move_of set args e))
  move_is (effect.Put sign pred terms) = refl
  move_is (effect.Change op func terms by) =
      let k = named func (objects_of args terms) in
      ap (λ o. on_func (number_in same set.funcs k) (acts_made op (part_made o))) (work_is set args by) ∙ moved_is op k (part_of set args by)

  may_is : (m : MoveOutcome) → may_move m ≡ is_some (option_map (form_move atoms set.funcs) (move_in m))
  may_is move_ends = refl
  may_is move_bent = refl
  may_is (move m) = refl

  pub effect_agrees : (e : Effect) → may_move (move_of set args e) ≡ is_some (move_made set atoms args e)
  effect_agrees e = may_is (move_of set args e) ∙ ap is_some (sym (move_is e))

  moves_are : (es : List Effect) (forms : List Move) → Matched (move_made set atoms args) es forms → forms ≡ map (form_move atoms set.funcs) (filter_map move_in (map (move_of set args) es))
  moves_are [] [] h = refl
  moves_are [] (f ∷ fs) h = absurd h
  moves_are (e ∷ es) [] h = absurd h
  moves_are (e ∷ es) (f ∷ fs) h = by_move (move_of set args e) (sym (move_is e) ∙ h.0) (moves_are es fs h.1)
    where
      rest : List spec.Move
      rest = filter_map move_in (map (move_of set args) es)

      by_move : (m : MoveOutcome) → option_map (form_move atoms set.funcs) (move_in m) ≡ Some f → fs ≡ map (form_move atoms set.funcs) rest → f ∷ fs ≡ map (form_move atoms set.funcs) (cons_option (move_in m) rest)
      by_move move_ends g ih = absurd (cc)
      by_move move_bent g ih = absurd (cc)
      by_move (move m) g ih = let is : form_move atoms set.funcs m ≡ f = cc in ap₂ ◌∷◌ (sym is) ih

  -- no move divides by 0
  abbrev outcome_divides : MoveOutcome → Bool
  outcome_divides move_ends = true
  outcome_divides move_bent = true
  outcome_divides (move m) = divides m

  moved_divides : (op : NumOp) (k : Named) (o : Outcome) → outcome_divides (moved_by op k o) ≡ true
  moved_divides op k ends = refl
  moved_divides op k bent = refl
  moved_divides Assign k (part p) = refl
  moved_divides Increase k (part p) = refl
  moved_divides Decrease k (part p) = refl
  moved_divides ScaleUp k (part (constant a)) = refl
  moved_divides ScaleUp k (part (linear r l)) = refl
  moved_divides ScaleDown k (part (constant a)) = by (is_zero a) refl
    where
      by : (b : Bool) → is_zero a ≡ b → outcome_divides (cond b move_ends (move (acts k (scale_down a)))) ≡ true
      by true e = refl
      by false e = ap not e
  moved_divides ScaleDown k (part (linear r l)) = refl

  effect_divides : (e : Effect) → outcome_divides (move_of set args e) ≡ true
  effect_divides (effect.Put sign pred terms) = refl
  effect_divides (effect.Change op func terms by) = moved_divides op (named func (objects_of args terms)) (part_of set args by)

  all_divide : (es : List Effect) → list_all divides (filter_map move_in (map (move_of set args) es)) ≡ true
  all_divide [] = refl
  all_divide (e ∷ es) = by_move (move_of set args e) (effect_divides e) (all_divide es)
    where
      rest : List spec.Move
      rest = filter_map move_in (map (move_of set args) es)

      by_move : (m : MoveOutcome) → outcome_divides m ≡ true → list_all divides rest ≡ true → list_all divides (cons_option (move_in m) rest) ≡ true
      by_move move_ends g ih = ih
      by_move move_bent g ih = ih
      by_move (move m) g ih = ap₂ ◌&&◌ g ih

  -- ---- assigned functions
  assigned_numbered : (ms : List spec.Move) → list_all (target_listed atoms set.funcs) ms ≡ true → are_numbered set (flat_map (assigned_name set args) ms) ≡ true
  assigned_numbered [] h = refl
  assigned_numbered (puts_atom sign k ∷ ms) h = assigned_numbered ms (and_parts _ _ h).1
  assigned_numbered (acts k a ∷ ms) h =
      let hs = and_parts (is_listed same set.funcs k) (list_all (target_listed atoms set.funcs) ms) h in
      by (action.is_assign a) hs.0 (assigned_numbered ms hs.1)
    where
      by : (b : Bool) → is_listed same set.funcs k ≡ true → are_numbered set (flat_map (assigned_name set args) ms) ≡ true → are_numbered set (cond b (k ∷ []) [] ++ flat_map (assigned_name set args) ms) ≡ true
      by true l ih = ap₂ ◌&&◌ l ih
      by false l ih = ih

  assigned_listed : (ms : List spec.Move) (k : Named) → is_listed same (flat_map (assigned_name set args) ms) k ≡ list_any (assigns_it k) ms
  assigned_listed [] k = refl
  assigned_listed (puts_atom sign j ∷ ms) k = assigned_listed ms k
  assigned_listed (acts j a ∷ ms) k = by (action.is_assign a) (assigned_listed ms k)
    where
      and_true : (b c : Bool) → (b || c) ≡ (b && true || c)
      and_true true c = refl
      and_true false c = refl

      and_false : (b c : Bool) → c ≡ (b && false || c)
      and_false true c = refl
      and_false false c = refl

      by : (b : Bool) → is_listed same (flat_map (assigned_name set args) ms) k ≡ list_any (assigns_it k) ms → is_listed same (cond b (j ∷ []) [] ++ flat_map (assigned_name set args) ms) k ≡ (same j k && b || list_any (assigns_it k) ms)
      by true ih = ap (λ t. same j k || t) ih ∙ and_true (same j k) (list_any (assigns_it k) ms)
      by false ih = ih ∙ and_false (same j k) (list_any (assigns_it k) ms)

pub same_draft : (l m : List (ℕ × Bool)) (c d : List (Linear × Cmp)) (a b e f : List ℕ) (i j : List (ℕ × Fraction)) (s t : List (ℕ × Linear)) (r q v w : List ℕ)
    → l ≡ m → c ≡ d → a ≡ b → e ≡ f → i ≡ j → s ≡ t → r ≡ q → v ≡ w → (make : List (ℕ × Bool) → List (Linear × Cmp) → List ℕ → List ℕ → List (ℕ × Fraction) → List (ℕ × Linear) → List ℕ → List ℕ → Draft)
    → make l c a e i s r v ≡ make m d b f j t q w
same_draft l m c d a b e f i j s t r q v w h1 h2 h3 h4 h5 h6 h7 h8 make =
    ap (λ x. make x c a e i s r v) h1 ∙ ap (λ x. make m x a e i s r v) h2 ∙ ap (λ x. make m d x e i s r v) h3 ∙ ap (λ x. make m d b x i s r v) h4
    ∙ ap (λ x. make m d b f x s r v) h5 ∙ ap (λ x. make m d b f j x r v) h6 ∙ ap (λ x. make m d b f j t x v) h7 ∙ ap (λ x. make m d b f j t q x) h8

module _ (task : TaskParts) (start : PlanState) (atoms funcs : List Named) (own_atoms : AreDistinct atoms) (own_funcs : AreDistinct funcs) (a : Action) (args : List ℕ) where
  abbrev the : Setting
  the = setting_from task start atoms funcs

  module _ (numbered : is_numbered the (leaves_of the a args) (moves_of the a args) ≡ true) where
    reads_numbered : are_numbered the (all_reads (leaves_of the a args) (moves_of the a args)) ≡ true
    reads_numbered = (and_parts _ _ numbered).0

    no_atom : (k : Named) (ks : List Named) → is_listed same_proposition (map valued ks) (atom k) ≡ false
    no_atom k [] = refl
    no_atom k (j ∷ ks) = no_atom k ks

    atom_listed : (k : Named) (ks : List Named) → is_listed same_proposition (map atom ks) (atom k) ≡ is_listed same ks k
    atom_listed k [] = refl
    atom_listed k (j ∷ ks) = ap (λ t. same j k || t) (atom_listed k ks)

    or_false : (s t : Bool) → (s || t) ≡ true → t ≡ false → s ≡ true
    or_false true t h e = refl
    or_false false t h e = absurd (cc)

    target_is : (m : spec.Move) → is_target_numbered the m ≡ true → target_listed atoms funcs m ≡ true
    target_is (puts_atom sign k) h =
        sym (atom_listed k atoms) ∙ or_false _ _ (sym (list_any-append (λ y. same_proposition y (atom k)) (map atom atoms) (map valued (missing start funcs))) ∙ h) (no_atom k (missing start funcs))
    target_is (acts k b) h = h

    listed : list_all (target_listed atoms funcs) (moves_of the a args) ≡ true
    listed = from_all (is_target_numbered the) (target_listed atoms funcs) target_is (moves_of the a args) (and_parts _ _ (and_parts _ _ numbered).1).1

    sound : list_all divides (moves_of the a args) ≡ true
    sound = all_divide the atoms args a.effs

    reads_same : list_all (condition_made the args) a.conds ≡ true → list_all may_move (map (move_of the args) a.effs) ≡ true
        → instance_reads the args a.conds a.effs ≡ numbers_where (λ k. is_missing the k && is_listed same (all_reads (leaves_of the a args) (moves_of the a args)) k) 0 funcs
    reads_same h g = rising_where (λ k. is_missing the k && is_listed same (all_reads (leaves_of the a args) (moves_of the a args)) k) funcs ns above each
      where
        ns : List ℕ
        ns = flat_map (condition_reads the args) a.conds ++ flat_map (change_reads the args) a.effs

        same_in : (i : ℕ) → is_in i ns ≡ is_in i (missing_of the (all_reads (leaves_of the a args) (moves_of the a args)))
        same_in i =
            list_any-append (λ m. nat_eq m i) (flat_map (condition_reads the args) a.conds) (flat_map (change_reads the args) a.effs)
            ∙ ap₂ ◌||◌ (conditions_read the args a.conds h i) (ap (is_in i) (effects_read the args a.effs g))
            ∙ sym (ap (is_in i) (flat-append (if_missing the) (flat_map leaf_reads (leaves_of the a args)) (flat_map move_reads (moves_of the a args)))
            ∙ list_any-append (λ m. nat_eq m i) (missing_of the (flat_map leaf_reads (leaves_of the a args))) (missing_of the (flat_map move_reads (moves_of the a args))))

        above : (k : ℕ) → length funcs ≤ k → is_in k ns ≡ false
        above k l = same_in k ∙ missing_above the (all_reads (leaves_of the a args) (moves_of the a args)) reads_numbered k l

        each : (i : ℕ) (k : Named) → slice_get funcs i ≡ Some k → is_in i ns ≡ (is_missing the k && is_listed same (all_reads (leaves_of the a args) (moves_of the a args)) k)
        each i k e = same_in i ∙ missing_in the own_funcs (all_reads (leaves_of the a args) (moves_of the a args)) reads_numbered i k e

    assigns_same : list_all may_move (map (move_of the args) a.effs) ≡ true → assigned_in the args a.effs ≡ numbers_where (λ k. is_missing the k && list_any (assigns_it k) (moves_of the a args)) 0 funcs
    assigns_same g =
        ap rising (effects_assigned the args a.effs g)
        ∙ rising_where (λ k. is_missing the k && list_any (assigns_it k) (moves_of the a args)) funcs (missing_of the names) (missing_above the names named_numbered)
        (λ i k e. missing_in the own_funcs names named_numbered i k e ∙ ap (λ b. is_missing the k && b) (assigned_listed the atoms args (moves_of the a args) k))
      where
        names : List Named
        names = flat_map (assigned_name the args) (moves_of the a args)

        named_numbered : are_numbered the names ≡ true
        named_numbered = assigned_numbered the atoms args (moves_of the a args) listed

    lits_same : (leaves : List Leaf) → Matched (leaf_made the atoms args) a.conds leaves
        → literals_in leaves ≡ once same_literal (filter_map (literal_row (over_atoms the atoms)) (leaves_of the a args)) ++ map {B = ℕ × Bool} (λ n. (n, true)) (numbers_where (is_read (all_reads (leaves_of the a args) (moves_of the a args))) 0 (map atom atoms))
    lits_same leaves m =
        literals_are the atoms args a.conds leaves m ∙ sym (append-nil (once same_literal (filter_map (literal_row (over_atoms the atoms)) (leaves_of the a args))))
        ∙ ap (λ l. once same_literal (filter_map (literal_row (over_atoms the atoms)) (leaves_of the a args)) ++ l) (sym (no_reads task start atoms funcs (leaves_of the a args) (moves_of the a args)))

    drafted_is : (leaves : List Leaf) (forms : List Move) → Matched (leaf_made the atoms args) a.conds leaves → forms ≡ map (form_move atoms funcs) (moves_of the a args)
        → list_all (condition_made the args) a.conds ≡ true → list_all may_move (map (move_of the args) a.effs) ≡ true → drafted the args a.conds a.effs leaves forms ≡ draft_of the atoms a args
    unfolding draft_of
    drafted_is leaves forms m e h g =
        ap (drafted the args a.conds a.effs leaves) e
        ∙ same_draft _ _ _ _ _ _ _ _ _ _ _ _ _ _ _ _ (lits_same leaves m) (comparisons_are the atoms args a.conds leaves m)
        (added_is atoms funcs own_atoms (moves_of the a args) listed) (deleted_is atoms funcs own_atoms (moves_of the a args) listed)
        (incs_are the atoms own_funcs (moves_of the a args) listed sound) (sets_are the atoms own_funcs (moves_of the a args) listed sound)
        (reads_same h g) (assigns_same g)
        (λ lits cmps adds dels incs sets reads assigns. record { action = record { lits = lits; cmps = cmps; adds = adds; dels = dels; incs = incs; sets = sets }; reads = reads; assigns = assigns })

    drafted_ops_are : (leaves : List Leaf) (forms : List Move) → Matched (leaf_made the atoms args) a.conds leaves → forms ≡ map (form_move atoms funcs) (moves_of the a args) → drafted_ops leaves forms ≡ part_ops the a args
    drafted_ops_are leaves forms m e =
        ap (drafted_ops leaves) e ∙ ap₂ ◌++◌ (comparisons_ops_are the atoms args a.conds leaves m) (row_ops_are the atoms own_funcs (moves_of the a args) listed sound)

    -- ---- the stages
    module _ (begun : is_begun the a args ≡ true) where
      clean : are_clean (map (written args) a.effs) ≡ true
      clean = (and_parts _ _ begun).0

      literals_hold : list_all (literal_may_hold the args) a.conds ≡ true
      literals_hold = (and_parts _ _ (and_parts _ _ begun).1).0

      kept_by : (b c : Bool) → list_all may_hold (leaves_of the a args) ≡ b → list_all may_move (map (move_of the args) a.effs) ≡ c → is_kept the a args ≡ (b && c)
      kept_by b c e f = ap (λ t. t && (list_all may_hold (leaves_of the a args) && list_all may_move (map (move_of the args) a.effs))) clean ∙ ap₂ ◌&&◌ e f

      conds_made : (o : Option (List Leaf)) → all_made (leaf_made the atoms args) a.conds ≡ o → list_all (condition_made the args) a.conds ≡ is_some o
      conds_made o e = all_is (condition_made the args) (leaf_made the atoms args) (condition_agrees the atoms args) a.conds ∙ ap is_some e

      effs_made : (o : Option (List Move)) → all_made (move_made the atoms args) a.effs ≡ o → list_all may_move (map (move_of the args) a.effs) ≡ is_some o
      effs_made o e = all_map (move_of the args) may_move a.effs ∙ all_is (λ x. may_move (move_of the args x)) (move_made the atoms args) (effect_agrees the atoms args) a.effs ∙ ap is_some e

      and_false : (b : Bool) → (b && false) ≡ false
      and_false true = refl
      and_false false = refl

      none_hold : list_all (condition_made the args) a.conds ≡ false → list_all may_hold (leaves_of the a args) ≡ false
      none_hold h = by (list_all may_hold (leaves_of the a args)) refl
        where
          by : (b : Bool) → list_all may_hold (leaves_of the a args) ≡ b → b ≡ false
          by true e =
              let t : list_all (condition_made the args) a.conds ≡ true = from_all (λ c. may_hold (leaf_of the args c)) (condition_made the args) (hold_made the atoms args) a.conds (sym (all_map (leaf_of the args) may_hold a.conds) ∙ e) in
              absurd (cc)
          by false e = refl

      abbrev made : List Wide
      made = until_end (condition_made the args) (condition_ops the args) a.conds

      abbrev moving : List Wide
      moving = effects_ops the args a.effs

      -- what the specification's operations are at these answers
      ops_at : (c k : Bool) → list_all (condition_made the args) a.conds ≡ c → is_kept the a args ≡ k → instance_ops the a args ≡ (made ++ cond c moving []) ++ cond k (part_ops the a args) []
      ops_at c k e f =
          ap (λ b. cond b (expression_ops the a args ++ cond (is_kept the a args) (part_ops the a args) []) []) begun
          ∙ ap₂ (λ c k. (made ++ cond c moving []) ++ cond k (part_ops the a args) []) e f

      not_kept : is_kept the a args ≡ false → None ≡ kept_draft the atoms a args
      not_kept f = ap (λ k. cond k (Some (draft_of the atoms a args)) None) (sym f)

      at_held : (leaves : List Leaf) (forms : List Move) → all_made (leaf_made the atoms args) a.conds ≡ Some leaves → all_made (move_made the atoms args) a.effs ≡ Some forms → (b : Bool) → list_all leaf_holds leaves ≡ b
          → (cond b (Some (drafted the args a.conds a.effs leaves forms)) None ≡ kept_draft the atoms a args) × (made ++ (moving ++ cond b (drafted_ops leaves forms) []) ≡ instance_ops the a args)
      at_held leaves forms e f b g =
          let m = matched (leaf_made the atoms args) a.conds leaves e in
          let is = moves_are the atoms args a.effs forms (matched (move_made the atoms args) a.effs forms f) in
          let kept : is_kept the a args ≡ b = kept_by b true (holds_are the atoms args a.conds leaves m literals_hold ∙ g) (effs_made (Some forms) f) ∙ and_true b in
          by b m is kept
        where
          and_true : (b : Bool) → (b && true) ≡ b
          and_true true = refl
          and_true false = refl

          by : (b : Bool) → Matched (leaf_made the atoms args) a.conds leaves → forms ≡ map (form_move atoms funcs) (moves_of the a args) → is_kept the a args ≡ b
              → (cond b (Some (drafted the args a.conds a.effs leaves forms)) None ≡ kept_draft the atoms a args) × (made ++ (moving ++ cond b (drafted_ops leaves forms) []) ≡ instance_ops the a args)
          by true m is k = (
            ap Some (drafted_is leaves forms m is (conds_made (Some leaves) e) (effs_made (Some forms) f)) ∙ ap (λ k. cond k (Some (draft_of the atoms a args)) None) (sym k),
            ap (λ os. made ++ (moving ++ os)) (drafted_ops_are leaves forms m is) ∙ sym (append_assoc made moving (part_ops the a args)) ∙ sym (ops_at true true (conds_made (Some leaves) e) k),
          )
          by false m is k = (not_kept k, sym (append_assoc made moving []) ∙ sym (ops_at true false (conds_made (Some leaves) e) k))

      at_moved : (leaves : List Leaf) → all_made (leaf_made the atoms args) a.conds ≡ Some leaves → (o : Option (List Move)) → all_made (move_made the atoms args) a.effs ≡ o
          → (moved_draft the args a.conds a.effs leaves o ≡ kept_draft the atoms a args) × (made ++ (moving ++ moved_ops leaves o) ≡ instance_ops the a args)
      at_moved leaves e None f =
          let k : is_kept the a args ≡ false = kept_by (list_all may_hold (leaves_of the a args)) false refl (effs_made None f) ∙ and_false _ in
          (not_kept k, sym (append_assoc made moving []) ∙ sym (ops_at true false (conds_made (Some leaves) e) k))
      at_moved leaves e (Some forms) f = at_held leaves forms e f (list_all leaf_holds leaves) refl

      at_left : (o : Option (List Leaf)) → all_made (leaf_made the atoms args) a.conds ≡ o
          → (left_draft the atoms args a.conds a.effs o ≡ kept_draft the atoms a args) × (made ++ left_ops the atoms args a.effs o ≡ instance_ops the a args)
      at_left None e =
          let k : is_kept the a args ≡ false = kept_by false (list_all may_move (map (move_of the args) a.effs)) (none_hold (conds_made None e)) refl in
          (not_kept k, sym (append-nil (made ++ [])) ∙ sym (ops_at false false (conds_made None e) k))
      at_left (Some leaves) e = at_moved leaves e (all_made (move_made the atoms args) a.effs) refl

      pub made_is : (made_draft the atoms a args ≡ kept_draft the atoms a args) × (made_ops the atoms a args ≡ instance_ops the a args)
      made_is = at_left (all_made (leaf_made the atoms args) a.conds) refl

      pub answered : (r : Result (Option Draft) LinFail) → AnswersInMemory (made_ops the atoms a args) (made_draft the atoms a args) r → AnswersInMemory (instance_ops the a args) (kept_draft the atoms a args) r
      answered r h =
          let P : List Wide → Type 0 = λ ops. AnswersInMemory ops (kept_draft the atoms a args) r in
          let Q : Option Draft → Type 0 = λ d. AnswersInMemory (made_ops the atoms a args) d r in
          subst P made_is.1 (subst Q made_is.0 h)
