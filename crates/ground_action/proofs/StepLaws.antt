-- The law of grounding: an instance has a step exactly where it is kept and its ground action has its ground step, and
-- the states behind agree.
use Rattle.std.proofs.Common.{◌≡◌, ℕ, zero, suc, ◌+◌, Bool, true, false, not, cond, ◌&&◌, ◌||◌, List, [], ◌∷◌, map, Option, Some, None, refl, sym, ap, ap₂, subst, ◌∙◌, arith}
use Rattle.std.specs.Prelude.{is_some, unwrap_or, slice_get, option_and_then}
use Rattle.std.specs.Option.{option_map}
use Rattle.std.specs.List.{list_all, list_any, flat_map, filter_map, cons_option}
use Rattle.std.proofs.lemmas.Bool.{eqb-true, and_parts, and_from}
use Rattle.std.proofs.lemmas.List.Folds.{list_all-append, list_all-map}
use Rattle.rational.specs.Fraction.{Fraction}
use Rattle.pddl_task.specs.declared.action.Action.{Action}
use Rattle.pddl_task.specs.declared.condition.Cond.{Cond}
use Rattle.pddl_task.specs.declared.effect.Effect.{Effect}
use Rattle.pddl_task.specs.declared.effect.Effect.TheVariants as effect
use Rattle.pddl_task.specs.declared.effect.NumOp.{NumOp}
use Rattle.pddl_task.specs.declared.effect.NumOp.TheVariants.{Assign, Increase, Decrease, ScaleUp, ScaleDown}
use Rattle.ground_action.proofs.LeafLaws.{act_amount, change_in, leaf_true, LeafMeans, MoveMeans, leaf_means, move_means}
use Rattle.ground_action.proofs.ListLaws.{number_gets, all-once, all_where, where_all, all-filter_map, passes}
use Rattle.ground_action.proofs.EffectLaws.{same_sound, same_itself, proposition_sound, puts-any, some_behind, proposition_after, func_after}
use Rattle.ground_action.specs.Parts.{is_zero, Part, constant, linear, Outcome, ends, bent, part, part_of}
use Rattle.plan_step.specs.State.{PlanState}
use Rattle.plan_step.specs.Meaning.{objects_of, value_of as expression_value, signed, holds, all_hold, Change, put, change, has_target, amount, change_of, clashes, IsClean, truth_after, changed_by, value_after}
use Rattle.task_core.specs.State.{State}
use Rattle.ground_action.proofs.Tests.{ready_holds, op_of, zero_q, lit_holds, cmp_holds, ready, known}
use Rattle.ground_numbers.specs.declared.named.Named.{Named}
use Rattle.ground_numbers.specs.Numbers.{named, same, is_listed, once}
use Rattle.ground_action.specs.Setting.{Proposition, atom, valued, same_proposition, Setting, func_number, proposition_number, are_numbered, value_in, truth_in}
use Rattle.ground_action.specs.Agrees.{Fits, Agrees}
use Rattle.ground_action.specs.Leaves.{Leaf, fails, unclear, nothing, literal, compared, leaf_of, leaf_reads, scale_up, scale_down, scaled, moved_by, Move, puts_atom, acts, MoveOutcome, move_ends, move_bent, move, move_of, move_reads, written, are_clean}
use Rattle.ground_action.specs.GroundAction.{numbers_where, assigns_it, puts_it, literal_row, comparison_row, move_in, leaves_of, moves_of, all_reads, is_read, same_literal, action_from, ground_action, may_hold, may_move, is_kept, is_literal_numbered}
use Rattle.ground_action.proofs.Groundable.{is_linear, ActionStep, is_clear, is_straight, target_changes, IsGroundable}
use Rattle.ground_action.specs.Laws.{IsGroundStep}

-- ---- lists and tests
pub all_listed : (p : Named → Bool) (xs : List Named) → ((x : Named) → is_listed same xs x ≡ true → p x ≡ true) → list_all p xs ≡ true
all_listed p [] h = refl
all_listed p (x ∷ xs) h = and_from _ _ (h x (ap (λ t. t || is_listed same xs x) (same_itself x))) (all_listed p xs (λ y l. h y (later (same x y) (is_listed same xs y) l)))
  where
    later : (a b : Bool) → b ≡ true → (a || b) ≡ true
    later true b e = refl
    later false b e = e

pub listed_all : (p : Named → Bool) (xs : List Named) (x : Named) → list_all p xs ≡ true → is_listed same xs x ≡ true → p x ≡ true
listed_all p [] x h l = absurd (cc)
listed_all p (y ∷ ys) x h l = by_test (same y x) refl l (λ l. listed_all p ys x (and_parts _ _ h).1 l)
  where
    by_test : (b : Bool) → same y x ≡ b → (b || is_listed same ys x) ≡ true → (is_listed same ys x ≡ true → p x ≡ true) → p x ≡ true
    by_test true e l ih = sym (ap p (same_sound y x e)) ∙ (and_parts _ _ h).0
    by_test false e l ih = ih l

shuffle : (a b c d e f : Bool) → ((a && (b && c)) && (d && (e && f))) ≡ ((a && d) && ((b && e) && (c && f)))
shuffle false b c d e f = refl
shuffle true false c false e f = refl
shuffle true false c true e f = refl
shuffle true true false false e f = refl
shuffle true true false true false f = refl
shuffle true true false true true f = refl
shuffle true true true d e f = refl

-- ---- clean
unfoldable pub shape : Change → Change
shape (put sign p args) = put sign p args
shape (change op f args by) = change op f args zero_q

shape_clashes : (c d : Change) → clashes c d ≡ clashes (shape c) (shape d)
unfolding shape
shape_clashes (put sign p args) d = refl
shape_clashes (change op f args by) (put sign p others) = refl
shape_clashes (change op f args by) (change other g others x) = refl

module _ (s : PlanState) (args : List ℕ) where
  option_shape : (op : NumOp) (f : ℕ) (objects : List ℕ) (b : Bool) (o : Option Fraction) (c : Change) → cond b (option_map (change op f objects) o) None ≡ Some c → shape c ≡ change op f objects zero_q
  unfolding shape
  option_shape op f objects true None c e = absurd (cc)
  option_shape op f objects true (Some x) c e = let is : change op f objects x ≡ c = cc in sym (ap shape is)
  option_shape op f objects false o c e = absurd (cc)

  leaf_shape : (e : Effect) (c : Change) → change_of s args e ≡ Some c → shape c ≡ written args e
  unfolding shape
  leaf_shape (effect.Put sign pred terms) c e = let is : put sign pred (objects_of args terms) ≡ c = cc in sym (ap shape is)
  leaf_shape (effect.Change op func terms by) c e = option_shape op func (objects_of args terms) (has_target op (s.value func (objects_of args terms))) (option_and_then (amount op) (expression_value s args by)) c e

  pub shapes : (es : List Effect) (cs : List Change) → map (change_of s args) es ≡ map Some cs → map shape cs ≡ map (written args) es
  shapes [] [] h = refl
  shapes [] (c ∷ cs) h = absurd (cc)
  shapes (e ∷ es) [] h = absurd (cc)
  shapes (e ∷ es) (c ∷ cs) h = let first : change_of s args e ≡ Some c = cc in let rest : map (change_of s args) es ≡ map Some cs = cc in ap₂ ◌∷◌ (leaf_shape e c first) (shapes es cs rest)

not_false : (b : Bool) → b ≡ false → not b ≡ true
not_false b e = ap not e

not_true : (b : Bool) → not b ≡ true → b ≡ false
not_true true e = absurd (cc)
not_true false e = refl

clean_first : (c : Change) (cs : List Change) → ((j : ℕ) (d : Change) → slice_get cs j ≡ Some d → clashes d c ≡ false) → list_all (λ d. not (clashes d (shape c))) (map shape cs) ≡ true
clean_first c [] h = refl
clean_first c (d ∷ cs) h = and_from _ _ (ap not (sym (shape_clashes d c) ∙ h 0 d refl)) (clean_first c cs (λ j b g. h (suc j) b g))

clean_are : (cs : List Change) → IsClean cs → are_clean (map shape cs) ≡ true
clean_are [] h = refl
clean_are (c ∷ cs) h = and_from _ _ (clean_first c cs (λ j d g. h 0 (suc j) c d (omega arith) refl g)) (clean_are cs (λ i j a b l g k. h (suc i) (suc j) a b (omega arith) g k))

first_clean : (c : Change) (cs : List Change) → list_all (λ d. not (clashes d (shape c))) (map shape cs) ≡ true → (j : ℕ) (d : Change) → slice_get cs j ≡ Some d → clashes d c ≡ false
first_clean c [] h j d g = absurd (cc)
first_clean c (b ∷ cs) h zero d g = let is : b ≡ d = cc in shape_clashes d c ∙ sym (ap (λ t. clashes (shape t) (shape c)) is) ∙ not_true _ (and_parts _ _ h).0
first_clean c (b ∷ cs) h (suc j) d g = first_clean c cs (and_parts _ _ h).1 j d g

are_clean_is : (cs : List Change) → are_clean (map shape cs) ≡ true → IsClean cs
are_clean_is [] h i j a b l g k = absurd (cc)
are_clean_is (c ∷ cs) h zero zero a b l g k = absurd (omega arith)
are_clean_is (c ∷ cs) h zero (suc j) a b l g k = let is : c ≡ a = cc in ap (clashes b) (sym is) ∙ first_clean c cs (and_parts _ _ h).0 j b k
are_clean_is (c ∷ cs) h (suc i) zero a b l g k = absurd (omega arith)
are_clean_is (c ∷ cs) h (suc i) (suc j) a b l g k = are_clean_is cs (and_parts _ _ h).1 i j a b (omega arith) g k

abbrev made_lit : ℕ → Bool → ℕ × Bool
made_lit n b = (n, b)

pub lit_sound : (x y : ℕ × Bool) → same_literal x y ≡ true → x ≡ y
lit_sound x y h = let hs = and_parts _ _ h in ap₂ made_lit (eqb-true x.0 y.0 hs.0) (one_sign x.1 y.1 hs.1)
  where
    one_sign : (b c : Bool) → cond b c (not c) ≡ true → b ≡ c
    one_sign true c e = sym e
    one_sign false c e = sym (not_true c e)

-- ---- in a fitting state that agrees
module _ (set : Setting) (s : PlanState) (g : State) (fits : Fits set s) (agrees : Agrees set s g) where
  pub keyed : (it : Named) → is_listed same set.funcs it ≡ true → g.value (func_number set it) ≡ unwrap_or (value_in s it) zero_q
  keyed it l = agrees.values (func_number set it) it (number_gets same same_sound set.funcs it l)

  keyed_proposition : (x : Proposition) → is_listed same_proposition set.propositions x ≡ true → g.truth (proposition_number set x) ≡ truth_in s x
  keyed_proposition x l = agrees.truths (proposition_number set x) x (number_gets same_proposition proposition_sound set.propositions x l)

  -- ---- conditions
  is_true : Leaf → Bool
  is_true l = leaf_true s g.value set l

  -- a leaf that holds may hold
  may : (l : Leaf) (b : Bool) → LeafMeans s g.value set l b → is_clear l ≡ true → b ≡ true → may_hold l ≡ true
  may fails b m c h = absurd (cc)
  may unclear b m c h = absurd (cc)
  may nothing b m c h = refl
  may (literal x sign) b m c h = refl
  may (compared r l t) b m c h = refl

  -- what is left of a leaf, in the ground state
  left : (l : Leaf) (b : Bool) → LeafMeans s g.value set l b → may_hold l ≡ true → are_numbered set (leaf_reads l) ≡ true → is_literal_numbered set l ≡ true
      → b ≡ (known s (leaf_reads l) && (passes (lit_holds g) (literal_row set l) && passes (cmp_holds g) (comparison_row l)))
  left fails b m k n f = absurd (cc)
  left unclear b m k n f = absurd (cc)
  left nothing b m k n f = m
  left (literal x sign) b m k n f = m ∙ ap (signed sign) (sym (keyed_proposition x f)) ∙ and_true (signed sign (g.truth (proposition_number set x)))
    where
      and_true : (t : Bool) → t ≡ (t && true)
      and_true true = refl
      and_true false = refl
  left (compared r l c) b m k n f = m n

  module _ (args : List ℕ) where
    all_may : (cs : List Cond) → list_all is_clear (map (leaf_of set args) cs) ≡ true → all_hold s args cs ≡ true → list_all may_hold (map (leaf_of set args) cs) ≡ true
    all_may [] c h = refl
    all_may (x ∷ xs) c h = and_from _ _ (may (leaf_of set args x) (holds s args x) (leaf_means s g.value set fits keyed args x) (and_parts _ _ c).0 (and_parts _ _ h).0) (all_may xs (and_parts _ _ c).1 (and_parts _ _ h).1)

    pub all_left_by : (leaf : Cond → Leaf) → ((c : Cond) → LeafMeans s g.value set (leaf c) (holds s args c)) → (cs : List Cond) → list_all may_hold (map leaf cs) ≡ true → are_numbered set (flat_map leaf_reads (map leaf cs)) ≡ true → list_all (is_literal_numbered set) (map leaf cs) ≡ true
        → all_hold s args cs ≡ (known s (flat_map leaf_reads (map leaf cs)) && (list_all (λ l. passes (lit_holds g) (literal_row set l)) (map leaf cs) && list_all (λ l. passes (cmp_holds g) (comparison_row l)) (map leaf cs)))
    all_left_by leaf means [] k n f = refl
    all_left_by leaf means (x ∷ xs) k n f =
        let l = leaf x in
        let ls = map leaf xs in
        let ns = and_parts _ _ (sym (list_all-append (is_listed same set.funcs) (leaf_reads l) (flat_map leaf_reads ls)) ∙ n) in
        ap₂ ◌&&◌ (left l (holds s args x) (means x) (and_parts _ _ k).0 ns.0 (and_parts _ _ f).0) (all_left_by leaf means xs (and_parts _ _ k).1 ns.1 (and_parts _ _ f).1)
        ∙ shuffle (known s (leaf_reads l)) (passes (lit_holds g) (literal_row set l)) (passes (cmp_holds g) (comparison_row l)) (known s (flat_map leaf_reads ls)) (list_all (λ l. passes (lit_holds g) (literal_row set l)) ls) (list_all (λ l. passes (cmp_holds g) (comparison_row l)) ls)
        ∙ ap (λ t. t && (list_all (λ l. passes (lit_holds g) (literal_row set l)) (l ∷ ls) && list_all (λ l. passes (cmp_holds g) (comparison_row l)) (l ∷ ls))) (sym (list_all-append (λ k. is_some (value_in s k)) (leaf_reads l) (flat_map leaf_reads ls)))

    all_left : (cs : List Cond) → list_all may_hold (map (leaf_of set args) cs) ≡ true → are_numbered set (flat_map leaf_reads (map (leaf_of set args) cs)) ≡ true → list_all (is_literal_numbered set) (map (leaf_of set args) cs) ≡ true
        → all_hold s args cs ≡ (known s (flat_map leaf_reads (map (leaf_of set args) cs)) && (list_all (λ l. passes (lit_holds g) (literal_row set l)) (map (leaf_of set args) cs) && list_all (λ l. passes (cmp_holds g) (comparison_row l)) (map (leaf_of set args) cs)))
    all_left = all_left_by (leaf_of set args) (leaf_means s g.value set fits keyed args)

    -- ---- effects
    may_be : (m : MoveOutcome) (c : Change) → MoveMeans s g.value set m (Some c) → is_straight m ≡ true → may_move m ≡ true
    may_be move_ends c m t = absurd (cc)
    may_be move_bent c m t = absurd (cc)
    may_be (move x) c m t = refl

    as_means : (m : MoveOutcome) (o p : Option Change) → o ≡ p → MoveMeans s g.value set m o → MoveMeans s g.value set m p
    as_means m o p e h = let P : Option Change → Type 0 = λ q. MoveMeans s g.value set m q in subst P e h

    all_move : (es : List Effect) (cs : List Change) → list_all is_straight (map (move_of set args) es) ≡ true → map (change_of s args) es ≡ map Some cs → list_all may_move (map (move_of set args) es) ≡ true
    all_move [] cs t h = refl
    all_move (e ∷ es) [] t h = absurd (cc)
    all_move (e ∷ es) (c ∷ cs) t h =
        let first : change_of s args e ≡ Some c = cc in
        let rest : map (change_of s args) es ≡ map Some cs = cc in
        and_from _ _ (may_be (move_of set args e) c (as_means (move_of set args e) _ _ first (move_means s g.value set fits keyed args e)) (and_parts _ _ t).0) (all_move es cs (and_parts _ _ t).1 rest)

    if_some : (b : Bool) (c d : Change) → Some c ≡ cond b (Some d) None → (b ≡ true) × (c ≡ d)
    if_some true c d e = (refl, cc)
    if_some false c d e = absurd (cc)

    -- the changes are those of the moves, and what they read has values
    changes_are : (es : List Effect) (cs : List Change) → list_all may_move (map (move_of set args) es) ≡ true → are_numbered set (flat_map move_reads (filter_map move_in (map (move_of set args) es))) ≡ true → map (change_of s args) es ≡ map Some cs
        → (known s (flat_map move_reads (filter_map move_in (map (move_of set args) es))) ≡ true) × (cs ≡ map (change_in g.value) (filter_map move_in (map (move_of set args) es)))
    changes_are [] [] k n h = (refl, refl)
    changes_are [] (c ∷ cs) k n h = absurd (cc)
    changes_are (e ∷ es) [] k n h = absurd (cc)
    changes_are (e ∷ es) (c ∷ cs) k n h =
        let first : change_of s args e ≡ Some c = cc in
        let rest : map (change_of s args) es ≡ map Some cs = cc in
        by_move (move_of set args e) (and_parts _ _ k).0 (as_means (move_of set args e) _ _ first (move_means s g.value set fits keyed args e)) n (λ n. changes_are es cs (and_parts _ _ k).1 n rest)
      where
        ms : List Move
        ms = filter_map move_in (map (move_of set args) es)

        by_move : (m : MoveOutcome) → may_move m ≡ true → MoveMeans s g.value set m (Some c) → are_numbered set (flat_map move_reads (cons_option (move_in m) (filter_map move_in (map (move_of set args) es)))) ≡ true
            → (are_numbered set (flat_map move_reads (filter_map move_in (map (move_of set args) es))) ≡ true → (known s (flat_map move_reads (filter_map move_in (map (move_of set args) es))) ≡ true) × (cs ≡ map (change_in g.value) (filter_map move_in (map (move_of set args) es))))
            → (known s (flat_map move_reads (cons_option (move_in m) (filter_map move_in (map (move_of set args) es)))) ≡ true) × (c ∷ cs ≡ map (change_in g.value) (cons_option (move_in m) (filter_map move_in (map (move_of set args) es))))
        by_move move_ends k m n ih = absurd (cc)
        by_move move_bent k m n ih = absurd (cc)
        by_move (move x) k m n ih =
            let later = flat_map move_reads (filter_map move_in (map (move_of set args) es)) in
            let ns = and_parts _ _ (sym (list_all-append (is_listed same set.funcs) (move_reads x) later) ∙ n) in
            let here = if_some (known s (move_reads x)) c (change_in g.value x) (m ns.0) in
            let more = ih ns.1 in
            (list_all-append (λ k. is_some (value_in s k)) (move_reads x) later ∙ and_from _ _ here.0 more.0, ap₂ ◌∷◌ here.1 more.1)

    -- where what they read has values, there are the changes
    changes_there : (es : List Effect) → list_all may_move (map (move_of set args) es) ≡ true → are_numbered set (flat_map move_reads (filter_map move_in (map (move_of set args) es))) ≡ true → known s (flat_map move_reads (filter_map move_in (map (move_of set args) es))) ≡ true
        → map (change_of s args) es ≡ map Some (map (change_in g.value) (filter_map move_in (map (move_of set args) es)))
    changes_there [] k n h = refl
    changes_there (e ∷ es) k n h = by_move (move_of set args e) (and_parts _ _ k).0 (move_means s g.value set fits keyed args e) n h (λ n h. changes_there es (and_parts _ _ k).1 n h)
      where
        by_move : (m : MoveOutcome) → may_move m ≡ true → MoveMeans s g.value set m (change_of s args e)
            → are_numbered set (flat_map move_reads (cons_option (move_in m) (filter_map move_in (map (move_of set args) es)))) ≡ true → known s (flat_map move_reads (cons_option (move_in m) (filter_map move_in (map (move_of set args) es)))) ≡ true
            → (are_numbered set (flat_map move_reads (filter_map move_in (map (move_of set args) es))) ≡ true → known s (flat_map move_reads (filter_map move_in (map (move_of set args) es))) ≡ true → map (change_of s args) es ≡ map Some (map (change_in g.value) (filter_map move_in (map (move_of set args) es))))
            → change_of s args e ∷ map (change_of s args) es ≡ map Some (map (change_in g.value) (cons_option (move_in m) (filter_map move_in (map (move_of set args) es))))
        by_move move_ends k m n h ih = absurd (cc)
        by_move move_bent k m n h ih = absurd (cc)
        by_move (move x) k m n h ih =
            let later = flat_map move_reads (filter_map move_in (map (move_of set args) es)) in
            let ns = and_parts _ _ (sym (list_all-append (is_listed same set.funcs) (move_reads x) later) ∙ n) in
            let hs = and_parts _ _ (sym (list_all-append (λ k. is_some (value_in s k)) (move_reads x) later) ∙ h) in
            ap₂ ◌∷◌ (m ns.0 ∙ ap (λ t. cond t (Some (change_in g.value x)) None) hs.0) (ih ns.1 hs.1)

  -- ---- the literals 'has a value'
  module _ (reads : List Named) where
    pub value_lits : known s reads ≡ true → list_all g.truth (numbers_where (is_read reads) 0 set.propositions) ≡ true
    value_lits h = all_where (is_read reads) g.truth set.propositions 0 (λ i x e t. ap g.truth (plus_nothing i) ∙ agrees.truths i x e ∙ by_proposition x t)
      where
        plus_nothing : (i : ℕ) → 0 + i ≡ i
        plus_nothing i = omega arith

        by_proposition : (x : Proposition) → is_read reads x ≡ true → truth_in s x ≡ true
        by_proposition (atom it) t = absurd (cc)
        by_proposition (valued it) t = listed_all (λ k. is_some (value_in s k)) reads it h t

    pub lits_value : are_numbered set reads ≡ true → ((it : Named) → is_listed same set.funcs it ≡ true → is_some (value_in set.start it) ≡ false → is_listed same_proposition set.propositions (valued it) ≡ true)
        → list_all g.truth (numbers_where (is_read reads) 0 set.propositions) ≡ true → known s reads ≡ true
    lits_value n v h = all_listed (λ k. is_some (value_in s k)) reads (λ it l. by_start it l (listed_all (is_listed same set.funcs) reads it n l) (is_some (value_in set.start it)) refl)
      where
        plus_nothing : (i : ℕ) → i ≡ 0 + i
        plus_nothing i = omega arith

        by_start : (it : Named) → is_listed same reads it ≡ true → is_listed same set.funcs it ≡ true → (b : Bool) → is_some (value_in set.start it) ≡ b → is_some (value_in s it) ≡ true
        by_start it l f true e = fits.valued it.symbol it.args e
        by_start it l f false e =
            let x = proposition_number set (valued it) in
            let gets = number_gets same_proposition proposition_sound set.propositions (valued it) (v it f e) in
            sym (agrees.truths x (valued it) gets) ∙ ap g.truth (plus_nothing x) ∙ where_all (is_read reads) g.truth set.propositions 0 x (valued it) h gets l

  -- ---- what needs to hold of the ground action, in parts
  pub ready_is : (leaves : List Leaf) (moves : List Move) → ready (action_from set leaves moves) g
      ≡ ((list_all (λ l. passes (lit_holds g) (literal_row set l)) leaves && list_all g.truth (numbers_where (is_read (all_reads leaves moves)) 0 set.propositions)) && list_all (λ l. passes (cmp_holds g) (comparison_row l)) leaves)
  ready_is leaves moves =
      let lits = filter_map (literal_row set) leaves in
      let numbers = numbers_where (is_read (all_reads leaves moves)) 0 set.propositions in
      let mark : ℕ → ℕ × Bool = λ n. (n, true) in
      ap₂ ◌&&◌ (list_all-append (lit_holds g) (once same_literal lits) (map mark numbers)
      ∙ ap₂ ◌&&◌ (all-once same_literal lit_sound (lit_holds g) lits ∙ all-filter_map (lit_holds g) (literal_row set) leaves) (list_all-map (lit_holds g) mark numbers))
      (all-filter_map (cmp_holds g) comparison_row leaves)

-- ---- static atoms and functions stay
abbrev pub move_target : Setting → Move → Bool
move_target set (puts_atom sign it) = set.changing_pred it.symbol
move_target set (acts it a) = set.changing_func it.symbol

module _ (set : Setting) where
  scaled_target : (it : Named) (p : Part) (f : Fraction → MoveOutcome) → ((x : Fraction) → passes (move_target set) (move_in (f x)) ≡ true) → passes (move_target set) (move_in (scaled p f)) ≡ true
  scaled_target it (constant x) f h = h x
  scaled_target it (linear r l) f h = refl

  down_target : (it : Named) (x : Fraction) (b : Bool) → set.changing_func it.symbol ≡ true → passes (move_target set) (move_in (cond b move_ends (move (acts it (scale_down x))))) ≡ true
  down_target it x true h = refl
  down_target it x false h = h

  act_target : (op : NumOp) (it : Named) (o : Outcome) → set.changing_func it.symbol ≡ true → passes (move_target set) (move_in (moved_by op it o)) ≡ true
  act_target op it ends h = refl
  act_target op it bent h = refl
  act_target Assign it (part p) h = h
  act_target Increase it (part p) h = h
  act_target Decrease it (part p) h = h
  act_target ScaleUp it (part p) h = scaled_target it p (λ x. move (acts it (scale_up x))) (λ x. h)
  act_target ScaleDown it (part p) h = scaled_target it p (λ x. cond (is_zero x) move_ends (move (acts it (scale_down x)))) (λ x. down_target it x (is_zero x) h)

  leaf_target : (args : List ℕ) (e : Effect) → target_changes set e ≡ true → passes (move_target set) (move_in (move_of set args e)) ≡ true
  leaf_target args (effect.Put sign pred terms) h = h
  leaf_target args (effect.Change op func terms by) h = act_target op (named func (objects_of args terms)) (part_of set args by) h

  targets : (args : List ℕ) (es : List Effect) → list_all (target_changes set) es ≡ true → list_all (move_target set) (filter_map move_in (map (move_of set args) es)) ≡ true
  targets args es h = all-filter_map (move_target set) move_in (map (move_of set args) es) ∙ each es h
    where
      each : (es : List Effect) → list_all (target_changes set) es ≡ true → list_all (λ m. passes (move_target set) (move_in m)) (map (move_of set args) es) ≡ true
      each [] h = refl
      each (e ∷ es) h = and_from _ _ (leaf_target args e (and_parts _ _ h).0) (each es (and_parts _ _ h).1)

  and_false : (b : Bool) → (b && false) ≡ false
  and_false true = refl
  and_false false = refl

  differs : (j it : Named) (changes : ℕ → Bool) → changes j.symbol ≡ true → changes it.symbol ≡ false → same j it ≡ false
  differs j it changes h n = by_test (same j it) refl
    where
      by_test : (b : Bool) → same j it ≡ b → b ≡ false
      by_test true e = sym h ∙ ap (λ (t : Named). changes t.symbol) (same_sound j it e) ∙ n
      by_test false e = refl

  not_put : (want : Bool) (it : Named) → set.changing_pred it.symbol ≡ false → (ms : List Move) → list_all (move_target set) ms ≡ true → list_any (puts_it want it) ms ≡ false
  not_put want it n [] h = refl
  not_put want it n (puts_atom sign j ∷ ms) h = ap₂ ◌||◌ (ap (λ t. cond want sign (not sign) && t) (differs j it set.changing_pred (and_parts _ _ h).0 n) ∙ and_false (cond want sign (not sign))) (not_put want it n ms (and_parts _ _ h).1)
  not_put want it n (acts j a ∷ ms) h = not_put want it n ms (and_parts _ _ h).1

  not_changed : (at : ℕ → Fraction) (it : Named) → set.changing_func it.symbol ≡ false → (ms : List Move) → list_all (move_target set) ms ≡ true → (o : Option Fraction) → value_after (map (change_in at) ms) it.symbol it.args o ≡ o
  not_changed at it n [] h o = refl
  not_changed at it n (puts_atom sign j ∷ ms) h o = not_changed at it n ms (and_parts _ _ h).1 o
  not_changed at it n (acts j a ∷ ms) h o =
      ap (λ b. cond b (value_after (map (change_in at) ms) it.symbol it.args (changed_by (op_of a) (act_amount at a) o)) (value_after (map (change_in at) ms) it.symbol it.args o)) (differs j it set.changing_func (and_parts _ _ h).0 n)
      ∙ not_changed at it n ms (and_parts _ _ h).1 o

  or_false : (t : Bool) → (false || (t && not false)) ≡ t
  or_false true = refl
  or_false false = refl

  fits_after : (s t : PlanState) (at : ℕ → Fraction) (ms : List Move) → Fits set s → list_all (move_target set) ms ≡ true
      → ((q : ℕ) (args : List ℕ) → t.truth q args ≡ truth_after (map (change_in at) ms) s.truth q args)
      → ((f : ℕ) (args : List ℕ) → t.value f args ≡ value_after (map (change_in at) ms) f args (s.value f args)) → Fits set t
  fits_after s t at ms fits h truth value = record {
    preds = λ p args n. truth p args ∙ ap₂ (λ x y. x || (s.truth p args && not y)) (puts-any at true p args ms ∙ not_put true (named p args) n ms h) (puts-any at false p args ms ∙ not_put false (named p args) n ms h)
        ∙ or_false (s.truth p args) ∙ fits.preds p args n;
    funcs = λ f args n. value f args ∙ not_changed at (named f args) n ms h (s.value f args) ∙ fits.funcs f args n;
    valued = λ f args e. ap is_some (value f args) ∙ some_behind at (named f args) ms (s.value f args) ∙ ap (λ b. list_any (assigns_it (named f args)) ms || b) (fits.valued f args e) ∙ or_true (list_any (assigns_it (named f args)) ms);
  }
    where
      or_true : (b : Bool) → (b || true) ≡ true
      or_true true = refl
      or_true false = refl

-- ---- the law
-- an instance that has a step is kept
pub step_is_kept : (set : Setting) (a : Action) (args : List ℕ) → is_linear set a args ≡ true → (s : PlanState) (g : State) → Fits set s → Agrees set s g → (t : PlanState) → ActionStep a args s t → is_kept set a args ≡ true
step_is_kept set a args line s g fits agrees t h = let l = and_parts _ _ line in
    and_from _ _ (sym (ap are_clean (shapes s args a.effs h.changes h.values)) ∙ clean_are h.changes h.clean)
    (and_from _ _ (all_may set s g fits agrees args a.conds l.0 h.conditions) (all_move set s g fits agrees args a.effs h.changes l.1 h.values))

module _ (set : Setting) (a : Action) (args : List ℕ) (ok : IsGroundable set a args) (s : PlanState) (g : State) (fits : Fits set s) (agrees : Agrees set s g) where
  -- a step of the instance is one of its ground action
  pub step_grounded : (t : PlanState) → ActionStep a args s t → IsGroundStep set a args g t
  unfolding ground_action
  step_grounded t h =
      let kept = step_is_kept set a args ok.linear s g fits agrees t h in
      let ks = and_parts _ _ (and_parts _ _ kept).1 in
      let ns = and_parts _ _ (ok.numbered kept) in
      let rs = and_parts _ _ (sym (list_all-append (is_listed same set.funcs) (flat_map leaf_reads (leaves_of set a args)) (flat_map move_reads (moves_of set a args))) ∙ ns.0) in
      let ch = changes_are set s g fits agrees args a.effs h.changes ks.1 rs.1 h.values in
      let cs = and_parts _ _ (sym (all_left set s g fits agrees args a.conds ks.0 rs.0 (and_parts _ _ ns.1).0) ∙ h.conditions) in
      let both = and_parts _ _ cs.1 in
      let reads : known s (all_reads (leaves_of set a args) (moves_of set a args)) ≡ true = list_all-append (λ k. is_some (value_in s k)) (flat_map leaf_reads (leaves_of set a args)) (flat_map move_reads (moves_of set a args)) ∙ and_from _ _ cs.0 ch.0 in
      let truth : (q : ℕ) (args' : List ℕ) → t.truth q args' ≡ truth_after (map (change_in g.value) (moves_of set a args)) s.truth q args' = λ q args'. h.truth q args' ∙ ap (λ c. truth_after c s.truth q args') ch.1 in
      let value : (f : ℕ) (args' : List ℕ) → t.value f args' ≡ value_after (map (change_in g.value) (moves_of set a args)) f args' (s.value f args') = λ f args'. h.value f args' ∙ ap (λ c. value_after c f args' (s.value f args')) ch.1 in
      record {
        holds = ready_holds (ground_action set a args) g (ready_is set s g fits agrees (leaves_of set a args) (moves_of set a args) ∙ and_from _ _ (and_from _ _ both.0 (value_lits set s g fits agrees (all_reads (leaves_of set a args) (moves_of set a args)) reads)) both.1);
        agrees = record {
          truths = λ n x e. proposition_after set s g agrees (moves_of set a args) ch.0 n x e t truth value;
          values = λ n it e. func_after set s g agrees (moves_of set a args) ch.0 n it e ∙ ap (λ o. unwrap_or o zero_q) (sym (value it.symbol it.args));
        };
        fits = fits_after set s t g.value (moves_of set a args) fits (targets set args a.effs ok.targets) truth value;
      }

  -- the state after the changes that the ground state gives
  abbrev pub state_after : PlanState
  state_after = record {
    truth = λ q others. truth_after (map (change_in g.value) (moves_of set a args)) s.truth q others;
    value = λ f others. value_after (map (change_in g.value) (moves_of set a args)) f others (s.value f others);
  }

  -- where the ground action of a kept instance has its step, the instance has one
  pub ground_stepped : is_kept set a args ≡ true → ready (ground_action set a args) g ≡ true → ActionStep a args s state_after
  unfolding ground_action
  ground_stepped kept h =
      let ks = and_parts _ _ (and_parts _ _ kept).1 in
      let ns = and_parts _ _ (ok.numbered kept) in
      let rs = and_parts _ _ (sym (list_all-append (is_listed same set.funcs) (flat_map leaf_reads (leaves_of set a args)) (flat_map move_reads (moves_of set a args))) ∙ ns.0) in
      let hs = and_parts _ _ (sym (ready_is set s g fits agrees (leaves_of set a args) (moves_of set a args)) ∙ h) in
      let ls = and_parts _ _ hs.0 in
      let reads = lits_value set s g fits agrees (all_reads (leaves_of set a args) (moves_of set a args)) ns.0 ok.valued ls.1 in
      let known_both = and_parts _ _ (sym (list_all-append (λ k. is_some (value_in s k)) (flat_map leaf_reads (leaves_of set a args)) (flat_map move_reads (moves_of set a args))) ∙ reads) in
      let values = changes_there set s g fits agrees args a.effs ks.1 rs.1 known_both.1 in
      record {
        conditions = all_left set s g fits agrees args a.conds ks.0 rs.0 (and_parts _ _ ns.1).0 ∙ and_from _ _ known_both.0 (and_from _ _ ls.0 hs.1);
        changes = map (change_in g.value) (moves_of set a args);
        values = values;
        clean = are_clean_is (map (change_in g.value) (moves_of set a args)) (ap are_clean (shapes s args a.effs (map (change_in g.value) (moves_of set a args)) values) ∙ (and_parts _ _ kept).0);
        truth = λ q others. refl;
        value = λ f others. refl;
      }
