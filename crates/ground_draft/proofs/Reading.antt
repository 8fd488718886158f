-- The functions without an initial value that an instance reads, and those that it assigns.
use Rattle.std.proofs.Common.{◌≡◌, ℕ, ◌≤◌, Bool, true, false, cond, ◌&&◌, ◌||◌, List, [], ◌∷◌, ◌++◌, map, length, Option, Some, None, refl, sym, ap, ap₂, subst, ◌∙◌, nat_eq, nat_lt, append_assoc}
use Rattle.std.specs.Prelude.{slice_get}
use Rattle.std.specs.List.{list_all, flat_map, filter_map, cons_option}
use Rattle.std.proofs.lemmas.Bool.{and_parts}
use Rattle.std.proofs.lemmas.List.{append-nil}
use Rattle.std.proofs.lemmas.List.Folds.{list_any-append}
use Rattle.rational.specs.Fraction.{Fraction}
use Rattle.lin.specs.Linear.{var}
use Rattle.task_core.specs.Step.{is_in}
use Rattle.pddl_task.specs.declared.condition.Cond.{Cond}
use Rattle.pddl_task.specs.declared.condition.Cond.TheVariants as cond_
use Rattle.pddl_task.specs.declared.condition.Rel.{Rel}
use Rattle.pddl_task.specs.declared.condition.Rel.TheVariants as rel
use Rattle.pddl_task.specs.declared.effect.Effect.{Effect}
use Rattle.pddl_task.specs.declared.effect.Effect.TheVariants as effect
use Rattle.pddl_task.specs.declared.effect.NumOp.{NumOp}
use Rattle.pddl_task.specs.declared.effect.NumOp.TheVariants.{Assign, Increase, Decrease, ScaleUp, ScaleDown}
use Rattle.pddl_task.specs.declared.expression.Expr.{Expr}
use Rattle.pddl_task.specs.declared.expression.Expr.TheOpen.{Expr-F}
use Rattle.plan_step.specs.Meaning.{objects_of}
use Rattle.ground_numbers.specs.declared.named.Named.{Named}
use Rattle.ground_numbers.specs.Numbers.{named, same, is_listed, AreDistinct}
use Rattle.ground_numbers.specs.inside.Same.{same_sound}
use Rattle.ground_action.specs.Setting.{Setting, atom, value_in, func_number, are_numbered}
use Rattle.ground_action.specs.Parts.{Part, constant, linear, Outcome, ends, bent, part, is_zero, with_part, with_parts, added, negated, difference, multiplied, quotient, divided, folded_from, folded, given_part, plus_part, minus_part, part_step, part_of, reads_of}
use Rattle.ground_action.specs.Leaves.{literal, leaf_reads, settled, side_by_side, compared_parts, compared_outcomes, leaf_of, scale_down, Move, puts_atom, acts, MoveOutcome, move_ends, move_bent, move, moved, moved_by, move_of, move_reads}
use Rattle.ground_action.specs.GroundAction as action
use Rattle.ground_action.specs.GroundAction.{assigns_it, move_in, may_move}
use Rattle.ground_action.specs.Work.{is_part, condition_made}
use Rattle.ground_action.proofs.FoldLaws.{fold_related, AreSteps}
use Rattle.ground_draft.specs.Drafts.{is_missing}
use Rattle.ground_draft.specs.inside.Lists.{if_missing, joined, reads_step, expression_reads, condition_reads, is_assign, target_reads, change_reads, assigned_at}
use Rattle.ground_draft.proofs.Places.{number_below, not_below, same_place}

pub flat-append : {A B : Type 0} (f : A → List B) (xs ys : List A) → flat_map f (xs ++ ys) ≡ flat_map f xs ++ flat_map f ys
flat-append f [] ys = refl
flat-append f (x ∷ xs) ys = ap (λ l. f x ++ l) (flat-append f xs ys) ∙ sym (append_assoc (f x) (flat_map f xs) (flat_map f ys))

module _ (set : Setting) where
  abbrev pub missing_of : List Named → List ℕ
  missing_of ks = flat_map (if_missing set) ks

  -- ---- parts
  pub record Reads (o : Outcome) (ns : List ℕ) : Type 0 where
    pub reads : (p : Part) → o ≡ part p → ns ≡ missing_of (reads_of p)

  reads_nothing : (o : Outcome) (ns : List ℕ) → ((p : Part) → o ≡ part p → ⊥) → Reads o ns
  reads_nothing o ns h = record { reads = λ p e. absurd (h p e) }

  reads_ends : (ns : List ℕ) → Reads ends ns
  reads_ends ns = reads_nothing ends ns (λ p e. cc)

  reads_bent : (ns : List ℕ) → Reads bent ns
  reads_bent ns = reads_nothing bent ns (λ p e. cc)

  reads_part : (q : Part) (ns : List ℕ) → ns ≡ missing_of (reads_of q) → Reads (part q) ns
  reads_part q ns h = record { reads = λ p e. let same : q ≡ p = cc in h ∙ ap (λ r. missing_of (reads_of r)) same }

  added_is : (p q : Part) → missing_of (reads_of p) ++ missing_of (reads_of q) ≡ missing_of (reads_of (added p q))
  added_is (constant a) (constant b) = refl
  added_is (constant a) (linear r l) = refl
  added_is (linear r l) (constant b) = append-nil (missing_of r)
  added_is (linear r l) (linear q m) = sym (flat-append (if_missing set) r q)

  negated_is : (p : Part) → missing_of (reads_of p) ≡ missing_of (reads_of (negated p))
  negated_is (constant a) = refl
  negated_is (linear r l) = refl

  quotient_is : (p : Part) (c : Fraction) → missing_of (reads_of p) ≡ missing_of (reads_of (quotient p c))
  quotient_is (constant a) c = refl
  quotient_is (linear r l) c = refl

  difference_is : (p q : Part) → missing_of (reads_of p) ++ missing_of (reads_of q) ≡ missing_of (reads_of (difference p q))
  difference_is p q = ap (λ l. missing_of (reads_of p) ++ l) (negated_is q) ∙ added_is p (negated q)

  plus_reads : (p q : Part) → Reads (plus_part p q) (missing_of (reads_of p) ++ missing_of (reads_of q))
  plus_reads p q = reads_part (added p q) _ (added_is p q)

  minus_reads : (p q : Part) → Reads (minus_part p q) (missing_of (reads_of p) ++ missing_of (reads_of q))
  minus_reads p q = reads_part (difference p q) _ (difference_is p q)

  times_reads : (p q : Part) → Reads (multiplied p q) (missing_of (reads_of p) ++ missing_of (reads_of q))
  times_reads (constant a) (constant b) = reads_part _ _ refl
  times_reads (constant a) (linear r l) = reads_part _ _ refl
  times_reads (linear r l) (constant b) = reads_part _ _ (append-nil (missing_of r))
  times_reads (linear r l) (linear q m) = reads_bent _

  over_reads : (p q : Part) → Reads (divided p q) (missing_of (reads_of p) ++ missing_of (reads_of q))
  over_reads p (linear q m) = reads_bent _
  over_reads p (constant c) = by (is_zero c)
    where
      by : (b : Bool) → Reads (cond b ends (part (quotient p c))) (missing_of (reads_of p) ++ [])
      by true = reads_ends _
      by false = reads_part (quotient p c) _ (append-nil (missing_of (reads_of p)) ∙ quotient_is p c)

  both_read : (f : Part → Part → Outcome) → ((p q : Part) → Reads (f p q) (missing_of (reads_of p) ++ missing_of (reads_of q))) → (a b : Outcome) (m n : List ℕ) → Reads a m → Reads b n → Reads (with_parts f a b) (m ++ n)
  both_read f each ends b m n h i = reads_ends _
  both_read f each bent b m n h i = reads_bent _
  both_read f each (part p) ends m n h i = reads_ends _
  both_read f each (part p) bent m n h i = reads_bent _
  both_read f each (part p) (part q) m n h i =
      let P : List ℕ → Type 0 = λ l. Reads (f p q) l in
      subst P (sym (ap₂ ◌++◌ (h.reads p refl) (i.reads q refl))) (each p q)

  module _ {E : Type 0} (f : Part → Part → Outcome) (each : (p q : Part) → Reads (f p q) (missing_of (reads_of p) ++ missing_of (reads_of q))) (o : E → Outcome) (names : E → List ℕ) where
    folded_reads_from : (a : Outcome) (m : List ℕ) (parts : List ((e : E) × Reads (o e) (names e))) → Reads a m → Reads (folded_from f a (map o (map (λ p. p.0) parts))) (m ++ joined (map names (map (λ p. p.0) parts)))
    folded_reads_from a m [] h = let P : List ℕ → Type 0 = λ l. Reads a l in subst P (sym (append-nil m)) h
    folded_reads_from a m (p ∷ parts) h =
        subst (λ l. Reads (folded_from f (with_parts f a (o p.0)) (map o (map (λ p. p.0) parts))) l) (append_assoc m (names p.0) (joined (map names (map (λ p. p.0) parts))))
        (folded_reads_from (with_parts f a (o p.0)) (m ++ names p.0) parts (both_read f each a (o p.0) m (names p.0) h p.1))

    folded_reads : (unit : Fraction) (parts : List ((e : E) × Reads (o e) (names e))) → Reads (folded f unit (map o (map (λ p. p.0) parts))) (joined (map names (map (λ p. p.0) parts)))
    folded_reads unit [] = reads_part (constant unit) [] refl
    folded_reads unit (p ∷ parts) = folded_reads_from (o p.0) (names p.0) parts p.1

  negative_reads : (o : Outcome) (ns : List ℕ) → Reads o ns → Reads (with_part (λ p. part (negated p)) o) ns
  negative_reads ends ns h = reads_ends ns
  negative_reads bent ns h = reads_bent ns
  negative_reads (part p) ns h = reads_part (negated p) ns (h.reads p refl ∙ negated_is p)

  given_reads : (o : Option Fraction) → Reads (given_part o) []
  given_reads None = reads_ends []
  given_reads (Some x) = reads_part (constant x) [] refl

  called_reads : (k : Named) (b : Bool) → Reads (cond b (part (linear (k ∷ []) (var (func_number set k)))) (given_part (value_in set.start k))) (cond b (if_missing set k) [])
  called_reads k true = reads_part _ _ (sym (append-nil (if_missing set k)))
  called_reads k false = given_reads (value_in set.start k)

  module _ (args : List ℕ) where
    read_steps : AreSteps (part_step set args) (reads_step set args) Reads
    read_steps (Expr-F.Num n) = reads_part (constant n) [] refl
    read_steps (Expr-F.Call func terms) = called_reads (named func (objects_of args terms)) (set.changing_func func)
    read_steps (Expr-F.Add parts) = folded_reads plus_part plus_reads _ _ _ parts
    read_steps (Expr-F.Mul parts) = folded_reads multiplied times_reads _ _ _ parts
    read_steps (Expr-F.Neg a) = negative_reads _ _ a.1
    read_steps (Expr-F.Sub a b) = both_read minus_part minus_reads _ _ _ _ a.1 b.1
    read_steps (Expr-F.Div a b) = both_read divided over_reads _ _ _ _ a.1 b.1

    pub reads_are : (e : Expr) → Reads (part_of set args e) (expression_reads set args e)
    unfolding part_of expression_reads
    reads_are = fold_related (part_step set args) (reads_step set args) Reads read_steps

    -- ---- conditions
    abbrev pub SameIn : List ℕ → List ℕ → Type 0
    SameIn xs ys = (i : ℕ) → is_in i xs ≡ is_in i ys

    pub in_append : (i : ℕ) (xs ys : List ℕ) → is_in i (xs ++ ys) ≡ (is_in i xs || is_in i ys)
    in_append i xs ys = list_any-append (λ m. nat_eq m i) xs ys

    or_comm : (a b : Bool) → (a || b) ≡ (b || a)
    or_comm true true = refl
    or_comm true false = refl
    or_comm false true = refl
    or_comm false false = refl

    turned : (xs ys : List ℕ) → SameIn (xs ++ ys) (ys ++ xs)
    turned xs ys i = in_append i xs ys ∙ or_comm (is_in i xs) (is_in i ys) ∙ sym (in_append i ys xs)

    sides_read : (r : Rel) (p q : Part) → SameIn (missing_of (reads_of p) ++ missing_of (reads_of q)) (missing_of (reads_of (side_by_side r p q)))
    sides_read rel.Lt p q i = ap (is_in i) (difference_is p q)
    sides_read rel.Le p q i = ap (is_in i) (difference_is p q)
    sides_read rel.Eq p q i = ap (is_in i) (difference_is p q)
    sides_read rel.Ge p q i = turned (missing_of (reads_of p)) (missing_of (reads_of q)) i ∙ ap (is_in i) (difference_is q p)
    sides_read rel.Gt p q i = turned (missing_of (reads_of p)) (missing_of (reads_of q)) i ∙ ap (is_in i) (difference_is q p)

    settled_reads : (b : Bool) → [] ≡ missing_of (leaf_reads (settled b))
    settled_reads true = refl
    settled_reads false = refl

    pub compared_read : (r : Rel) (p q : Part) → SameIn (missing_of (reads_of p) ++ missing_of (reads_of q)) (missing_of (leaf_reads (compared_parts r p q)))
    compared_read r (constant a) (constant b) i = ap (is_in i) (settled_reads _)
    compared_read r (constant a) (linear s m) i = sides_read r (constant a) (linear s m) i
    compared_read r (linear s l) q i = sides_read r (linear s l) q i

    outcomes_read : (r : Rel) (a b : Outcome) (m n : List ℕ) → Reads a m → Reads b n → (is_part a && is_part b) ≡ true → SameIn (m ++ n) (missing_of (leaf_reads (compared_outcomes r a b)))
    outcomes_read r ends b m n h g t i = absurd (cc)
    outcomes_read r bent b m n h g t i = absurd (cc)
    outcomes_read r (part p) ends m n h g t i = absurd (cc)
    outcomes_read r (part p) bent m n h g t i = absurd (cc)
    outcomes_read r (part p) (part q) m n h g t i = ap (is_in i) (ap₂ ◌++◌ (h.reads p refl) (g.reads q refl)) ∙ compared_read r p q i

    atom_reads : (b sign c : Bool) (k : Named) → [] ≡ missing_of (leaf_reads (cond b (literal (atom k) sign) (settled c)))
    atom_reads true sign c k = refl
    atom_reads false sign c k = settled_reads c

    pub condition_read : (c : Cond) → condition_made set args c ≡ true → SameIn (condition_reads set args c) (missing_of (leaf_reads (leaf_of set args c)))
    condition_read (cond_.Lit sign pred terms) h i = ap (is_in i) (atom_reads (set.changing_pred pred) sign _ (named pred (objects_of args terms)))
    condition_read (cond_.Same sign left right) h i = ap (is_in i) (settled_reads _)
    condition_read (cond_.Compare r left right) h i = outcomes_read r (part_of set args left) (part_of set args right) _ _ (reads_are left) (reads_are right) h i

    pub conditions_read : (cs : List Cond) → list_all (condition_made set args) cs ≡ true → SameIn (flat_map (condition_reads set args) cs) (missing_of (flat_map leaf_reads (map (leaf_of set args) cs)))
    conditions_read [] h i = refl
    conditions_read (c ∷ cs) h i =
        let hs = and_parts (condition_made set args c) (list_all (condition_made set args) cs) h in
        in_append i (condition_reads set args c) (flat_map (condition_reads set args) cs) ∙ ap₂ ◌||◌ (condition_read c hs.0 i) (conditions_read cs hs.1 i)
        ∙ sym (ap (is_in i) (flat-append (if_missing set) (leaf_reads (leaf_of set args c)) (flat_map leaf_reads (map (leaf_of set args) cs)))
        ∙ in_append i (missing_of (leaf_reads (leaf_of set args c))) (missing_of (flat_map leaf_reads (map (leaf_of set args) cs))))

    -- ---- effects
    abbrev outcome_reads : MoveOutcome → List Named
    outcome_reads move_ends = []
    outcome_reads move_bent = []
    outcome_reads (move m) = move_reads m

    own_read : (k : Named) (ns : List ℕ) → ns ≡ [] → if_missing set k ++ ns ≡ missing_of (k ∷ [])
    own_read k ns e = ap (λ l. if_missing set k ++ l) e

    moved_read : (op : NumOp) (k : Named) (p : Part) (ns : List ℕ) → ns ≡ missing_of (reads_of p) → may_move (moved op k p) ≡ true → target_reads set op k ++ ns ≡ missing_of (outcome_reads (moved op k p))
    moved_read Assign k p ns e h = e
    moved_read Increase k p ns e h = ap (λ l. if_missing set k ++ l) e
    moved_read Decrease k p ns e h = ap (λ l. if_missing set k ++ l) e
    moved_read ScaleUp k (constant a) ns e h = own_read k ns e
    moved_read ScaleUp k (linear r l) ns e h = absurd (cc)
    moved_read ScaleDown k (constant a) ns e h = by (is_zero a) h
      where
        by : (b : Bool) → may_move (cond b move_ends (move (acts k (scale_down a)))) ≡ true → if_missing set k ++ ns ≡ missing_of (outcome_reads (cond b move_ends (move (acts k (scale_down a)))))
        by true g = absurd (cc)
        by false g = own_read k ns e
    moved_read ScaleDown k (linear r l) ns e h = absurd (cc)

    moved_by_read : (op : NumOp) (k : Named) (o : Outcome) (ns : List ℕ) → Reads o ns → may_move (moved_by op k o) ≡ true → target_reads set op k ++ ns ≡ missing_of (outcome_reads (moved_by op k o))
    moved_by_read op k ends ns r h = absurd (cc)
    moved_by_read op k bent ns r h = absurd (cc)
    moved_by_read op k (part p) ns r h = moved_read op k p ns (r.reads p refl) h

    effect_read : (e : Effect) → may_move (move_of set args e) ≡ true → change_reads set args e ≡ missing_of (outcome_reads (move_of set args e))
    effect_read (effect.Put sign pred terms) h = refl
    effect_read (effect.Change op func terms by) h = moved_by_read op (named func (objects_of args terms)) (part_of set args by) _ (reads_are by) h

    pub effects_read : (es : List Effect) → list_all may_move (map (move_of set args) es) ≡ true
        → flat_map (change_reads set args) es ≡ missing_of (flat_map move_reads (filter_map move_in (map (move_of set args) es)))
    effects_read [] h = refl
    effects_read (e ∷ es) h =
        let hs = and_parts (may_move (move_of set args e)) (list_all may_move (map (move_of set args) es)) h in
        ap₂ ◌++◌ (effect_read e hs.0) (effects_read es hs.1) ∙ by_move (move_of set args e) hs.0
      where
        rest : List Move
        rest = filter_map move_in (map (move_of set args) es)

        by_move : (m : MoveOutcome) → may_move m ≡ true → missing_of (outcome_reads m) ++ missing_of (flat_map move_reads rest) ≡ missing_of (flat_map move_reads (cons_option (move_in m) rest))
        by_move move_ends g = absurd (cc)
        by_move move_bent g = absurd (cc)
        by_move (move m) g = sym (flat-append (if_missing set) (move_reads m) (flat_map move_reads rest))

    -- ---- assigned functions
    abbrev pub assigned_name : Move → List Named
    assigned_name (puts_atom sign k) = []
    assigned_name (acts k a) = cond (action.is_assign a) (k ∷ []) []

    abbrev outcome_assigns : MoveOutcome → List Named
    outcome_assigns move_ends = []
    outcome_assigns move_bent = []
    outcome_assigns (move m) = assigned_name m

    moved_assigned : (op : NumOp) (k : Named) (o : Outcome) → may_move (moved_by op k o) ≡ true → cond (is_assign op) (if_missing set k) [] ≡ missing_of (outcome_assigns (moved_by op k o))
    moved_assigned op k ends h = absurd (cc)
    moved_assigned op k bent h = absurd (cc)
    moved_assigned Assign k (part p) h = sym (append-nil (if_missing set k))
    moved_assigned Increase k (part p) h = refl
    moved_assigned Decrease k (part p) h = refl
    moved_assigned ScaleUp k (part (constant a)) h = refl
    moved_assigned ScaleUp k (part (linear r l)) h = absurd (cc)
    moved_assigned ScaleDown k (part (constant a)) h = by (is_zero a) h
      where
        by : (b : Bool) → may_move (cond b move_ends (move (acts k (scale_down a)))) ≡ true → [] ≡ missing_of (outcome_assigns (cond b move_ends (move (acts k (scale_down a)))))
        by true g = absurd (cc)
        by false g = refl
    moved_assigned ScaleDown k (part (linear r l)) h = absurd (cc)

    effect_assigned : (e : Effect) → may_move (move_of set args e) ≡ true → assigned_at set args e ≡ missing_of (outcome_assigns (move_of set args e))
    effect_assigned (effect.Put sign pred terms) h = refl
    effect_assigned (effect.Change op func terms by) h = moved_assigned op (named func (objects_of args terms)) (part_of set args by) h

    pub effects_assigned : (es : List Effect) → list_all may_move (map (move_of set args) es) ≡ true
        → flat_map (assigned_at set args) es ≡ missing_of (flat_map assigned_name (filter_map move_in (map (move_of set args) es)))
    effects_assigned [] h = refl
    effects_assigned (e ∷ es) h =
        let hs = and_parts (may_move (move_of set args e)) (list_all may_move (map (move_of set args) es)) h in
        ap₂ ◌++◌ (effect_assigned e hs.0) (effects_assigned es hs.1) ∙ by_move (move_of set args e) hs.0
      where
        rest : List Move
        rest = filter_map move_in (map (move_of set args) es)

        by_move : (m : MoveOutcome) → may_move m ≡ true → missing_of (outcome_assigns m) ++ missing_of (flat_map assigned_name rest) ≡ missing_of (flat_map assigned_name (cons_option (move_in m) rest))
        by_move move_ends g = absurd (cc)
        by_move move_bent g = absurd (cc)
        by_move (move m) g = sym (flat-append (if_missing set) (assigned_name m) (flat_map assigned_name rest))

  -- ---- which numbers these are
  module _ (distinct : AreDistinct set.funcs) where
    pub missing_in : (ks : List Named) → are_numbered set ks ≡ true → (i : ℕ) (k : Named) → slice_get set.funcs i ≡ Some k → is_in i (missing_of ks) ≡ (is_missing set k && is_listed same ks k)
    missing_in [] h i k e = and_false (is_missing set k)
      where
        and_false : (b : Bool) → false ≡ (b && false)
        and_false true = refl
        and_false false = refl
    missing_in (j ∷ ks) h i k e =
        let hs = and_parts (is_listed same set.funcs j) (are_numbered set ks) h in
        list_any-append (λ m. nat_eq m i) (if_missing set j) (missing_of ks) ∙ ap₂ ◌||◌ (one hs.0) (missing_in ks hs.1 i k e) ∙ spread (is_missing set k) (same j k) (is_listed same ks k)
      where
        spread : (a b c : Bool) → ((a && b) || (a && c)) ≡ (a && (b || c))
        spread true b c = refl
        spread false b c = refl

        in_one : (b : Bool) (n : ℕ) → is_in i (cond b (n ∷ []) []) ≡ (b && nat_eq n i)
        in_one true n = or_none (nat_eq n i)
          where
            or_none : (b : Bool) → (b || false) ≡ b
            or_none true = refl
            or_none false = refl
        in_one false n = refl

        by_same : (b : Bool) → same j k ≡ b → (is_missing set j && b) ≡ (is_missing set k && b)
        by_same true t = ap (λ l. is_missing set l && true) (same_sound j k t)
        by_same false t = none (is_missing set j) ∙ sym (none (is_missing set k))
          where
            none : (b : Bool) → (b && false) ≡ false
            none true = refl
            none false = refl

        one : is_listed same set.funcs j ≡ true → is_in i (if_missing set j) ≡ (is_missing set k && same j k)
        one l = in_one (is_missing set j) (func_number set j) ∙ ap (λ b. is_missing set j && b) (same_place set.funcs distinct i k j e l) ∙ by_same (same j k) refl

  missing_below : (ks : List Named) → are_numbered set ks ≡ true → list_all (λ m. nat_lt m (length set.funcs)) (missing_of ks) ≡ true
  missing_below [] h = refl
  missing_below (j ∷ ks) h =
      let hs = and_parts (is_listed same set.funcs j) (are_numbered set ks) h in
      by_missing (is_missing set j) (number_below same set.funcs j hs.0) (missing_below ks hs.1)
    where
      by_missing : (b : Bool) → nat_lt (func_number set j) (length set.funcs) ≡ true → list_all (λ m. nat_lt m (length set.funcs)) (missing_of ks) ≡ true → list_all (λ m. nat_lt m (length set.funcs)) (cond b (func_number set j ∷ []) [] ++ missing_of ks) ≡ true
      by_missing true l r = ap₂ ◌&&◌ l r
      by_missing false l r = r

  pub missing_above : (ks : List Named) → are_numbered set ks ≡ true → (k : ℕ) → length set.funcs ≤ k → is_in k (missing_of ks) ≡ false
  missing_above ks h k l = not_below (missing_of ks) (length set.funcs) k (missing_below ks h) l
