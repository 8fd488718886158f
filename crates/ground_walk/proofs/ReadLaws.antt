-- What the parts, the leaves and the moves of an instance read is named by its expressions.
use Rattle.std.proofs.Common.{◌≡◌, ℕ, Bool, true, false, cond, List, [], ◌∷◌, ◌++◌, map, Option, Some, None, refl, sym, ap, subst, ◌∙◌, append_assoc}
use Rattle.std.specs.List.{list_all, flat_map, filter_map, cons_option}
use Rattle.rational.specs.Fraction.{Fraction}
use Rattle.pddl_task.specs.declared.condition.Cond.{Cond}
use Rattle.pddl_task.specs.declared.condition.Cond.TheVariants as cond_
use Rattle.pddl_task.specs.declared.condition.Rel.{Rel}
use Rattle.pddl_task.specs.declared.condition.Rel.TheVariants as rel
use Rattle.pddl_task.specs.declared.effect.Effect.{Effect}
use Rattle.pddl_task.specs.declared.effect.Effect.TheVariants as effect
use Rattle.pddl_task.specs.declared.effect.NumOp.{NumOp}
use Rattle.pddl_task.specs.declared.effect.NumOp.TheVariants.{Assign, Increase, Decrease, ScaleUp, ScaleDown}
use Rattle.pddl_task.specs.declared.expression.Expr.{Expr}
use Rattle.pddl_task.specs.declared.expression.Expr.TheOpen.{Expr-F}
use Rattle.pddl_task.specs.declared.expression.Expr.TheFolds.{fold-Expr}
use Rattle.pddl_task.specs.declared.parts.TaskParts.{TaskParts}
use Rattle.lin.specs.Linear.{var}
use Rattle.plan_step.specs.Meaning.{objects_of, signed}
use Rattle.ground_numbers.specs.declared.named.Named.{Named}
use Rattle.ground_numbers.specs.Numbers.{named}
use Rattle.ground_action.specs.Setting.{Setting, atom, setting_of, value_in, func_number}
use Rattle.ground_action.specs.Parts.{Part, constant, linear, Outcome, ends, bent, part, is_zero, with_part, with_parts, added, negated, difference, multiplied, quotient, divided, folded_from, folded, given_part, call_part, plus_part, minus_part, part_step, part_of, reads_of}
use Rattle.ground_action.specs.Leaves.{Leaf, fails, unclear, nothing, literal, compared, leaf_reads, settled, side_by_side as sides, comparison_of, compared_part, compared_parts, compared_outcomes, atom_leaf, leaf_of, Act, scale_up, scale_down, Move, acts, MoveOutcome, move_ends, move_bent, move, scaled, moved, moved_by, move_of, move_reads}
use Rattle.ground_action.specs.GroundAction.{move_in, goal_leaf}
use Rattle.ground_action.proofs.FoldLaws.{fold_related, AreSteps}
use Rattle.ground_walk.specs.Sightings.{joined, names_step, names_of, cond_funcs, effect_funcs}
use Rattle.ground_walk.proofs.Within.{Within, itself, nothing_within, through, in_front, in_back, side_by_side, turned}

-- ---- parts
pub record Reads (o : Outcome) (names : List Named) : Type 0 where
  pub reads : (p : Part) → o ≡ part p → Within (reads_of p) names

reads_nothing : (o : Outcome) (names : List Named) → ((p : Part) → o ≡ part p → ⊥) → Reads o names
reads_nothing o names h = record { reads = λ p e. absurd (h p e) }

reads_ends : (names : List Named) → Reads ends names
reads_ends names = reads_nothing ends names (λ p e. cc)

reads_bent : (names : List Named) → Reads bent names
reads_bent names = reads_nothing bent names (λ p e. cc)

reads_part : (q : Part) (names : List Named) → Within (reads_of q) names → Reads (part q) names
reads_part q names h = record { reads = λ p e. let same : q ≡ p = cc in subst (λ r. Within (reads_of r) names) same h }

reads_more : (o : Outcome) (names more : List Named) → Within names more → Reads o names → Reads o more
reads_more o names more h r = record { reads = λ p e. through (reads_of p) names more (r.reads p e) h }

added_within : (p q : Part) → Within (reads_of (added p q)) (reads_of p ++ reads_of q)
added_within (constant a) (constant b) = nothing_within []
added_within (constant a) (linear r l) = itself r
added_within (linear r l) (constant b) = in_front r []
added_within (linear r l) (linear q m) = itself (r ++ q)

negated_within : (p : Part) → Within (reads_of (negated p)) (reads_of p)
negated_within (constant a) = nothing_within []
negated_within (linear r l) = itself r

quotient_within : (p : Part) (c : Fraction) → Within (reads_of (quotient p c)) (reads_of p)
quotient_within (constant a) c = nothing_within []
quotient_within (linear r l) c = itself r

difference_within : (p q : Part) → Within (reads_of (difference p q)) (reads_of p ++ reads_of q)
difference_within p q = through _ _ _ (added_within p (negated q)) (side_by_side (reads_of p) (reads_of (negated q)) (reads_of p) (reads_of q) (itself (reads_of p)) (negated_within q))

plus_reads : (p q : Part) → Reads (plus_part p q) (reads_of p ++ reads_of q)
plus_reads p q = reads_part (added p q) _ (added_within p q)

minus_reads : (p q : Part) → Reads (minus_part p q) (reads_of p ++ reads_of q)
minus_reads p q = reads_part (difference p q) _ (difference_within p q)

times_reads : (p q : Part) → Reads (multiplied p q) (reads_of p ++ reads_of q)
times_reads (constant a) (constant b) = reads_part _ _ (nothing_within [])
times_reads (constant a) (linear r l) = reads_part _ _ (itself r)
times_reads (linear r l) (constant b) = reads_part _ _ (in_front r [])
times_reads (linear r l) (linear q m) = reads_bent _

over_reads : (p q : Part) → Reads (divided p q) (reads_of p ++ reads_of q)
over_reads p (linear q m) = reads_bent _
over_reads p (constant c) = by (is_zero c)
  where
    by : (b : Bool) → Reads (cond b ends (part (quotient p c))) (reads_of p ++ [])
    by true = reads_ends _
    by false = reads_part (quotient p c) _ (through _ _ _ (quotient_within p c) (in_front (reads_of p) []))

both_read : (f : Part → Part → Outcome) → ((p q : Part) → Reads (f p q) (reads_of p ++ reads_of q)) → (a b : Outcome) (m n : List Named) → Reads a m → Reads b n → Reads (with_parts f a b) (m ++ n)
both_read f each ends b m n h i = reads_ends _
both_read f each bent b m n h i = reads_bent _
both_read f each (part p) ends m n h i = reads_ends _
both_read f each (part p) bent m n h i = reads_bent _
both_read f each (part p) (part q) m n h i = reads_more (f p q) _ _ (side_by_side (reads_of p) (reads_of q) m n (h.reads p refl) (i.reads q refl)) (each p q)

module _ {E : Type 0} (f : Part → Part → Outcome) (each : (p q : Part) → Reads (f p q) (reads_of p ++ reads_of q)) (o : E → Outcome) (names : E → List Named) where
  folded_reads_from : (a : Outcome) (m : List Named) (parts : List ((e : E) × Reads (o e) (names e))) → Reads a m → Reads (folded_from f a (map o (map (λ p. p.0) parts))) (m ++ joined (map names (map (λ p. p.0) parts)))
  folded_reads_from a m [] h = reads_more a m (m ++ []) (in_front m []) h
  folded_reads_from a m (p ∷ parts) h =
      subst (λ l. Reads (folded_from f (with_parts f a (o p.0)) (map o (map (λ p. p.0) parts))) l) (append_assoc m (names p.0) (joined (map names (map (λ p. p.0) parts))))
      (folded_reads_from (with_parts f a (o p.0)) (m ++ names p.0) parts (both_read f each a (o p.0) m (names p.0) h p.1))

  folded_reads : (unit : Fraction) (parts : List ((e : E) × Reads (o e) (names e))) → Reads (folded f unit (map o (map (λ p. p.0) parts))) (joined (map names (map (λ p. p.0) parts)))
  folded_reads unit [] = reads_part (constant unit) [] (nothing_within [])
  folded_reads unit (p ∷ parts) = folded_reads_from (o p.0) (names p.0) parts p.1

negative_reads : (o : Outcome) (names : List Named) → Reads o names → Reads (with_part (λ p. part (negated p)) o) names
negative_reads ends names h = reads_ends names
negative_reads bent names h = reads_bent names
negative_reads (part p) names h = reads_part (negated p) names (through _ _ _ (negated_within p) (h.reads p refl))

given_reads : (o : Option Fraction) (names : List Named) → Reads (given_part o) names
given_reads None names = reads_ends names
given_reads (Some x) names = reads_part (constant x) names (nothing_within names)

module _ (task : TaskParts) (atoms funcs : List Named) (args : List ℕ) where
  abbrev set : Setting
  set = setting_of task atoms funcs

  called_reads : (k : Named) (b : Bool) → Reads (cond b (part (linear (k ∷ []) (var (func_number set k)))) (given_part (value_in set.start k))) (cond b (k ∷ []) [])
  called_reads k true = reads_part _ _ (itself (k ∷ []))
  called_reads k false = given_reads (value_in set.start k) []

  read_steps : AreSteps (part_step set args) (names_step task args) Reads
  read_steps (Expr-F.Num n) = reads_part (constant n) [] (nothing_within [])
  read_steps (Expr-F.Call func terms) = called_reads (named func (objects_of args terms)) (set.changing_func func)
  read_steps (Expr-F.Add parts) = folded_reads plus_part plus_reads _ _ _ parts
  read_steps (Expr-F.Mul parts) = folded_reads multiplied times_reads _ _ _ parts
  read_steps (Expr-F.Neg a) = negative_reads _ _ a.1
  read_steps (Expr-F.Sub a b) = both_read minus_part minus_reads _ _ _ _ a.1 b.1
  read_steps (Expr-F.Div a b) = both_read divided over_reads _ _ _ _ a.1 b.1

  reads_are : (e : Expr) → Reads (part_of set args e) (names_of task args e)
  unfolding part_of names_of
  reads_are = fold_related (part_step set args) (names_step task args) Reads read_steps

  -- ---- leaves
  settled_within : (b : Bool) (ys : List Named) → Within (leaf_reads (settled b)) ys
  settled_within true ys = nothing_within ys
  settled_within false ys = nothing_within ys

  sides_within : (r : Rel) (p q : Part) → Within (reads_of (sides r p q)) (reads_of p ++ reads_of q)
  sides_within rel.Lt p q = difference_within p q
  sides_within rel.Le p q = difference_within p q
  sides_within rel.Eq p q = difference_within p q
  sides_within rel.Ge p q = through _ _ _ (difference_within q p) (turned (reads_of p) (reads_of q) (reads_of p) (reads_of q) (itself (reads_of p)) (itself (reads_of q)))
  sides_within rel.Gt p q = through _ _ _ (difference_within q p) (turned (reads_of p) (reads_of q) (reads_of p) (reads_of q) (itself (reads_of p)) (itself (reads_of q)))

  compared_within : (r : Rel) (p q : Part) → Within (leaf_reads (compared_parts r p q)) (reads_of p ++ reads_of q)
  compared_within r (constant a) (constant b) = settled_within _ []
  compared_within r (constant a) (linear q m) = sides_within r (constant a) (linear q m)
  compared_within r (linear p l) q = sides_within r (linear p l) q

  outcomes_within : (r : Rel) (a b : Outcome) (m n : List Named) → Reads a m → Reads b n → Within (leaf_reads (compared_outcomes r a b)) (m ++ n)
  outcomes_within r ends b m n h i = nothing_within _
  outcomes_within r bent b m n h i = nothing_within _
  outcomes_within r (part p) ends m n h i = nothing_within _
  outcomes_within r (part p) bent m n h i = nothing_within _
  outcomes_within r (part p) (part q) m n h i = through _ _ _ (compared_within r p q) (side_by_side (reads_of p) (reads_of q) m n (h.reads p refl) (i.reads q refl))

  atom_within : (sign : Bool) (k : Named) → Within (leaf_reads (atom_leaf set sign k)) []
  atom_within sign k = by (set.changing_pred k.symbol)
    where
      by : (b : Bool) → Within (leaf_reads (cond b (literal (atom k) sign) (settled (signed sign (set.start.truth k.symbol k.args))))) []
      by true = nothing_within []
      by false = settled_within _ []

  leaf_within : (c : Cond) → Within (leaf_reads (leaf_of set args c)) (cond_funcs task args c)
  leaf_within (cond_.Lit sign pred terms) = atom_within sign (named pred (objects_of args terms))
  leaf_within (cond_.Same sign left right) = settled_within _ []
  leaf_within (cond_.Compare r left right) = outcomes_within r _ _ _ _ (reads_are left) (reads_are right)

  pub leaves_within : (cs : List Cond) → Within (flat_map leaf_reads (map (leaf_of set args) cs)) (flat_map (cond_funcs task args) cs)
  leaves_within [] = itself []
  leaves_within (c ∷ cs) = side_by_side _ _ _ _ (leaf_within c) (leaves_within cs)

  goal_reads : (l : Leaf) (ys : List Named) → Within (leaf_reads l) ys → Within (leaf_reads (goal_leaf l)) ys
  goal_reads fails ys h = nothing_within ys
  goal_reads unclear ys h = h
  goal_reads nothing ys h = h
  goal_reads (literal x sign) ys h = h
  goal_reads (compared r l c) ys h = h

  pub goal_within : (cs : List Cond) → Within (flat_map leaf_reads (map (λ c. goal_leaf (leaf_of set args c)) cs)) (flat_map (cond_funcs task args) cs)
  goal_within [] = itself []
  goal_within (c ∷ cs) = side_by_side _ _ _ _ (goal_reads (leaf_of set args c) _ (leaf_within c)) (goal_within cs)

  -- ---- moves
  abbrev outcome_reads : MoveOutcome → List Named
  outcome_reads move_ends = []
  outcome_reads move_bent = []
  outcome_reads (move m) = move_reads m

  scaled_reads : (k : Named) (p : Part) (f : Fraction → MoveOutcome) → ((a : Fraction) → Within (outcome_reads (f a)) (k ∷ [])) → (ys : List Named) → Within (outcome_reads (scaled p f)) (k ∷ ys)
  scaled_reads k (constant a) f h ys = through _ _ _ (h a) (in_front (k ∷ []) ys)
  scaled_reads k (linear r l) f h ys = nothing_within _

  down_reads : (k : Named) (a : Fraction) (b : Bool) → Within (outcome_reads (cond b move_ends (move (acts k (scale_down a))))) (k ∷ [])
  down_reads k a true = nothing_within _
  down_reads k a false = itself _

  moved_reads : (op : NumOp) (k : Named) (p : Part) → Within (outcome_reads (moved op k p)) (k ∷ reads_of p)
  moved_reads Assign k p = in_back (k ∷ []) (reads_of p)
  moved_reads Increase k p = itself _
  moved_reads Decrease k p = itself _
  moved_reads ScaleUp k p = scaled_reads k p _ (λ a. itself _) (reads_of p)
  moved_reads ScaleDown k p = scaled_reads k p _ (λ a. down_reads k a (is_zero a)) (reads_of p)

  moved_by_reads : (op : NumOp) (k : Named) (o : Outcome) (names : List Named) → Reads o names → Within (outcome_reads (moved_by op k o)) (k ∷ names)
  moved_by_reads op k ends names h = nothing_within _
  moved_by_reads op k bent names h = nothing_within _
  moved_by_reads op k (part p) names h = through _ _ _ (moved_reads op k p) (side_by_side (k ∷ []) (reads_of p) (k ∷ []) names (itself (k ∷ [])) (h.reads p refl))

  move_within : (e : Effect) → Within (outcome_reads (move_of set args e)) (effect_funcs task args e)
  move_within (effect.Put sign pred terms) = nothing_within _
  move_within (effect.Change op func terms by) = moved_by_reads op (named func (objects_of args terms)) _ _ (reads_are by)

  pub moves_within : (es : List Effect) → Within (flat_map move_reads (filter_map move_in (map (move_of set args) es))) (flat_map (effect_funcs task args) es)
  moves_within [] = itself []
  moves_within (e ∷ es) = by_move (move_of set args e) (move_within e) (moves_within es)
    where
      by_move : (m : MoveOutcome) → Within (outcome_reads m) (effect_funcs task args e) → Within (flat_map move_reads (filter_map move_in (map (move_of set args) es))) (flat_map (effect_funcs task args) es)
          → Within (flat_map move_reads (cons_option (move_in m) (filter_map move_in (map (move_of set args) es)))) (effect_funcs task args e ++ flat_map (effect_funcs task args) es)
      by_move move_ends h ih = through _ _ _ ih (in_back _ _)
      by_move move_bent h ih = through _ _ _ ih (in_back _ _)
      by_move (move m) h ih = side_by_side _ _ _ _ h ih
