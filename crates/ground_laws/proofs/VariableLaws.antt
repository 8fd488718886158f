-- The variables of what an instance makes are the numbers of what it reads.
use Rattle.std.proofs.Common.{◌≡◌, ℕ, Bool, true, false, cond, ◌&&◌, List, [], ◌∷◌, ◌++◌, map, Option, Some, None, refl, sym, ap, ◌∙◌, nat_eq, nat_lt}
use Rattle.std.specs.List.{list_all, flat_map, filter_map, cons_option}
use Rattle.std.proofs.lemmas.Bool.{and_parts}
use Rattle.std.proofs.lemmas.List.Folds.{list_all-append}
use lib.IntN.{pos, negsuc}
use Rattle.rational.specs.Fraction.{Fraction, whole, inv_ℚ, ◌+ℚ◌}
use Rattle.rational.specs.Linear.{Terms}
use Rattle.lin.specs.Normal.{is_zero, put_first, with_term, collected}
use Rattle.lin.specs.Linear.{Linear, fixed, var, times, add, scale}
use Rattle.pddl_task.specs.declared.condition.Cond.{Cond}
use Rattle.pddl_task.specs.declared.condition.Cond.TheVariants as cond_
use Rattle.pddl_task.specs.declared.condition.Rel.{Rel}
use Rattle.pddl_task.specs.declared.condition.Rel.TheVariants as rel
use Rattle.pddl_task.specs.declared.effect.Effect.{Effect}
use Rattle.pddl_task.specs.declared.effect.Effect.TheVariants as effect
use Rattle.pddl_task.specs.declared.effect.NumOp.{NumOp}
use Rattle.pddl_task.specs.declared.effect.NumOp.TheVariants.{Assign, Increase, Decrease, ScaleUp, ScaleDown}
use Rattle.pddl_task.specs.declared.expression.Expr.{Expr}
use Rattle.pddl_task.specs.declared.expression.Expr.TheOpen.{Expr-F}
use Rattle.pddl_task.specs.declared.expression.Expr.TheFolds.{fold-Expr}
use Rattle.plan_step.specs.Meaning.{objects_of}
use Rattle.ground_numbers.specs.declared.named.Named.{Named}
use Rattle.ground_numbers.specs.Numbers.{named}
use Rattle.ground_action.specs.Setting.{Setting, func_number, value_in, atom}
use Rattle.ground_action.specs.Parts as spec
use Rattle.ground_action.specs.Parts.{Part, constant, linear, Outcome, ends, bent, part, with_part, with_parts, added, negated, difference, multiplied, quotient, divided, folded_from, folded, given_part, plus_part, minus_part, part_step, part_of, reads_of, linear_of}
use Rattle.ground_action.specs.Leaves.{Leaf, fails, unclear, nothing, literal, compared, settled, side_by_side, compared_parts, compared_outcomes, leaf_of, leaf_reads, Act, assign, increase, decrease, scale_up, scale_down, Move, puts_atom, acts, MoveOutcome, move_ends, move_bent, move, scaled, moved, moved_by, move_of, move_reads}
use Rattle.ground_action.specs.GroundAction.{goal_leaf, move_in}
use Rattle.ground_action.proofs.FoldLaws.{fold_related, AreSteps}

both : (s t : Bool) → s ≡ true → t ≡ true → (s && t) ≡ true
both s t e f = ap (λ b. b && t) e ∙ f

module _ (test : ℕ → Bool) where
  -- ---- the variables of a linear expression
  abbrev pub vars_pass : Terms → Bool
  vars_pass ts = list_all (λ t. test t.0) ts

  abbrev pub leaf_passes : Leaf → Bool
  leaf_passes fails = true
  leaf_passes unclear = true
  leaf_passes nothing = true
  leaf_passes (literal x sign) = true
  leaf_passes (compared r l c) = vars_pass l.terms

  -- the part of an act
  abbrev pub act_passes : Act → Bool
  act_passes (assign p) = vars_pass (linear_of p).terms
  act_passes (increase p) = vars_pass (linear_of p).terms
  act_passes (decrease p) = vars_pass (linear_of p).terms
  act_passes (scale_up a) = true
  act_passes (scale_down a) = true

  abbrev pub move_passes : Move → Bool
  move_passes (puts_atom sign k) = true
  move_passes (acts k a) = act_passes a

  pass_front : (b : Bool) (x : ℕ) (c : Fraction) (ts : Terms) → test x ≡ true → vars_pass ts ≡ true → vars_pass (cond b ts ((x, c) ∷ ts)) ≡ true
  pass_front true x c ts l h = h
  pass_front false x c ts l h = both (test x) (vars_pass ts) l h

  pass_put_first : (t : ℕ × Fraction) (ts : Terms) → test t.0 ≡ true → vars_pass ts ≡ true → vars_pass (put_first t ts) ≡ true
  pass_put_first t ts l h = pass_front (is_zero t.1) t.0 t.1 ts l h

  pass_with_term : (t : ℕ × Fraction) (ts : Terms) → test t.0 ≡ true → vars_pass ts ≡ true → vars_pass (with_term t ts) ≡ true
  pass_with_term t [] l h = pass_put_first t [] l h
  pass_with_term t (u ∷ us) l h =
      let hs = and_parts (test u.0) (vars_pass us) h in
      by_order (nat_lt t.0 u.0) (nat_eq t.0 u.0) hs.0 hs.1 (pass_with_term t us l hs.1)
    where
      by_order : (a e : Bool) → test u.0 ≡ true → vars_pass us ≡ true → vars_pass (with_term t us) ≡ true
          → vars_pass (cond a (put_first t (u ∷ us)) (cond e (put_first (u.0, t.1 +ℚ u.1) us) (u ∷ with_term t us))) ≡ true
      by_order true e f g ih = pass_put_first t (u ∷ us) l h
      by_order false true f g ih = pass_put_first (u.0, t.1 +ℚ u.1) us f g
      by_order false false f g ih = both (test u.0) (vars_pass (with_term t us)) f ih

  pass_collected : (ts : Terms) → vars_pass ts ≡ true → vars_pass (collected ts) ≡ true
  pass_collected [] h = refl
  pass_collected (t ∷ ts) h = let hs = and_parts (test t.0) (vars_pass ts) h in pass_with_term t (collected ts) hs.0 (pass_collected ts hs.1)

  pub pass_add : (l m : Linear) → vars_pass l.terms ≡ true → vars_pass m.terms ≡ true → vars_pass (add l m).terms ≡ true
  unfolding add
  pass_add l m h j = pass_collected (l.terms ++ m.terms) (list_all-append (λ t. test t.0) l.terms m.terms ∙ both _ _ h j)

  pub pass_scale : (c : Fraction) (l : Linear) → vars_pass l.terms ≡ true → vars_pass (scale c l).terms ≡ true
  unfolding scale
  pass_scale c l h = pass_collected (times c l.terms) (each l.terms h)
    where
      each : (ts : Terms) → vars_pass ts ≡ true → vars_pass (times c ts) ≡ true
      each [] h = refl
      each (t ∷ ts) h = let hs = and_parts (test t.0) (vars_pass ts) h in both (test t.0) (vars_pass (times c ts)) hs.0 (each ts hs.1)

  pub pass_var : (n : ℕ) → test n ≡ true → vars_pass (var n).terms ≡ true
  pass_var n h = both (test n) true h refl

  module _ (set : Setting) where
    abbrev pub reads_pass : List Named → Bool
    reads_pass names = list_all (λ k. test (func_number set k)) names

    both_read : (a b : List Named) → reads_pass (a ++ b) ≡ true → (reads_pass a ≡ true) × (reads_pass b ≡ true)
    both_read a b h = and_parts (reads_pass a) (reads_pass b) (sym (list_all-append (λ k. test (func_number set k)) a b) ∙ h)

    -- ---- parts: where the numbers of all that a part reads pass, its variables do
    pub record IsPassed (p : Part) : Type 0 where
      pub passed : reads_pass (reads_of p) ≡ true → vars_pass (linear_of p).terms ≡ true

    passed_constant : (a : Fraction) → IsPassed (constant a)
    passed_constant a = record { passed = λ h. refl }

    passed_added : (p q : Part) → IsPassed p → IsPassed q → IsPassed (added p q)
    passed_added (constant a) (constant b) f g = passed_constant (a +ℚ b)
    passed_added (constant a) (linear r l) f g = record { passed = λ h. pass_add (fixed a) l refl (g.passed h) }
    passed_added (linear r l) (constant b) f g = record { passed = λ h. pass_add l (fixed b) (f.passed h) refl }
    passed_added (linear r l) (linear q m) f g = record { passed = λ h. let hs = both_read r q h in pass_add l m (f.passed hs.0) (g.passed hs.1) }

    passed_negated : (p : Part) → IsPassed p → IsPassed (negated p)
    passed_negated (constant a) f = passed_constant _
    passed_negated (linear r l) f = record { passed = λ h. pass_scale (whole (negsuc 0)) l (f.passed h) }

    passed_difference : (p q : Part) → IsPassed p → IsPassed q → IsPassed (difference p q)
    passed_difference p q f g = passed_added p (negated q) f (passed_negated q g)

    passed_quotient : (p : Part) (c : Fraction) → IsPassed p → IsPassed (quotient p c)
    passed_quotient (constant a) c f = passed_constant _
    passed_quotient (linear r l) c f = record { passed = λ h. pass_scale (inv_ℚ c) l (f.passed h) }

    abbrev Passed : Outcome → Type 0
    Passed ends = Unit {0}
    Passed bent = Unit {0}
    Passed (part p) = IsPassed p

    passed_multiplied : (p q : Part) → IsPassed p → IsPassed q → Passed (multiplied p q)
    passed_multiplied (constant a) (constant b) f g = passed_constant _
    passed_multiplied (constant a) (linear r l) f g = record { passed = λ h. pass_scale a l (g.passed h) }
    passed_multiplied (linear r l) (constant b) f g = record { passed = λ h. pass_scale b l (f.passed h) }
    passed_multiplied (linear r l) (linear q m) f g = tt

    passed_divided : (p q : Part) → IsPassed p → IsPassed q → Passed (divided p q)
    passed_divided p (linear q m) f g = tt
    passed_divided p (constant c) f g = by (spec.is_zero c)
      where
        by : (b : Bool) → Passed (cond b ends (part (quotient p c)))
        by true = tt
        by false = passed_quotient p c f

    passed_both : (f : Part → Part → Outcome) → ((p q : Part) → IsPassed p → IsPassed q → Passed (f p q)) → (a b : Outcome) → Passed a → Passed b → Passed (with_parts f a b)
    passed_both f each ends b h i = tt
    passed_both f each bent b h i = tt
    passed_both f each (part p) ends h i = tt
    passed_both f each (part p) bent h i = tt
    passed_both f each (part p) (part q) h i = each p q h i

    module _ {E : Type 0} (f : Part → Part → Outcome) (each : (p q : Part) → IsPassed p → IsPassed q → Passed (f p q)) (o : E → Outcome) where
      passed_from : (a : Outcome) (parts : List ((e : E) × Passed (o e))) → Passed a → Passed (folded_from f a (map o (map (λ p. p.0) parts)))
      passed_from a [] h = h
      passed_from a (p ∷ parts) h = passed_from (with_parts f a (o p.0)) parts (passed_both f each a (o p.0) h p.1)

      passed_folded : (unit : Fraction) (parts : List ((e : E) × Passed (o e))) → Passed (folded f unit (map o (map (λ p. p.0) parts)))
      passed_folded unit [] = passed_constant unit
      passed_folded unit (p ∷ parts) = passed_from (o p.0) parts p.1

    passed_with : (o : Outcome) → Passed o → Passed (with_part (λ p. part (negated p)) o)
    passed_with ends h = tt
    passed_with bent h = tt
    passed_with (part p) h = passed_negated p h

    passed_given : (o : Option Fraction) → Passed (given_part o)
    passed_given None = tt
    passed_given (Some x) = passed_constant x

    passed_call : (k : Named) (b : Bool) → Passed (cond b (part (linear (k ∷ []) (var (func_number set k)))) (given_part (value_in set.start k)))
    passed_call k true = record { passed = λ h. pass_var (func_number set k) (and_parts (test (func_number set k)) true h).0 }
    passed_call k false = passed_given _

    module _ (args : List ℕ) where
      abbrev outcome : Expr → Outcome
      outcome = fold-Expr Outcome (part_step set args)

      abbrev AlsoPassed : Outcome → Outcome → Type 0
      AlsoPassed o also = Passed o

      steps : AreSteps (part_step set args) (part_step set args) AlsoPassed
      steps (Expr-F.Num n) = passed_constant n
      steps (Expr-F.Call func terms) = let k = named func (objects_of args terms) in passed_call k (set.changing_func func)
      steps (Expr-F.Add parts) = passed_folded plus_part (λ p q. passed_added p q) outcome (whole (pos 0)) parts
      steps (Expr-F.Mul parts) = passed_folded multiplied passed_multiplied outcome (whole (pos 1)) parts
      steps (Expr-F.Neg a) = passed_with (outcome a.0) a.1
      steps (Expr-F.Sub a b) = passed_both minus_part passed_difference (outcome a.0) (outcome b.0) a.1 b.1
      steps (Expr-F.Div a b) = passed_both divided passed_divided (outcome a.0) (outcome b.0) a.1 b.1

      passed_part : (e : Expr) → Passed (part_of set args e)
      unfolding part_of
      passed_part = fold_related (part_step set args) (part_step set args) AlsoPassed steps

      -- ---- leaves and moves
      abbrev LeafPassed : Leaf → Type 0
      LeafPassed l = reads_pass (leaf_reads l) ≡ true → leaf_passes l ≡ true

      settled_passed : (b : Bool) → LeafPassed (settled b)
      settled_passed true h = refl
      settled_passed false h = refl

      sides_passed : (r : Rel) (p q : Part) → IsPassed p → IsPassed q → IsPassed (side_by_side r p q)
      sides_passed rel.Lt p q f g = passed_difference p q f g
      sides_passed rel.Le p q f g = passed_difference p q f g
      sides_passed rel.Eq p q f g = passed_difference p q f g
      sides_passed rel.Ge p q f g = passed_difference q p g f
      sides_passed rel.Gt p q f g = passed_difference q p g f

      parts_passed : (r : Rel) (p q : Part) → IsPassed p → IsPassed q → LeafPassed (compared_parts r p q)
      parts_passed r (constant a) (constant b) f g = settled_passed _
      parts_passed r (constant a) (linear q m) f g = (sides_passed r (constant a) (linear q m) f g).passed
      parts_passed r (linear p l) q f g = (sides_passed r (linear p l) q f g).passed

      outcomes_passed : (r : Rel) (a b : Outcome) → Passed a → Passed b → LeafPassed (compared_outcomes r a b)
      outcomes_passed r ends b f g h = refl
      outcomes_passed r bent b f g h = refl
      outcomes_passed r (part p) ends f g h = refl
      outcomes_passed r (part p) bent f g h = refl
      outcomes_passed r (part p) (part q) f g h = parts_passed r p q f g h

      atom_passed : (b sign t : Bool) (k : Named) → LeafPassed (cond b (literal (atom k) sign) (settled t))
      atom_passed true sign t k h = refl
      atom_passed false sign t k h = settled_passed t h

      leaf_passed : (c : Cond) → LeafPassed (leaf_of set args c)
      leaf_passed (cond_.Lit sign pred terms) = atom_passed (set.changing_pred pred) sign _ (named pred (objects_of args terms))
      leaf_passed (cond_.Same sign left right) = settled_passed _
      leaf_passed (cond_.Compare r left right) = outcomes_passed r (part_of set args left) (part_of set args right) (passed_part left) (passed_part right)

      goal_passed : (l : Leaf) → LeafPassed l → LeafPassed (goal_leaf l)
      goal_passed fails f h = refl
      goal_passed unclear f h = refl
      goal_passed nothing f h = refl
      goal_passed (literal x sign) f h = refl
      goal_passed (compared r l c) f h = f h

      pub leaves_passed : (leaf : Cond → Leaf) → ((c : Cond) → LeafPassed (leaf c)) → (cs : List Cond) → reads_pass (flat_map leaf_reads (map leaf cs)) ≡ true → list_all leaf_passes (map leaf cs) ≡ true
      leaves_passed leaf each [] h = refl
      leaves_passed leaf each (c ∷ cs) h = let hs = both_read (leaf_reads (leaf c)) (flat_map leaf_reads (map leaf cs)) h in both _ _ (each c hs.0) (leaves_passed leaf each cs hs.1)

      pub condition_passed : (cs : List Cond) → reads_pass (flat_map leaf_reads (map (leaf_of set args) cs)) ≡ true → list_all leaf_passes (map (leaf_of set args) cs) ≡ true
      condition_passed = leaves_passed (leaf_of set args) leaf_passed

      pub goal_leaves_passed : (cs : List Cond) → reads_pass (flat_map leaf_reads (map (λ c. goal_leaf (leaf_of set args c)) cs)) ≡ true → list_all leaf_passes (map (λ c. goal_leaf (leaf_of set args c)) cs) ≡ true
      goal_leaves_passed = leaves_passed (λ c. goal_leaf (leaf_of set args c)) (λ c. goal_passed (leaf_of set args c) (leaf_passed c))

      abbrev MovePassed : MoveOutcome → Type 0
      MovePassed move_ends = Unit {0}
      MovePassed move_bent = Unit {0}
      MovePassed (move m) = reads_pass (move_reads m) ≡ true → move_passes m ≡ true

      scaled_passed : (p : Part) (f : Fraction → MoveOutcome) → ((a : Fraction) → MovePassed (f a)) → MovePassed (scaled p f)
      scaled_passed (constant a) f h = h a
      scaled_passed (linear r l) f h = tt

      down_passed : (k : Named) (a : Fraction) (b : Bool) → MovePassed (cond b move_ends (move (acts k (scale_down a))))
      down_passed k a true = tt
      down_passed k a false = λ h. refl

      moved_passed : (op : NumOp) (k : Named) (p : Part) → IsPassed p → MovePassed (moved op k p)
      moved_passed Assign k p f = f.passed
      moved_passed Increase k p f = λ h. f.passed (and_parts (test (func_number set k)) (reads_pass (reads_of p)) h).1
      moved_passed Decrease k p f = λ h. f.passed (and_parts (test (func_number set k)) (reads_pass (reads_of p)) h).1
      moved_passed ScaleUp k p f = scaled_passed p _ (λ a h. refl)
      moved_passed ScaleDown k p f = scaled_passed p _ (λ a. down_passed k a (spec.is_zero a))

      moved_by_passed : (op : NumOp) (k : Named) (o : Outcome) → Passed o → MovePassed (moved_by op k o)
      moved_by_passed op k ends f = tt
      moved_by_passed op k bent f = tt
      moved_by_passed op k (part p) f = moved_passed op k p f

      move_passed : (e : Effect) → MovePassed (move_of set args e)
      move_passed (effect.Put sign pred terms) = λ h. refl
      move_passed (effect.Change op func terms by) = moved_by_passed op (named func (objects_of args terms)) _ (passed_part by)

      pub moves_passed : (es : List Effect) → reads_pass (flat_map move_reads (filter_map move_in (map (move_of set args) es))) ≡ true → list_all move_passes (filter_map move_in (map (move_of set args) es)) ≡ true
      moves_passed [] h = refl
      moves_passed (e ∷ es) h = by_move (move_of set args e) (move_passed e) h (moves_passed es)
        where
          by_move : (m : MoveOutcome) → MovePassed m → reads_pass (flat_map move_reads (cons_option (move_in m) (filter_map move_in (map (move_of set args) es)))) ≡ true
              → (reads_pass (flat_map move_reads (filter_map move_in (map (move_of set args) es))) ≡ true → list_all move_passes (filter_map move_in (map (move_of set args) es)) ≡ true)
              → list_all move_passes (cons_option (move_in m) (filter_map move_in (map (move_of set args) es))) ≡ true
          by_move move_ends f h ih = ih h
          by_move move_bent f h ih = ih h
          by_move (move m) f h ih = let hs = both_read (move_reads m) (flat_map move_reads (filter_map move_in (map (move_of set args) es))) h in both _ _ (f hs.0) (ih hs.1)
