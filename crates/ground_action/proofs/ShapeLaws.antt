-- Whether an instance is kept needs no numbers.
use Rattle.std.proofs.Common.{◌≡◌, ℕ, Bool, true, false, cond, ◌&&◌, List, [], ◌∷◌, map, Option, Some, None, refl, sym, ap, ap₂, subst, ◌∙◌}
use Rattle.std.specs.List.{list_all}
use lib.IntN.{pos, negsuc}
use Rattle.rational.specs.Fraction.{Fraction, whole, inv_ℚ}
use Rattle.pddl_task.specs.declared.action.Action.{Action}
use Rattle.pddl_task.specs.declared.condition.Cond.{Cond}
use Rattle.pddl_task.specs.declared.condition.Cond.TheVariants as cond_
use Rattle.pddl_task.specs.declared.condition.Rel.{Rel}
use Rattle.pddl_task.specs.declared.effect.Effect.{Effect}
use Rattle.pddl_task.specs.declared.effect.Effect.TheVariants as effect
use Rattle.pddl_task.specs.declared.effect.NumOp.{NumOp}
use Rattle.pddl_task.specs.declared.effect.NumOp.TheVariants.{Assign, Increase, Decrease, ScaleUp, ScaleDown}
use Rattle.pddl_task.specs.declared.expression.Expr.{Expr}
use Rattle.pddl_task.specs.declared.expression.Expr.TheOpen.{Expr-F}
use Rattle.pddl_task.specs.declared.expression.Expr.TheFolds.{fold-Expr}
use Rattle.ground_action.proofs.FoldLaws.{fold_related, AreSteps}
use Rattle.ground_action.specs.Parts.{is_zero, Part, constant, linear, Outcome, ends, bent, part, with_part, with_parts, added, negated, multiplied, quotient, divided, folded_from, folded, given_part, plus_part, minus_part, part_step, part_of}
use Rattle.lin.specs.Linear.{Linear, fixed, var, add, scale}
use Rattle.plan_step.specs.Meaning.{objects_of}
use Rattle.ground_numbers.specs.declared.named.Named.{Named}
use Rattle.ground_numbers.specs.Numbers.{named}
use Rattle.ground_action.specs.Setting.{Proposition, Setting, func_number, value_in}
use Rattle.ground_action.specs.Leaves.{compared_parts, compared_outcomes, leaf_of, moved, moved_by, move_of, written, are_clean}
use Rattle.ground_action.specs.GroundAction.{may_hold, may_move, is_kept}

-- ---- parts that are alike but for numbers
abbrev pub LikePart : Part → Part → Type 0
LikePart (constant a) q = q ≡ constant a
LikePart (linear r l) q = (m : Linear) × (q ≡ linear r m)

abbrev pub Alike : Outcome → Outcome → Type 0
Alike ends b = b ≡ ends
Alike bent b = b ≡ bent
Alike (part p) b = (q : Part) × (b ≡ part q) × LikePart p q

alike_both : (f : Part → Part → Outcome) → ((p q p' q' : Part) → LikePart p p' → LikePart q q' → Alike (f p q) (f p' q')) → (a b c d : Outcome) → Alike a c → Alike b d → Alike (with_parts f a b) (with_parts f c d)
alike_both f each ends b c d h i = ap (λ o. with_parts f o d) h
alike_both f each bent b c d h i = ap (λ o. with_parts f o d) h
alike_both f each (part p) ends c d h i = ap₂ (with_parts f) h.1 i
alike_both f each (part p) bent c d h i = ap₂ (with_parts f) h.1 i
alike_both f each (part p) (part q) c d h i = let P : Outcome → Type 0 = λ o. Alike (f p q) o in subst P (sym (ap₂ (with_parts f) h.1 i.1)) (each p q h.0 i.0 h.2 i.2)

like-added : (p q p' q' : Part) → LikePart p p' → LikePart q q' → LikePart (added p q) (added p' q')
like-added (constant a) (constant b) p' q' h i = ap₂ added h i
like-added (constant a) (linear r l) p' q' h i = (add (fixed a) i.0, ap₂ added h i.1)
like-added (linear r l) (constant b) p' q' h i = (add h.0 (fixed b), ap₂ added h.1 i)
like-added (linear r l) (linear q m) p' q' h i = (add h.0 i.0, ap₂ added h.1 i.1)

like-negated : (p p' : Part) → LikePart p p' → LikePart (negated p) (negated p')
like-negated (constant a) p' h = ap negated h
like-negated (linear r l) p' h = (scale (whole (negsuc 0)) h.0, ap negated h.1)

like-over : (p p' : Part) (c : Fraction) → LikePart p p' → LikePart (quotient p c) (quotient p' c)
like-over (constant a) p' c h = ap (λ p. quotient p c) h
like-over (linear r l) p' c h = (scale (inv_ℚ c) h.0, ap (λ p. quotient p c) h.1)

alike_plus : (p q p' q' : Part) → LikePart p p' → LikePart q q' → Alike (plus_part p q) (plus_part p' q')
alike_plus p q p' q' h i = (added p' q', refl, like-added p q p' q' h i)

alike_minus : (p q p' q' : Part) → LikePart p p' → LikePart q q' → Alike (minus_part p q) (minus_part p' q')
alike_minus p q p' q' h i = (added p' (negated q'), refl, like-added p (negated q) p' (negated q') h (like-negated q q' i))

alike_times : (p q p' q' : Part) → LikePart p p' → LikePart q q' → Alike (multiplied p q) (multiplied p' q')
alike_times (constant a) (constant b) p' q' h i = (_, ap₂ multiplied h i, refl)
alike_times (constant a) (linear r l) p' q' h i = (_, ap₂ multiplied h i.1, (_, refl))
alike_times (linear r l) (constant b) p' q' h i = (_, ap₂ multiplied h.1 i, (_, refl))
alike_times (linear r l) (linear q m) p' q' h i = ap₂ multiplied h.1 i.1

alike_divided : (p q p' q' : Part) → LikePart p p' → LikePart q q' → Alike (divided p q) (divided p' q')
alike_divided p (linear q m) p' q' h i = ap (divided p') i.1
alike_divided p (constant c) p' q' h i = let P : Outcome → Type 0 = λ o. Alike (cond (is_zero c) ends (part (quotient p c))) o in subst P (sym (ap (divided p') i)) (by_test (is_zero c))
  where
    by_test : (b : Bool) → Alike (cond b ends (part (quotient p c))) (cond b ends (part (quotient p' c)))
    by_test true = refl
    by_test false = (quotient p' c, refl, like-over p p' c h)

module _ {E : Type 0} (f : Part → Part → Outcome) (each : (p q p' q' : Part) → LikePart p p' → LikePart q q' → Alike (f p q) (f p' q')) (o o' : E → Outcome) where
  alike_from : (a b : Outcome) (parts : List ((e : E) × Alike (o e) (o' e))) → Alike a b → Alike (folded_from f a (map o (map (λ p. p.0) parts))) (folded_from f b (map o' (map (λ p. p.0) parts)))
  alike_from a b [] h = h
  alike_from a b (p ∷ parts) h = alike_from (with_parts f a (o p.0)) (with_parts f b (o' p.0)) parts (alike_both f each a (o p.0) b (o' p.0) h p.1)

  alike_folded : (unit : Fraction) (parts : List ((e : E) × Alike (o e) (o' e))) → Alike (folded f unit (map o (map (λ p. p.0) parts))) (folded f unit (map o' (map (λ p. p.0) parts)))
  alike_folded unit [] = (constant unit, refl, refl)
  alike_folded unit (p ∷ parts) = alike_from (o p.0) (o' p.0) parts p.1

alike_given : (o : Option Fraction) → Alike (given_part o) (given_part o)
alike_given None = refl
alike_given (Some x) = (constant x, refl, refl)

alike_negative : (a b : Outcome) → Alike a b → Alike (with_part (λ p. part (negated p)) a) (with_part (λ p. part (negated p)) b)
alike_negative ends b h = ap (with_part (λ p. part (negated p))) h
alike_negative bent b h = ap (with_part (λ p. part (negated p))) h
alike_negative (part p) b h = (negated h.0, ap (with_part (λ p. part (negated p))) h.1, like-negated p h.0 h.2)

-- two settings that differ in numbers alone
module _ (set : Setting) (funcs : List Named) (propositions : List Proposition) (args : List ℕ) where
  abbrev also : Setting
  also = record set { funcs = funcs; propositions = propositions }

  alike_called : (it : Named) (b : Bool) → Alike (cond b (part (linear (it ∷ []) (var (func_number set it)))) (given_part (value_in set.start it))) (cond b (part (linear (it ∷ []) (var (func_number also it)))) (given_part (value_in set.start it)))
  alike_called it true = (_, refl, (_, refl))
  alike_called it false = alike_given (value_in set.start it)

  alike_steps : AreSteps (part_step set args) (part_step also args) Alike
  alike_steps (Expr-F.Num n) = (constant n, refl, refl)
  alike_steps (Expr-F.Call func terms) = alike_called (named func (objects_of args terms)) (set.changing_func func)
  alike_steps (Expr-F.Add parts) = alike_folded plus_part alike_plus (fold-Expr Outcome (part_step set args)) (fold-Expr Outcome (part_step also args)) (whole (pos 0)) parts
  alike_steps (Expr-F.Mul parts) = alike_folded multiplied alike_times (fold-Expr Outcome (part_step set args)) (fold-Expr Outcome (part_step also args)) (whole (pos 1)) parts
  alike_steps (Expr-F.Neg a) = alike_negative _ _ a.1
  alike_steps (Expr-F.Sub a b) = alike_both minus_part alike_minus _ _ _ _ a.1 b.1
  alike_steps (Expr-F.Div a b) = alike_both divided alike_divided _ _ _ _ a.1 b.1

  pub alike_parts : (e : Expr) → Alike (part_of set args e) (part_of also args e)
  unfolding part_of
  alike_parts = fold_related (part_step set args) (part_step also args) Alike alike_steps

  -- ---- leaves
  may_sides : (r : Rel) (p q p' q' : Part) → LikePart p p' → LikePart q q' → may_hold (compared_parts r p q) ≡ may_hold (compared_parts r p' q')
  may_sides r (constant a) (constant b) p' q' h i = sym (ap₂ (λ x y. may_hold (compared_parts r x y)) h i)
  may_sides r (constant a) (linear q m) p' q' h i = sym (ap₂ (λ x y. may_hold (compared_parts r x y)) h i.1)
  may_sides r (linear p l) q p' q' h i = sym (ap (λ x. may_hold (compared_parts r x q')) h.1)

  may_outcomes : (r : Rel) (a b c d : Outcome) → Alike a c → Alike b d → may_hold (compared_outcomes r a b) ≡ may_hold (compared_outcomes r c d)
  may_outcomes r ends b c d h i = sym (ap (λ o. may_hold (compared_outcomes r o d)) h)
  may_outcomes r bent b c d h i = sym (ap (λ o. may_hold (compared_outcomes r o d)) h)
  may_outcomes r (part p) ends c d h i = sym (ap₂ (λ x y. may_hold (compared_outcomes r x y)) h.1 i)
  may_outcomes r (part p) bent c d h i = sym (ap₂ (λ x y. may_hold (compared_outcomes r x y)) h.1 i)
  may_outcomes r (part p) (part q) c d h i = may_sides r p q h.0 i.0 h.2 i.2 ∙ sym (ap₂ (λ x y. may_hold (compared_outcomes r x y)) h.1 i.1)

  may_leaf : (c : Cond) → may_hold (leaf_of set args c) ≡ may_hold (leaf_of also args c)
  may_leaf (cond_.Lit sign pred terms) = refl
  may_leaf (cond_.Same sign left right) = refl
  may_leaf (cond_.Compare r left right) = may_outcomes r _ _ _ _ (alike_parts left) (alike_parts right)

  moved_part : (op : NumOp) (it : Named) (p q : Part) → LikePart p q → may_move (moved op it p) ≡ may_move (moved op it q)
  moved_part Assign it p q h = refl
  moved_part Increase it p q h = refl
  moved_part Decrease it p q h = refl
  moved_part ScaleUp it (constant a) q h = sym (ap (λ q. may_move (moved ScaleUp it q)) h)
  moved_part ScaleUp it (linear r l) q h = sym (ap (λ q. may_move (moved ScaleUp it q)) h.1)
  moved_part ScaleDown it (constant a) q h = sym (ap (λ q. may_move (moved ScaleDown it q)) h)
  moved_part ScaleDown it (linear r l) q h = sym (ap (λ q. may_move (moved ScaleDown it q)) h.1)

  moved_outcome : (op : NumOp) (it : Named) (a b : Outcome) → Alike a b → may_move (moved_by op it a) ≡ may_move (moved_by op it b)
  moved_outcome op it ends b h = sym (ap (λ o. may_move (moved_by op it o)) h)
  moved_outcome op it bent b h = sym (ap (λ o. may_move (moved_by op it o)) h)
  moved_outcome op it (part p) b h = moved_part op it p h.0 h.2 ∙ sym (ap (λ o. may_move (moved_by op it o)) h.1)

  move_leaf : (e : Effect) → may_move (move_of set args e) ≡ may_move (move_of also args e)
  move_leaf (effect.Put sign pred terms) = refl
  move_leaf (effect.Change op func terms by) = moved_outcome op (named func (objects_of args terms)) _ _ (alike_parts by)

  all_same : {A B : Type 0} (p : B → Bool) (f g : A → B) → ((x : A) → p (f x) ≡ p (g x)) → (xs : List A) → list_all p (map f xs) ≡ list_all p (map g xs)
  all_same p f g h [] = refl
  all_same p f g h (x ∷ xs) = ap₂ ◌&&◌ (h x) (all_same p f g h xs)

  -- whether an instance is kept needs no numbers
  pub same_kept : (a : Action) → is_kept set a args ≡ is_kept also a args
  same_kept a = ap₂ (λ x y. are_clean (map (written args) a.effs) && (x && y)) (all_same may_hold (leaf_of set args) (leaf_of also args) may_leaf a.conds) (all_same may_move (move_of set args) (move_of also args) move_leaf a.effs)
