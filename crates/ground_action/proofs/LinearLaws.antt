-- A linear action is linear at any arguments.
use Rattle.std.proofs.Common.{◌≡◌, ℕ, Bool, true, false, not, cond, ◌&&◌, ◌||◌, List, [], ◌∷◌, map, Option, Some, None, subst, ◌+◌, ◌≤◌, arith, refl, sym, ap, ap₂, ◌∙◌}
use Rattle.std.specs.List.{list_all}
use Rattle.std.proofs.lemmas.Bool.{and_parts, and_from}
use lib.IntN.{pos}
use Rattle.rational.specs.Fraction.{Fraction, whole}
use Rattle.std.specs.Prelude.{fold, nat_le}
use Rattle.std.proofs.lemmas.Bool.Decides.{nat_tests}
use Rattle.pddl_task.specs.Linear.{Linearity, linearity, any_reads, all_linear, one_reads, linearity_step, linearity_of, is_linear_condition, is_scale, is_linear_effect, is_linear_action}
use Rattle.pddl_task.specs.declared.action.Action.{Action}
use Rattle.pddl_task.specs.declared.condition.Cond.{Cond}
use Rattle.pddl_task.specs.declared.condition.Cond.TheVariants as cond_
use Rattle.pddl_task.specs.declared.condition.Rel.{Rel}
use Rattle.pddl_task.specs.declared.effect.Effect.{Effect}
use Rattle.pddl_task.specs.declared.effect.Effect.TheVariants as effect
use Rattle.pddl_task.specs.declared.effect.NumOp.{NumOp}
use Rattle.pddl_task.specs.declared.effect.NumOp.TheVariants.{Assign, Increase, Decrease, ScaleUp, ScaleDown}
use Rattle.pddl_task.specs.declared.expression.Expr.{Expr}
use Rattle.pddl_task.specs.declared.expression.Expr.TheOpen.{Expr-F}
use Rattle.pddl_task.specs.declared.expression.Expr.TheFolds.{fold-Expr}
use Rattle.ground_action.proofs.FoldLaws.{fold_related, AreSteps}
use Rattle.ground_action.specs.Parts.{is_zero, Part, constant, linear, Outcome, ends, bent, part, with_part, with_parts, added, negated, multiplied, quotient, divided, folded_from, folded, given_part, plus_part, minus_part, part_step, part_of}
use Rattle.lin.specs.Linear.{var}
use Rattle.plan_step.specs.Meaning.{objects_of, signed}
use Rattle.ground_numbers.specs.declared.named.Named.{Named}
use Rattle.ground_numbers.specs.Numbers.{named}
use Rattle.ground_action.specs.Setting.{Proposition, atom, Setting, func_number, value_in}
use Rattle.ground_action.specs.Leaves.{literal, settled, compared_parts, compared_outcomes, leaf_of, acts, scale_down, move_ends, move, moved, moved_by, move_of}
use Rattle.ground_action.specs.GroundAction.{is_constant}
use Rattle.ground_action.proofs.Groundable.{is_clear, is_straight, is_linear}

-- ---- sums and products are folded by twos
abbrev summed : Linearity → Linearity → Linearity
summed a b = linearity (a.reads || b.reads) (a.linear && b.linear)

abbrev timed : Linearity → Linearity → Linearity
timed a b = linearity (a.reads || b.reads) ((a.linear && b.linear) && not (a.reads && b.reads))

abbrev divided_line : Linearity → Linearity → Linearity
divided_line a b = linearity (a.reads || b.reads) (not b.reads && (a.linear && b.linear))

abbrev lines_from : (Linearity → Linearity → Linearity) → Linearity → List Linearity → Linearity
lines_from f a [] = a
lines_from f a (b ∷ more) = lines_from f (f a b) more

abbrev lines_of : (Linearity → Linearity → Linearity) → List Linearity → Linearity
lines_of f [] = linearity false true
lines_of f (a ∷ more) = lines_from f a more

or_nothing : (a : Bool) → a ≡ (a || false)
or_nothing true = refl
or_nothing false = refl

and_nothing : (a : Bool) → a ≡ (a && true)
and_nothing true = refl
and_nothing false = refl

or_group : (a b c : Bool) → ((a || b) || c) ≡ (a || (b || c))
or_group true b c = refl
or_group false b c = refl

and_group : (a b c : Bool) → ((a && b) && c) ≡ (a && (b && c))
and_group true b c = refl
and_group false b c = refl

sum_from : (a : Linearity) (ls : List Linearity) → lines_from summed a ls ≡ linearity (a.reads || any_reads ls) (a.linear && all_linear ls)
sum_from a [] = ap₂ linearity (or_nothing a.reads) (and_nothing a.linear)
sum_from a (b ∷ ls) = sum_from (summed a b) ls ∙ ap₂ linearity (or_group a.reads b.reads (any_reads ls)) (and_group a.linear b.linear (all_linear ls))

sum_lines : (ls : List Linearity) → lines_of summed ls ≡ linearity (any_reads ls) (all_linear ls)
sum_lines [] = refl
sum_lines (a ∷ ls) = sum_from a ls

-- how many read, counted on from a number
counted : ℕ → List Linearity → ℕ
counted n ls = fold (λ m p. m + cond p.reads 1 0) n ls

grows : (n : ℕ) (ls : List Linearity) → n ≤ counted n ls
unfolding counted
grows n [] = omega arith
grows n (a ∷ ls) = let h : n + cond a.reads 1 0 ≤ counted (n + cond a.reads 1 0) ls = grows (n + cond a.reads 1 0) ls in omega (arith, h)

not_one : (n : ℕ) → 2 ≤ n → nat_le n 1 ≡ false
not_one n h = grind (arith, nat_tests)

false_right : (b : Bool) → (b && false) ≡ false
false_right true = refl
false_right false = refl

one_more : (r q l m all : Bool) (ls : List Linearity) → (nat_le (counted (cond (r || q) 1 0) ls) 1 && (((l && m) && not (r && q)) && all)) ≡ (nat_le (counted (cond r 1 0 + cond q 1 0) ls) 1 && (l && (m && all)))
one_more true true l m all ls = ap (λ t. nat_le (counted 1 ls) 1 && (t && all)) (false_right (l && m)) ∙ false_right (nat_le (counted 1 ls) 1)
    ∙ sym (ap (λ t. t && (l && (m && all))) (not_one (counted 2 ls) (grows 2 ls)))
one_more true false l m all ls = ap (λ t. nat_le (counted 1 ls) 1 && t) (ap (λ t. t && all) (sym (and_nothing (l && m))) ∙ and_group l m all)
one_more false true l m all ls = ap (λ t. nat_le (counted 1 ls) 1 && t) (ap (λ t. t && all) (sym (and_nothing (l && m))) ∙ and_group l m all)
one_more false false l m all ls = ap (λ t. nat_le (counted 0 ls) 1 && t) (ap (λ t. t && all) (sym (and_nothing (l && m))) ∙ and_group l m all)

one_of : (r : Bool) → nat_le (cond r 1 0) 1 ≡ true
one_of true = refl
one_of false = refl

times_from : (a : Linearity) (ls : List Linearity) → lines_from timed a ls ≡ linearity (a.reads || any_reads ls) (nat_le (counted (cond a.reads 1 0) ls) 1 && (a.linear && all_linear ls))
unfolding counted
times_from a [] = ap₂ linearity (or_nothing a.reads) (and_nothing a.linear ∙ sym (ap (λ t. t && (a.linear && true)) (one_of a.reads)))
times_from a (b ∷ ls) = times_from (timed a b) ls ∙ ap₂ linearity (or_group a.reads b.reads (any_reads ls)) (one_more a.reads b.reads a.linear b.linear (all_linear ls) ls)

from_zero : (n : ℕ) → n ≡ 0 + n
from_zero n = omega arith

times_lines : (ls : List Linearity) → lines_of timed ls ≡ linearity (any_reads ls) (one_reads ls && all_linear ls)
unfolding counted
times_lines [] = refl
times_lines (a ∷ ls) = times_from a ls ∙ ap (λ n. linearity (a.reads || any_reads ls) (nat_le (counted n ls) 1 && (a.linear && all_linear ls))) (from_zero (cond a.reads 1 0))

-- an outcome that isn't linear is one of an expression that isn't, and a part is constant where nothing is read
abbrev pub Fitting : Outcome → Linearity → Type 0
Fitting ends l = Unit {0}
Fitting bent l = l.linear ≡ false
Fitting (part p) l = l.reads ≡ not (is_constant p)

and_false : (a b : Bool) → b ≡ false → (a && b) ≡ false
and_false true b e = e
and_false false b e = refl

false_and : (a b : Bool) → a ≡ false → (a && b) ≡ false
false_and a b e = ap (λ t. t && b) e

module _ (f : Part → Part → Outcome) (g : Linearity → Linearity → Linearity) (left : (a b : Linearity) → a.linear ≡ false → (g a b).linear ≡ false) (right : (a b : Linearity) → b.linear ≡ false → (g a b).linear ≡ false)
    (each : (p q : Part) (a b : Linearity) → a.reads ≡ not (is_constant p) → b.reads ≡ not (is_constant q) → Fitting (f p q) (g a b)) where
  fit_both : (o u : Outcome) (a b : Linearity) → Fitting o a → Fitting u b → Fitting (with_parts f o u) (g a b)
  fit_both ends u a b h i = tt
  fit_both bent u a b h i = left a b h
  fit_both (part p) ends a b h i = tt
  fit_both (part p) bent a b h i = right a b i
  fit_both (part p) (part q) a b h i = each p q a b h i

  module _ {E : Type 0} (outcome : E → Outcome) (line : E → Linearity) where
    fit_from : (o : Outcome) (a : Linearity) (parts : List ((e : E) × Fitting (outcome e) (line e))) → Fitting o a → Fitting (folded_from f o (map outcome (map (λ p. p.0) parts))) (lines_from g a (map line (map (λ p. p.0) parts)))
    fit_from o a [] h = h
    fit_from o a (p ∷ parts) h = fit_from (with_parts f o (outcome p.0)) (g a (line p.0)) parts (fit_both o (outcome p.0) a (line p.0) h p.1)

    fit_folded : (unit : Fraction) (parts : List ((e : E) × Fitting (outcome e) (line e))) → Fitting (folded f unit (map outcome (map (λ p. p.0) parts))) (lines_of g (map line (map (λ p. p.0) parts)))
    fit_folded unit [] = refl
    fit_folded unit (p ∷ parts) = fit_from (outcome p.0) (line p.0) parts p.1

sum_left : (a b : Linearity) → a.linear ≡ false → (summed a b).linear ≡ false
sum_left a b h = false_and a.linear b.linear h

sum_right : (a b : Linearity) → b.linear ≡ false → (summed a b).linear ≡ false
sum_right a b h = and_false a.linear b.linear h

two_left : (a b c : Bool) → a ≡ false → ((a && b) && c) ≡ false
two_left a b c h = ap (λ t. (t && b) && c) h

two_right : (a b c : Bool) → b ≡ false → ((a && b) && c) ≡ false
two_right a b c h = false_and (a && b) c (and_false a b h)

constant-added : (p q : Part) → (not (is_constant p) || not (is_constant q)) ≡ not (is_constant (added p q))
constant-added (constant a) (constant b) = refl
constant-added (constant a) (linear r l) = refl
constant-added (linear r l) (constant b) = refl
constant-added (linear r l) (linear q m) = refl

constant-negated : (p : Part) → is_constant (negated p) ≡ is_constant p
constant-negated (constant a) = refl
constant-negated (linear r l) = refl

constant-over : (p : Part) (c : Fraction) → is_constant (quotient p c) ≡ is_constant p
constant-over (constant a) c = refl
constant-over (linear r l) c = refl

fit_plus : (p q : Part) (a b : Linearity) → a.reads ≡ not (is_constant p) → b.reads ≡ not (is_constant q) → Fitting (plus_part p q) (summed a b)
fit_plus p q a b h i = ap₂ ◌||◌ h i ∙ constant-added p q

fit_less : (p q : Part) (a b : Linearity) → a.reads ≡ not (is_constant p) → b.reads ≡ not (is_constant q) → Fitting (minus_part p q) (summed a b)
fit_less p q a b h i = ap₂ ◌||◌ h (i ∙ ap not (sym (constant-negated q))) ∙ constant-added p (negated q)

fit_times : (p q : Part) (a b : Linearity) → a.reads ≡ not (is_constant p) → b.reads ≡ not (is_constant q) → Fitting (multiplied p q) (timed a b)
fit_times (constant x) (constant y) a b h i = ap₂ ◌||◌ h i
fit_times (constant x) (linear r l) a b h i = ap₂ ◌||◌ h i
fit_times (linear r l) (constant y) a b h i = ap₂ ◌||◌ h i
fit_times (linear r l) (linear q m) a b h i = and_false (a.linear && b.linear) _ (ap₂ (λ x y. not (x && y)) h i)

or_false : (a : Bool) → (a || false) ≡ a
or_false true = refl
or_false false = refl

fit_divided : (p q : Part) (a b : Linearity) → a.reads ≡ not (is_constant p) → b.reads ≡ not (is_constant q) → Fitting (divided p q) (divided_line a b)
fit_divided p (linear q m) a b h i = false_and (not b.reads) (a.linear && b.linear) (ap not i)
fit_divided p (constant c) a b h i = by_test (is_zero c)
  where
    by_test : (z : Bool) → Fitting (cond z ends (part (quotient p c))) (divided_line a b)
    by_test true = tt
    by_test false = ap₂ ◌||◌ h i ∙ or_false (not (is_constant p)) ∙ ap not (sym (constant-over p c))

fit_negative : (o : Outcome) (a : Linearity) → Fitting o a → Fitting (with_part (λ p. part (negated p)) o) a
fit_negative ends a h = tt
fit_negative bent a h = h
fit_negative (part p) a h = h ∙ ap not (sym (constant-negated p))

fit_given : (o : Option Fraction) (l : Linearity) → l.reads ≡ false → Fitting (given_part o) l
fit_given None l h = tt
fit_given (Some x) l h = h

module _ (set : Setting) (args : List ℕ) where
  fit_called : (it : Named) (b : Bool) → Fitting (cond b (part (linear (it ∷ []) (var (func_number set it)))) (given_part (value_in set.start it))) (record { reads = b; linear = true })
  fit_called it true = refl
  fit_called it false = fit_given (value_in set.start it) _ refl

  as_fitting : (o : Outcome) (k l : Linearity) → k ≡ l → Fitting o k → Fitting o l
  as_fitting o k l e h = let P : Linearity → Type 0 = λ m. Fitting o m in subst P e h

  fit_steps : AreSteps (part_step set args) (linearity_step set.changing_func) Fitting
  fit_steps (Expr-F.Num n) = refl
  fit_steps (Expr-F.Call func terms) = fit_called (named func (objects_of args terms)) (set.changing_func func)
  fit_steps (Expr-F.Add parts) = as_fitting _ _ _ (sum_lines (map (fold-Expr Linearity (linearity_step set.changing_func)) (map (λ p. p.0) parts))) (fit_folded plus_part summed sum_left sum_right fit_plus (fold-Expr Outcome (part_step set args)) (fold-Expr Linearity (linearity_step set.changing_func)) (whole (pos 0)) parts)
  fit_steps (Expr-F.Mul parts) = as_fitting _ _ _ (times_lines (map (fold-Expr Linearity (linearity_step set.changing_func)) (map (λ p. p.0) parts))) (fit_folded multiplied timed (λ a b h. two_left a.linear b.linear _ h) (λ a b h. two_right a.linear b.linear _ h) fit_times (fold-Expr Outcome (part_step set args)) (fold-Expr Linearity (linearity_step set.changing_func)) (whole (pos 1)) parts)
  fit_steps (Expr-F.Neg a) = fit_negative _ _ a.1
  fit_steps (Expr-F.Sub a b) = fit_both minus_part summed sum_left sum_right fit_less _ _ _ _ a.1 b.1
  fit_steps (Expr-F.Div a b) = fit_both divided divided_line (λ a b h. and_false (not b.reads) _ (false_and a.linear b.linear h)) (λ a b h. and_false (not b.reads) _ (and_false a.linear b.linear h)) fit_divided _ _ _ _ a.1 b.1

  pub fits_line : (e : Expr) → Fitting (part_of set args e) (linearity_of set.changing_func e)
  unfolding part_of linearity_of
  fits_line = fold_related (part_step set args) (linearity_step set.changing_func) Fitting fit_steps

  -- ---- leaves
  settled_clear : (b : Bool) → is_clear (settled b) ≡ true
  settled_clear true = refl
  settled_clear false = refl

  sides_clear : (r : Rel) (p q : Part) → is_clear (compared_parts r p q) ≡ true
  sides_clear r (constant a) (constant b) = settled_clear _
  sides_clear r (constant a) (linear q m) = refl
  sides_clear r (linear p l) q = refl

  outcomes_clear : (r : Rel) (o u : Outcome) (a b : Linearity) → Fitting o a → Fitting u b → (a.linear && b.linear) ≡ true → is_clear (compared_outcomes r o u) ≡ true
  outcomes_clear r ends u a b h i t = refl
  outcomes_clear r bent u a b h i t = absurd (cc (false_and a.linear b.linear h))
  outcomes_clear r (part p) ends a b h i t = refl
  outcomes_clear r (part p) bent a b h i t = absurd (cc (and_false a.linear b.linear i))
  outcomes_clear r (part p) (part q) a b h i t = sides_clear r p q

  atom_clear : (b : Bool) (x : Proposition) (sign c : Bool) → is_clear (cond b (literal x sign) (settled c)) ≡ true
  atom_clear true x sign c = refl
  atom_clear false x sign c = settled_clear c

  leaf_clear : (c : Cond) → is_linear_condition set.changing_func c ≡ true → is_clear (leaf_of set args c) ≡ true
  leaf_clear (cond_.Lit sign pred terms) h = atom_clear (set.changing_pred pred) (atom (named pred (objects_of args terms))) sign (signed sign (set.start.truth pred (objects_of args terms)))
  leaf_clear (cond_.Same sign left right) h = settled_clear _
  leaf_clear (cond_.Compare r left right) h = outcomes_clear r _ _ _ _ (fits_line left) (fits_line right) h

  down_straight : (it : Named) (a : Fraction) (b : Bool) → is_straight (cond b move_ends (move (acts it (scale_down a)))) ≡ true
  down_straight it a true = refl
  down_straight it a false = refl

  moved_straight : (op : NumOp) (it : Named) (p : Part) (l : Linearity) → l.reads ≡ not (is_constant p) → not (is_scale op && l.reads) ≡ true → is_straight (moved op it p) ≡ true
  moved_straight Assign it p l h t = refl
  moved_straight Increase it p l h t = refl
  moved_straight Decrease it p l h t = refl
  moved_straight ScaleUp it (constant a) l h t = refl
  moved_straight ScaleUp it (linear r m) l h t = sym (ap not h) ∙ t
  moved_straight ScaleDown it (constant a) l h t = down_straight it a (is_zero a)
  moved_straight ScaleDown it (linear r m) l h t = sym (ap not h) ∙ t

  outcome_straight : (op : NumOp) (it : Named) (o : Outcome) (l : Linearity) → Fitting o l → (not (is_scale op && l.reads) && l.linear) ≡ true → is_straight (moved_by op it o) ≡ true
  outcome_straight op it ends l h t = refl
  outcome_straight op it bent l h t = absurd (cc (and_false (not (is_scale op && l.reads)) l.linear h))
  outcome_straight op it (part p) l h t = moved_straight op it p l h (and_parts _ _ t).0

  move_straight : (e : Effect) → is_linear_effect set.changing_func e ≡ true → is_straight (move_of set args e) ≡ true
  move_straight (effect.Put sign pred terms) h = refl
  move_straight (effect.Change op func terms by) h = outcome_straight op (named func (objects_of args terms)) _ _ (fits_line by) h

  all_mapped : {A B : Type 0} (p : A → Bool) (q : B → Bool) (f : A → B) → ((x : A) → p x ≡ true → q (f x) ≡ true) → (xs : List A) → list_all p xs ≡ true → list_all q (map f xs) ≡ true
  all_mapped p q f each [] h = refl
  all_mapped p q f each (x ∷ xs) h = and_from _ _ (each x (and_parts _ _ h).0) (all_mapped p q f each xs (and_parts _ _ h).1)

  pub goal_clear : (goal : List Cond) → list_all (is_linear_condition set.changing_func) goal ≡ true → list_all is_clear (map (leaf_of set args) goal) ≡ true
  goal_clear goal h = all_mapped (is_linear_condition set.changing_func) is_clear (leaf_of set args) leaf_clear goal h

  -- a linear action is linear at these arguments
  pub linear_at : (a : Action) → is_linear_action set.changing_func a ≡ true → is_linear set a args ≡ true
  linear_at a h = and_from _ _ (goal_clear a.conds (and_parts _ _ h).0) (all_mapped (is_linear_effect set.changing_func) is_straight (move_of set args) move_straight a.effs (and_parts _ _ h).1)
