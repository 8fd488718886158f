-- A condition leaf holds where what is left of it does; an effect leaf has its change where what it reads has values.
use Rattle.std.proofs.Common.{◌≡◌, ℕ, Bool, true, false, not, cond, ◌&&◌, List, [], ◌∷◌, Option, Some, None, refl, sym, ap, ap₂, subst, ◌∙◌}
use Rattle.std.specs.Prelude.{is_some, unwrap_or, option_and_then}
use Rattle.std.specs.Option.{option_map}
use Rattle.std.proofs.lemmas.Bool.{and_parts}
use lib.IntN.{pos, negsuc}
use lib.Signed.{lt_z}
use Rattle.algebra.proofs.Solve.{v, k, ◌⊕◌, ◌⊗◌, solve}
use Rattle.rational.specs.Fraction.{Fraction, whole, ◌+ℚ◌, ◌-ℚ◌, ◌*ℚ◌}
use Rattle.rational.proofs.FieldLaws.{fraction-ring}
use Rattle.pddl_task.specs.declared.condition.Cond.{Cond}
use Rattle.pddl_task.specs.declared.condition.Cond.TheVariants as cond_
use Rattle.pddl_task.specs.declared.condition.Rel.{Rel}
use Rattle.pddl_task.specs.declared.condition.Rel.TheVariants as rel
use Rattle.pddl_task.specs.declared.effect.Effect.{Effect}
use Rattle.pddl_task.specs.declared.effect.Effect.TheVariants as effect
use Rattle.pddl_task.specs.declared.effect.NumOp.{NumOp}
use Rattle.pddl_task.specs.declared.effect.NumOp.TheVariants.{Assign, Increase, Decrease, ScaleUp, ScaleDown}
use Rattle.ground_action.proofs.PartLaws.{Means, means_minus, value_meant, minus_one}
use Rattle.ground_action.specs.Parts.{difference, is_zero, Part, constant, linear, Outcome, ends, bent, part, part_of, reads_of, linear_of, difference}
use Rattle.lin.specs.Linear.{value_of}
use Rattle.plan_step.specs.State.{PlanState}
use Rattle.plan_step.specs.Meaning.{objects_of, with_both, minus, value_of as expression_value, compares, signed, holds, Change, put, change, has_target, amount, change_of}
use Rattle.plan_step.specs.Order.{is_less, related}
use Rattle.lin.specs.declared.comparison.Cmp.{Cmp}
use Rattle.lin.specs.declared.comparison.Cmp.TheVariants as cmp
use Rattle.ground_action.proofs.Tests.{op_of, against, zero_q, known, part_value}
use Rattle.ground_numbers.specs.declared.named.Named.{Named}
use Rattle.ground_numbers.specs.Numbers.{named, same, is_listed}
use Rattle.ground_action.specs.Setting.{atom, Setting, func_number, are_numbered, value_in, truth_in}
use Rattle.ground_action.specs.Agrees.{Fits}
use Rattle.ground_action.specs.Leaves.{comparison_of, Leaf, fails, unclear, nothing, literal, compared, settled, compared_part, side_by_side, compared_parts, compared_outcomes, leaf_of, Act, assign, increase, decrease, scale_up, scale_down, Move, puts_atom, acts, MoveOutcome, move_ends, move_bent, move, moved, moved_by, move_of, move_reads}
use Rattle.lin.proofs.ValueLaws.{value_fixed}

-- ---- comparisons with 0
turned : (a b : Fraction) → b -ℚ a ≡ zero_q -ℚ (a -ℚ b)
turned a b = ap (λ w. b +ℚ w) (sym (minus_one a))
    ∙ solve fraction-ring (v 0 ⊕ k (negsuc 0) ⊗ v 1) (k (pos 0) ⊕ k (negsuc 0) ⊗ (v 1 ⊕ k (negsuc 0) ⊗ v 0)) (b ∷ a ∷ []) refl
    ∙ ap (λ w. zero_q +ℚ whole (negsuc 0) *ℚ (a +ℚ w)) (minus_one b) ∙ ap (λ w. zero_q +ℚ w) (minus_one (a -ℚ b))

pub minus_nothing : (x : Fraction) → x ≡ x -ℚ zero_q
minus_nothing x = solve fraction-ring (v 0) (v 0 ⊕ k (negsuc 0) ⊗ k (pos 0)) (x ∷ []) refl ∙ ap (λ w. x +ℚ w) (minus_one zero_q)

below_zero : (a b : Fraction) → is_less a b ≡ is_less (a -ℚ b) zero_q
below_zero a b = ap (λ (w : Fraction). lt_z (pos 0) w.num) (turned a b)

above_zero : (a b : Fraction) → is_less b a ≡ is_less zero_q (a -ℚ b)
above_zero a b = ap (λ (w : Fraction). lt_z (pos 0) w.num) (minus_nothing (a -ℚ b))

tested : (Fraction → Bool) → Option Fraction → Bool
tested t None = false
tested t (Some x) = t x

compares_minus : (r : Fraction → Fraction → Bool) (t : Fraction → Bool) → ((a b : Fraction) → r a b ≡ t (a -ℚ b)) → (x y : Option Fraction) → compares r x y ≡ tested t (with_both minus x y)
unfolding tested
compares_minus r t e None y = refl
compares_minus r t e (Some x) None = refl
compares_minus r t e (Some x) (Some y) = e x y

compares_turned : (r : Fraction → Fraction → Bool) (t : Fraction → Bool) → ((a b : Fraction) → r a b ≡ t (b -ℚ a)) → (x y : Option Fraction) → compares r x y ≡ tested t (with_both minus y x)
unfolding tested
compares_turned r t e None None = refl
compares_turned r t e None (Some y) = refl
compares_turned r t e (Some x) None = refl
compares_turned r t e (Some x) (Some y) = e x y

tested_if : (t : Fraction → Bool) (b : Bool) (x : Fraction) → tested t (cond b (Some x) None) ≡ (b && t x)
unfolding tested
tested_if t true x = refl
tested_if t false x = refl

tested_none : (t : Fraction → Bool) (a : Fraction) → tested t (Some a) ≡ t a
unfolding tested
tested_none t a = refl

compares_none : (r : Fraction → Fraction → Bool) (x : Option Fraction) → compares r x None ≡ false
compares_none r None = refl
compares_none r (Some x) = refl

-- ---- the value of an amount, and the change of a move
abbrev pub act_amount : (ℕ → Fraction) → Act → Fraction
act_amount at (assign p) = value_of at (linear_of p)
act_amount at (increase p) = value_of at (linear_of p)
act_amount at (decrease p) = value_of at (linear_of p)
act_amount at (scale_up a) = a
act_amount at (scale_down a) = a

abbrev pub change_in : (ℕ → Fraction) → Move → Change
change_in at (puts_atom sign it) = put sign it.symbol it.args
change_in at (acts it a) = change (op_of a) it.symbol it.args (act_amount at a)

if_none : (b : Bool) (c : Option Change) → c ≡ None → cond b c None ≡ None
if_none true c e = e
if_none false c e = refl

and_if : (b c : Bool) (x : Change) → cond b (cond c (Some x) None) None ≡ cond (b && c) (Some x) None
and_if true c x = refl
and_if false c x = refl

amount_if : (g : Fraction → Change) (op : NumOp) (b : Bool) (x : Fraction) → amount op x ≡ Some x → option_map g (option_and_then (amount op) (cond b (Some x) None)) ≡ cond b (Some (g x)) None
amount_if g op true x e = ap (option_map g) e
amount_if g op false x e = refl

module _ (s : PlanState) (at : ℕ → Fraction) (set : Setting) where
  part_known : (p : Part) → part_value s at p ≡ cond (known s (reads_of p)) (Some (value_of at (linear_of p))) None
  part_known (constant a) = ap Some (sym (value_fixed at a))
  part_known (linear r l) = refl

  -- whether what is left of a leaf holds
  abbrev pub leaf_true : Leaf → Bool
  leaf_true fails = false
  leaf_true unclear = false
  leaf_true nothing = true
  leaf_true (literal x sign) = signed sign (truth_in s x)
  leaf_true (compared r l c) = known s r && against c (value_of at l)

  abbrev pub LeafMeans : Leaf → Bool → Type 0
  LeafMeans fails b = b ≡ false
  LeafMeans unclear b = Unit {0}
  LeafMeans nothing b = b ≡ true
  LeafMeans (literal x sign) b = b ≡ signed sign (truth_in s x)
  LeafMeans (compared r l c) b = are_numbered set r ≡ true → b ≡ (known s r && against c (value_of at l))

  settled_means : (t b : Bool) → b ≡ t → LeafMeans (settled t) b
  settled_means true b e = e
  settled_means false b e = e

  as_leaf : (l : Leaf) (b c : Bool) → b ≡ c → LeafMeans l b → LeafMeans l c
  as_leaf l b c e h = let P : Bool → Type 0 = λ t. LeafMeans l t in subst P e h

  compared_means : (c : Cmp) (p : Part) (o : Option Fraction) → Means s at set (part p) o → LeafMeans (compared_part c p) (tested (against c) o)
  compared_means c p o h = λ n. ap (tested (against c)) (h n ∙ part_known p) ∙ tested_if (against c) (known s (reads_of p)) (value_of at (linear_of p))

  by_minus : (r : Rel) (c : Cmp) (p q : Part) (x y : Option Fraction) → ((a b : Fraction) → related r a b ≡ against c (a -ℚ b)) → Means s at set (part p) x → Means s at set (part q) y → LeafMeans (compared_part c (difference p q)) (compares (related r) x y)
  by_minus r c p q x y e h i = as_leaf (compared_part c (difference p q)) _ _ (sym (compares_minus (related r) (against c) e x y)) (compared_means c (difference p q) (with_both minus x y) (means_minus s at set p q x y h i))

  by_turned : (r : Rel) (c : Cmp) (p q : Part) (x y : Option Fraction) → ((a b : Fraction) → related r a b ≡ against c (b -ℚ a)) → Means s at set (part p) x → Means s at set (part q) y → LeafMeans (compared_part c (difference q p)) (compares (related r) x y)
  by_turned r c p q x y e h i = as_leaf (compared_part c (difference q p)) _ _ (sym (compares_turned (related r) (against c) e x y)) (compared_means c (difference q p) (with_both minus y x) (means_minus s at set q p y x i h))

  sided_means : (r : Rel) (p q : Part) (x y : Option Fraction) → Means s at set (part p) x → Means s at set (part q) y → LeafMeans (compared_part (comparison_of r) (side_by_side r p q)) (compares (related r) x y)
  sided_means rel.Lt p q x y h i = by_minus rel.Lt cmp.Lt p q x y below_zero h i
  sided_means rel.Le p q x y h i = by_minus rel.Le cmp.Le p q x y (λ a b. ap not (above_zero a b)) h i
  sided_means rel.Eq p q x y h i = by_minus rel.Eq cmp.Eq p q x y (λ a b. ap₂ (λ t u. not t && not u) (below_zero a b) (above_zero a b)) h i
  sided_means rel.Ge p q x y h i = by_turned rel.Ge cmp.Le p q x y (λ a b. ap not (above_zero b a)) h i
  sided_means rel.Gt p q x y h i = by_turned rel.Gt cmp.Lt p q x y (λ a b. below_zero b a) h i

  sides_mean : (r : Rel) (p q : Part) (x y : Option Fraction) → Means s at set (part p) x → Means s at set (part q) y → LeafMeans (compared_parts r p q) (compares (related r) x y)
  sides_mean r (constant a) (constant b) x y h i = settled_means (related r a b) _ (ap₂ (compares (related r)) (h refl) (i refl))
  sides_mean r (constant a) (linear q m) x y h i = sided_means r (constant a) (linear q m) x y h i
  sides_mean r (linear p l) q x y h i = sided_means r (linear p l) q x y h i

  outcomes_mean : (r : Rel) (a b : Outcome) (x y : Option Fraction) → Means s at set a x → Means s at set b y → LeafMeans (compared_outcomes r a b) (compares (related r) x y)
  outcomes_mean r ends b x y h i = ap (λ o. compares (related r) o y) h
  outcomes_mean r bent b x y h i = tt
  outcomes_mean r (part p) ends x y h i = ap (compares (related r) x) i ∙ compares_none (related r) x
  outcomes_mean r (part p) bent x y h i = tt
  outcomes_mean r (part p) (part q) x y h i = sides_mean r p q x y h i

  -- ---- moves
  abbrev pub MoveMeans : MoveOutcome → Option Change → Type 0
  MoveMeans move_ends c = c ≡ None
  MoveMeans move_bent c = Unit {0}
  MoveMeans (move m) c = are_numbered set (move_reads m) ≡ true → c ≡ cond (known s (move_reads m)) (Some (change_in at m)) None

  abbrev changed_in : NumOp → Named → Option Fraction → Option Change
  changed_in op it o = cond (has_target op (value_in s it)) (option_map (change op it.symbol it.args) (option_and_then (amount op) o)) None

  scaled_means : (it : Named) (a : Fraction) (b : Bool) (o : Option Fraction) → is_zero a ≡ b → o ≡ Some a → MoveMeans (cond b move_ends (move (acts it (scale_down a)))) (changed_in ScaleDown it o)
  scaled_means it a true o e h = if_none (is_some (value_in s it)) _ (ap (λ w. option_map (change ScaleDown it.symbol it.args) (option_and_then (amount ScaleDown) w)) h ∙ ap (λ (t : Bool). option_map (change ScaleDown it.symbol it.args) (cond t None (Some a))) e)
  scaled_means it a false o e h = λ n. ap (changed_in ScaleDown it) h ∙ ap (λ (t : Bool). cond (is_some (value_in s it)) (option_map (change ScaleDown it.symbol it.args) (cond t None (Some a))) None) e
      ∙ and_if (is_some (value_in s it)) true (change ScaleDown it.symbol it.args a)

  moved_means : (op : NumOp) (it : Named) (p : Part) (o : Option Fraction) → Means s at set (part p) o → MoveMeans (moved op it p) (changed_in op it o)
  moved_means Assign it p o h = λ n. ap (changed_in Assign it) (h n ∙ part_known p) ∙ amount_if (change Assign it.symbol it.args) Assign (known s (reads_of p)) (value_of at (linear_of p)) refl
  moved_means Increase it p o h = λ n. ap (changed_in Increase it) (h (and_parts _ _ n).1 ∙ part_known p)
      ∙ ap (λ c. cond (is_some (value_in s it)) c None) (amount_if (change Increase it.symbol it.args) Increase (known s (reads_of p)) (value_of at (linear_of p)) refl)
      ∙ and_if (is_some (value_in s it)) (known s (reads_of p)) _
  moved_means Decrease it p o h = λ n. ap (changed_in Decrease it) (h (and_parts _ _ n).1 ∙ part_known p)
      ∙ ap (λ c. cond (is_some (value_in s it)) c None) (amount_if (change Decrease it.symbol it.args) Decrease (known s (reads_of p)) (value_of at (linear_of p)) refl)
      ∙ and_if (is_some (value_in s it)) (known s (reads_of p)) _
  moved_means ScaleUp it (constant a) o h = λ n. ap (changed_in ScaleUp it) (h refl) ∙ and_if (is_some (value_in s it)) true (change ScaleUp it.symbol it.args a)
  moved_means ScaleUp it (linear r l) o h = tt
  moved_means ScaleDown it (constant a) o h = scaled_means it a (is_zero a) o refl (h refl)
  moved_means ScaleDown it (linear r l) o h = tt

  moved_by_means : (op : NumOp) (it : Named) (a : Outcome) (o : Option Fraction) → Means s at set a o → MoveMeans (moved_by op it a) (changed_in op it o)
  moved_by_means op it ends o h = if_none (has_target op (value_in s it)) _ (ap (λ w. option_map (change op it.symbol it.args) (option_and_then (amount op) w)) h)
  moved_by_means op it bent o h = tt
  moved_by_means op it (part p) o h = moved_means op it p o h

  -- ---- leaves, in a fitting state that agrees
  module _ (fits : Fits set s) (value : (it : Named) → is_listed same set.funcs it ≡ true → at (func_number set it) ≡ unwrap_or (value_in s it) zero_q) (args : List ℕ) where
    atom_means : (sign : Bool) (it : Named) (b : Bool) → set.changing_pred it.symbol ≡ b
        → LeafMeans (cond b (literal (atom it) sign) (settled (signed sign (set.start.truth it.symbol it.args)))) (signed sign (s.truth it.symbol it.args))
    atom_means sign it true e = refl
    atom_means sign it false e = settled_means _ _ (ap (signed sign) (fits.preds it.symbol it.args e))

    pub leaf_means : (c : Cond) → LeafMeans (leaf_of set args c) (holds s args c)
    leaf_means (cond_.Lit sign pred terms) = atom_means sign (named pred (objects_of args terms)) (set.changing_pred pred) refl
    leaf_means (cond_.Same sign left right) = settled_means _ _ refl
    leaf_means (cond_.Compare r left right) = outcomes_mean r (part_of set args left) (part_of set args right) _ _
        (value_meant s at set args (λ it e. fits.funcs it.symbol it.args e) value left) (value_meant s at set args (λ it e. fits.funcs it.symbol it.args e) value right)

    pub move_means : (e : Effect) → MoveMeans (move_of set args e) (change_of s args e)
    move_means (effect.Put sign pred terms) = λ n. refl
    move_means (effect.Change op func terms by) = moved_by_means op (named func (objects_of args terms)) (part_of set args by) (expression_value s args by)
        (value_meant s at set args (λ it e. fits.funcs it.symbol it.args e) value by)
