-- The value of an expression of an instance is the value of its part, in a fitting state that agrees.
use Rattle.std.proofs.Common.{◌≡◌, ℕ, Bool, true, false, cond, ◌&&◌, List, [], ◌∷◌, ◌++◌, map, Option, Some, None, refl, sym, ap, ap₂, subst, ◌∙◌}
use Rattle.std.specs.Prelude.{is_some, unwrap_or}
use Rattle.std.specs.Option.{option_map}
use Rattle.std.proofs.lemmas.List.Folds.{list_all-append}
use Rattle.std.proofs.lemmas.Bool.{and_parts}
use lib.IntN.{pos, negsuc}
use Rattle.algebra.proofs.Solve.{v, k, ◌⊕◌, ◌⊗◌, solve}
use Rattle.rational.specs.Fraction.{Fraction, whole, neg_ℚ, ◌+ℚ◌, ◌*ℚ◌, inv_ℚ, ◌/ℚ◌}
use Rattle.rational.proofs.FieldLaws.{fraction-ring, add_assoc_q, add_comm_q, zero-add_q, mul_assoc_q, mul_comm_q, one-mul_q, add-neg_q}
use Rattle.pddl_task.specs.declared.expression.Expr.{Expr}
use Rattle.pddl_task.specs.declared.expression.Expr.TheOpen.{Expr-F}
use Rattle.pddl_task.specs.declared.expression.Expr.TheFolds.{fold-roll-Expr, ind-Expr, map-Expr}
use Rattle.pddl_task.specs.declared.expression.Expr.TheViews.{roll-Expr}
use Rattle.ground_action.specs.Parts.{is_zero, Part, constant, linear, Outcome, ends, bent, part, with_part, with_parts, added, negated, multiplied, quotient, divided, folded_from, folded, given_part, plus_part, minus_part, part_step, part_of, reads_of}
use Rattle.lin.specs.Linear.{value_of, fixed, var, add}
use Rattle.plan_step.specs.State.{PlanState}
use Rattle.plan_step.specs.Meaning.{objects_of, with_both, plus, times, minus, sum_of, product_of, quotient_of, value_step, value_of as expression_value}
use Rattle.ground_numbers.specs.declared.named.Named.{Named}
use Rattle.ground_numbers.specs.Numbers.{named, same, is_listed}
use Rattle.ground_action.specs.Setting.{Setting, func_number, are_numbered, value_in}
use Rattle.ground_action.proofs.Tests.{known, part_value}
use Rattle.lin.proofs.ValueLaws.{value_add, value_scale, value_var, value_fixed}

-- ---- options that are there where tests hold
none_right : (g : Fraction → Fraction → Fraction) (o : Option Fraction) → with_both g o None ≡ None
none_right g None = refl
none_right g (Some x) = refl

if_both : (g : Fraction → Fraction → Fraction) (b c : Bool) (x y z : Fraction) → g x y ≡ z → with_both g (cond b (Some x) None) (cond c (Some y) None) ≡ cond (b && c) (Some z) None
if_both g true true x y z e = ap Some e
if_both g true false x y z e = refl
if_both g false c x y z e = refl

if_one : (g : Fraction → Fraction) (b : Bool) (x z : Fraction) → g x ≡ z → option_map g (cond b (Some x) None) ≡ cond b (Some z) None
if_one g true x z e = ap Some e
if_one g false x z e = refl

if_right : (g : Fraction → Fraction → Fraction) (c : Bool) (x y z : Fraction) → g x y ≡ z → with_both g (Some x) (cond c (Some y) None) ≡ cond c (Some z) None
if_right g true x y z e = ap Some e
if_right g false x y z e = refl

if_left : (g : Fraction → Fraction → Fraction) (b : Bool) (x y z : Fraction) → g x y ≡ z → with_both g (cond b (Some x) None) (Some y) ≡ cond b (Some z) None
if_left g true x y z e = ap Some e
if_left g false x y z e = refl

over_if : (b : Bool) (x y z : Fraction) → is_zero y ≡ false → x /ℚ y ≡ z → quotient_of (cond b (Some x) None) (Some y) ≡ cond b (Some z) None
over_if true x y z h e = ap (λ t. cond t None (Some (x /ℚ y))) h ∙ ap Some e
over_if false x y z h e = refl

pub minus_one : (x : Fraction) → whole (negsuc 0) *ℚ x ≡ neg_ℚ x
minus_one x = sym (zero-add_q (whole (negsuc 0) *ℚ x)) ∙ ap (λ w. w +ℚ whole (negsuc 0) *ℚ x) (sym (add-neg_q x))
    ∙ solve fraction-ring (v 0 ⊕ v 1 ⊕ k (negsuc 0) ⊗ v 0) (v 1) (x ∷ neg_ℚ x ∷ []) refl

module _ (s : PlanState) (at : ℕ → Fraction) where
  value-added : (p q : Part) → with_both plus (part_value s at p) (part_value s at q) ≡ part_value s at (added p q)
  value-added (constant a) (constant b) = refl
  value-added (constant a) (linear r l) = if_right plus (known s r) a (value_of at l) _ (sym (value_add at (fixed a) l ∙ ap (λ w. w +ℚ value_of at l) (value_fixed at a)))
  value-added (linear r l) (constant b) = if_left plus (known s r) (value_of at l) b _ (sym (value_add at l (fixed b) ∙ ap (λ w. value_of at l +ℚ w) (value_fixed at b)))
  value-added (linear r l) (linear q m) = if_both plus (known s r) (known s q) (value_of at l) (value_of at m) _ (sym (value_add at l m))
      ∙ ap (λ t. cond t (Some (value_of at (add l m))) None) (sym (list_all-append (λ k. is_some (value_in s k)) r q))

  value-negated : (p : Part) → option_map neg_ℚ (part_value s at p) ≡ part_value s at (negated p)
  value-negated (constant a) = refl
  value-negated (linear r l) = if_one neg_ℚ (known s r) (value_of at l) _ (sym (value_scale at (whole (negsuc 0)) l ∙ minus_one (value_of at l)))

  value-minus : (a b : Option Fraction) → with_both minus a b ≡ with_both plus a (option_map neg_ℚ b)
  value-minus None b = refl
  value-minus (Some x) None = refl
  value-minus (Some x) (Some y) = refl

  value-over : (p : Part) (c : Fraction) → is_zero c ≡ false → quotient_of (part_value s at p) (Some c) ≡ part_value s at (quotient p c)
  value-over (constant a) c h = ap (λ t. cond t None (Some (a /ℚ c))) h
  value-over (linear r l) c h = over_if (known s r) (value_of at l) c _ h (mul_comm_q (value_of at l) (inv_ℚ c) ∙ sym (value_scale at (inv_ℚ c) l))

  module _ (set : Setting) where
    -- what an outcome says of a value
    abbrev pub Means : Outcome → Option Fraction → Type 0
    Means ends o = o ≡ None
    Means bent o = Unit {0}
    Means (part p) o = are_numbered set (reads_of p) ≡ true → o ≡ part_value s at p

    -- the reads of both are numbered
    numbered_both : (r q : List Named) → are_numbered set (r ++ q) ≡ true → (are_numbered set r ≡ true) × (are_numbered set q ≡ true)
    numbered_both r q h = and_parts _ _ (sym (list_all-append (is_listed same set.funcs) r q) ∙ h)

    numbered_added : (p q : Part) → are_numbered set (reads_of (added p q)) ≡ true → (are_numbered set (reads_of p) ≡ true) × (are_numbered set (reads_of q) ≡ true)
    numbered_added (constant a) (constant b) h = (refl, refl)
    numbered_added (constant a) (linear r l) h = (refl, h)
    numbered_added (linear r l) (constant b) h = (h, refl)
    numbered_added (linear r l) (linear q m) h = numbered_both r q h

    numbered_negated : (p : Part) → are_numbered set (reads_of (negated p)) ≡ true → are_numbered set (reads_of p) ≡ true
    numbered_negated (constant a) h = h
    numbered_negated (linear r l) h = h

    numbered_over : (p : Part) (c : Fraction) → are_numbered set (reads_of (quotient p c)) ≡ true → are_numbered set (reads_of p) ≡ true
    numbered_over (constant a) c h = h
    numbered_over (linear r l) c h = h

    -- two parts
    means_both : (f : Part → Part → Outcome) (g : Fraction → Fraction → Fraction)
        → ((p q : Part) (x y : Option Fraction) → Means (part p) x → Means (part q) y → Means (f p q) (with_both g x y))
        → (a b : Outcome) (x y : Option Fraction) → Means a x → Means b y → Means (with_parts f a b) (with_both g x y)
    means_both f g each ends b x y h i = ap (λ o. with_both g o y) h
    means_both f g each bent b x y h i = tt
    means_both f g each (part p) ends x y h i = ap (with_both g x) i ∙ none_right g x
    means_both f g each (part p) bent x y h i = tt
    means_both f g each (part p) (part q) x y h i = each p q x y h i

    means_plus : (p q : Part) (x y : Option Fraction) → Means (part p) x → Means (part q) y → Means (plus_part p q) (with_both plus x y)
    means_plus p q x y h i n = let ns = numbered_added p q n in ap₂ (with_both plus) (h ns.0) (i ns.1) ∙ value-added p q

    pub means_minus : (p q : Part) (x y : Option Fraction) → Means (part p) x → Means (part q) y → Means (minus_part p q) (with_both minus x y)
    means_minus p q x y h i n =
        let ns = numbered_added p (negated q) n in
        value-minus x y ∙ ap₂ (with_both plus) (h ns.0) (ap (option_map neg_ℚ) (i (numbered_negated q ns.1)) ∙ value-negated q) ∙ value-added p (negated q)

    means_times : (p q : Part) (x y : Option Fraction) → Means (part p) x → Means (part q) y → Means (multiplied p q) (with_both times x y)
    means_times (constant a) (constant b) x y h i = λ n. ap₂ (with_both times) (h refl) (i refl)
    means_times (constant a) (linear r l) x y h i = λ n. ap₂ (with_both times) (h refl) (i n) ∙ if_right times (known s r) a (value_of at l) _ (sym (value_scale at a l))
    means_times (linear r l) (constant b) x y h i = λ n. ap₂ (with_both times) (h n) (i refl) ∙ if_left times (known s r) (value_of at l) b _ (mul_comm_q (value_of at l) b ∙ sym (value_scale at b l))
    means_times (linear r l) (linear q m) x y h i = tt

    over_zero : (o : Option Fraction) (c : Fraction) → is_zero c ≡ true → quotient_of o (Some c) ≡ None
    over_zero None c h = refl
    over_zero (Some x) c h = ap (λ t. cond t None (Some (x /ℚ c))) h

    means_over : (p : Part) (c : Fraction) (x y : Option Fraction) (z : Bool) → is_zero c ≡ z → Means (part p) x → y ≡ Some c → Means (cond z ends (part (quotient p c))) (quotient_of x y)
    means_over p c x y true e h i = ap (quotient_of x) i ∙ over_zero x c e
    means_over p c x y false e h i = λ n. ap₂ quotient_of (h (numbered_over p c n)) i ∙ value-over p c e

    none_over : (o : Option Fraction) → quotient_of o None ≡ None
    none_over None = refl
    none_over (Some x) = refl

    means_divided : (a b : Outcome) (x y : Option Fraction) → Means a x → Means b y → Means (with_parts divided a b) (quotient_of x y)
    means_divided ends b x y h i = ap (λ o. quotient_of o y) h
    means_divided bent b x y h i = tt
    means_divided (part p) ends x y h i = ap (quotient_of x) i ∙ none_over x
    means_divided (part p) bent x y h i = tt
    means_divided (part p) (part (constant c)) x y h i = means_over p c x y (is_zero c) refl h (i refl)
    means_divided (part p) (part (linear q m)) x y h i = tt

    means_negated : (a : Outcome) (x : Option Fraction) → Means a x → Means (with_part (λ p. part (negated p)) a) (option_map neg_ℚ x)
    means_negated ends x h = ap (option_map neg_ℚ) h
    means_negated bent x h = tt
    means_negated (part p) x h = λ n. ap (option_map neg_ℚ) (h (numbered_negated p n)) ∙ value-negated p

    -- ---- folds from the left
    module _ (f : Part → Part → Outcome) (g : Fraction → Fraction → Fraction) (all : List (Option Fraction) → Option Fraction) (unit : Fraction)
        (each : (p q : Part) (x y : Option Fraction) → Means (part p) x → Means (part q) y → Means (f p q) (with_both g x y))
        (none : all [] ≡ Some unit) (one : (o : Option Fraction) (os : List (Option Fraction)) → all (o ∷ os) ≡ with_both g o (all os))
        (assoc : (x y z : Fraction) → g (g x y) z ≡ g x (g y z)) (neutral : (x : Fraction) → g x unit ≡ x) where
      regroup : (a b c : Option Fraction) → with_both g (with_both g a b) c ≡ with_both g a (with_both g b c)
      regroup None b c = refl
      regroup (Some x) None c = refl
      regroup (Some x) (Some y) None = refl
      regroup (Some x) (Some y) (Some z) = ap Some (assoc x y z)

      unit_right : (o : Option Fraction) → with_both g o (Some unit) ≡ o
      unit_right None = refl
      unit_right (Some x) = ap Some (neutral x)

      as_value : (a : Outcome) (o p : Option Fraction) → o ≡ p → Means a o → Means a p
      as_value a o p e h = let P : Option Fraction → Type 0 = λ q. Means a q in subst P e h

      module _ {E : Type 0} (outcome : E → Outcome) (value : E → Option Fraction) where
        means_from : (a : Outcome) (x : Option Fraction) (parts : List ((e : E) × Means (outcome e) (value e))) → Means a x
            → Means (folded_from f a (map outcome (map (λ p. p.0) parts))) (with_both g x (all (map value (map (λ p. p.0) parts))))
        means_from a x [] h = as_value a x _ (sym (ap (with_both g x) none ∙ unit_right x)) h
        means_from a x (p ∷ parts) h =
            let rest = all (map value (map (λ (q : (e : E) × Means (outcome e) (value e)). q.0) parts)) in
            as_value _ (with_both g (with_both g x (value p.0)) rest) _ (regroup x (value p.0) rest ∙ ap (with_both g x) (sym (one (value p.0) _)))
            (means_from (with_parts f a (outcome p.0)) (with_both g x (value p.0)) parts (means_both f g each a (outcome p.0) x (value p.0) h p.1))

        pub means_folded : (parts : List ((e : E) × Means (outcome e) (value e))) → Means (folded f unit (map outcome (map (λ p. p.0) parts))) (all (map value (map (λ p. p.0) parts)))
        means_folded [] = λ n. none
        means_folded (p ∷ parts) = as_value _ _ _ (sym (one (value p.0) _)) (means_from (outcome p.0) (value p.0) parts p.1)

    -- ---- expressions, in a fitting state that agrees
    module _ (args : List ℕ) (static : (k : Named) → set.changing_func k.symbol ≡ false → value_in s k ≡ value_in set.start k)
        (value : (k : Named) → is_listed same set.funcs k ≡ true → at (func_number set k) ≡ unwrap_or (value_in s k) (whole (pos 0))) where
      abbrev IsMeant : Expr → Type 0
      IsMeant e = Means (part_of set args e) (expression_value s args e)

      given : (o : Option Fraction) → Means (given_part o) o
      given None = refl
      given (Some x) = λ n. refl

      there : (o : Option Fraction) (x : Fraction) → x ≡ unwrap_or o (whole (pos 0)) → o ≡ cond (is_some o && true) (Some x) None
      there None x h = refl
      there (Some y) x h = ap Some (sym h)

      called : (it : Named) (b : Bool) → set.changing_func it.symbol ≡ b → Means (cond b (part (linear (it ∷ []) (var (func_number set it)))) (given_part (value_in set.start it))) (value_in s it)
      called it true e = λ n. there (value_in s it) (value_of at (var (func_number set it))) (value_var at (func_number set it) ∙ value it (and_parts _ _ n).0)
      called it false e = let P : Option Fraction → Type 0 = λ o. Means (given_part (value_in set.start it)) o in subst P (sym (static it e)) (given (value_in set.start it))

      stepped : (y : Expr-F ((e : Expr) × IsMeant e)) → let es = map-Expr ((e : Expr) × IsMeant e) Expr (λ p. p.0) y in
          Means (part_step set args (map-Expr Expr Outcome (part_of set args) es)) (value_step s args (map-Expr Expr (Option Fraction) (expression_value s args) es))
      stepped (Expr-F.Num n) = λ _. refl
      stepped (Expr-F.Call func terms) = called (named func (objects_of args terms)) (set.changing_func func) refl
      stepped (Expr-F.Add parts) = means_folded plus_part plus sum_of (whole (pos 0)) means_plus refl (λ o os. refl) add_assoc_q (λ x. add_comm_q x (whole (pos 0)) ∙ zero-add_q x) (part_of set args) (expression_value s args) parts
      stepped (Expr-F.Mul parts) = means_folded multiplied times product_of (whole (pos 1)) means_times refl (λ o os. refl) mul_assoc_q (λ x. mul_comm_q x (whole (pos 1)) ∙ one-mul_q x) (part_of set args) (expression_value s args) parts
      stepped (Expr-F.Neg a) = means_negated (part_of set args a.0) (expression_value s args a.0) a.1
      stepped (Expr-F.Sub a b) = means_both minus_part minus means_minus (part_of set args a.0) (part_of set args b.0) _ _ a.1 b.1
      stepped (Expr-F.Div a b) = means_divided (part_of set args a.0) (part_of set args b.0) _ _ a.1 b.1

      rolled : (y : Expr-F ((e : Expr) × IsMeant e)) → IsMeant (roll-Expr (map-Expr ((e : Expr) × IsMeant e) Expr (λ p. p.0) y))
      unfolding part_of expression_value
      rolled y =
          let es = map-Expr ((e : Expr) × IsMeant e) Expr (λ p. p.0) y in
          let P : Outcome → Type 0 = λ o. Means o (value_step s args (map-Expr Expr (Option Fraction) (expression_value s args) es)) in
          let Q : Option Fraction → Type 0 = λ o. Means (part_of set args (roll-Expr es)) o in
          subst Q (sym (fold-roll-Expr (Option Fraction) (value_step s args) es)) (subst P (sym (fold-roll-Expr Outcome (part_step set args) es)) (stepped y))

      pub value_meant : (e : Expr) → Means (part_of set args e) (expression_value s args e)
      value_meant = ind-Expr IsMeant (λ x y is. let P : Expr-F Expr → Type 0 = λ d. IsMeant (roll-Expr d) in subst P is (rolled y))
