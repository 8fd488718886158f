-- What an expression's work comes to, from what its parts come to.
use Rattle.std.proofs.Common.{◌≡◌, ℕ, Bool, true, false, cond, List, [], ◌∷◌, ◌++◌, map, Option, Some, None, refl, sym, ap, ap₂, ◌∙◌}
use lib.IntN.{pos}
use Rattle.rational.specs.Fraction.{Fraction, whole}
use Rattle.lin.specs.Linear.{fixed, var}
use Rattle.lin.specs.Made.{div_ops}
use Rattle.frac128.specs.declared.operations.Wide.{Wide}
use Rattle.pddl_task.specs.declared.expression.Term.{Term}
use Rattle.pddl_task.specs.declared.expression.Expr.{Expr}
use Rattle.pddl_task.specs.declared.expression.Expr.TheVariants as expr
use Rattle.pddl_task.specs.declared.expression.Expr.TheOpen.{Expr-F}
use Rattle.pddl_task.specs.declared.expression.Expr.TheFolds.{fold-Expr, fold-roll-Expr}
use Rattle.plan_step.specs.Met.{Met, found, lacks, and_then}
use Rattle.plan_step.specs.Meaning.{objects_of}
use Rattle.ground_numbers.specs.declared.named.Named.{Named}
use Rattle.ground_numbers.specs.Numbers.{named}
use Rattle.ground_action.specs.Setting.{Setting, value_in, func_number}
use Rattle.ground_action.specs.Parts.{Part, constant, linear, Outcome, ends, bent, part, is_zero, added, negated, multiplied, quotient, divided, given_part, call_part, plus_part, minus_part}
use Rattle.ground_action.specs.Work.{plus_ops, minus_ops, times_ops, over_ops, Work, work, with_made, made_from, made_folded, negative_made, work_step, work_of}
use Rattle.ground_parts.specs.declared.part.Part.{Part as Form}
use Rattle.ground_parts.specs.declared.part.Part.TheVariants.{Constant, Linear as Line}
use Rattle.ground_parts.specs.declared.joint.Joint.{Joint}
use Rattle.ground_parts.specs.declared.joint.Joint.TheVariants as joint
use Rattle.ground_parts.specs.Forms.{form_of}
use Rattle.ground_parts.specs.inside.Giving.{made_by}
use Rattle.ground_parts.specs.inside.Parts.{form_in, met_in, part_met, negative_form, joined, folded_from, folded, unit_of, given_form, call_met}
use Rattle.ground_parts.proofs.Making.{then_group, then_same, then_found, all_made, made_then, made_value}

-- ---- two parts
module _ (f : Part → Part → Outcome) (ops : Part → Part → List Wide) (j : Joint) (each : (p q : Part) → met_in (work (f p q) (ops p q)) ≡ joined j (form_of p) (form_of q)) where
  both_by : (a b : Outcome) (xs ys : List Wide) → met_in (with_made f ops (work a xs) (work b ys)) ≡ and_then (met_in (work a xs)) (λ p. and_then (met_in (work b ys)) (joined j p))
  both_by ends b xs ys = made_value xs ends form_in ∙ sym (ap (λ (m : Met Form). and_then m (λ p. and_then (met_in (work b ys)) (joined j p))) (made_value xs ends form_in) ∙ then_group (all_made xs) _ _)
  both_by bent b xs ys = made_value xs bent form_in ∙ sym (ap (λ (m : Met Form). and_then m (λ p. and_then (met_in (work b ys)) (joined j p))) (made_value xs bent form_in) ∙ then_group (all_made xs) _ _)
  both_by (part p) ends xs ys =
      ap (λ (m : Met Outcome). and_then m form_in) (made_then xs ys ends) ∙ then_group (all_made xs) _ form_in
      ∙ then_same (all_made xs) _ _ (λ u. made_value ys ends form_in ∙ sym (ap (λ (m : Met Form). and_then m (joined j (form_of p))) (made_value ys ends form_in) ∙ then_group (all_made ys) _ _))
      ∙ sym (ap (λ (m : Met Form). and_then m (λ r. and_then (met_in (work ends ys)) (joined j r))) (made_value xs (part p) form_in) ∙ then_group (all_made xs) _ _)
  both_by (part p) bent xs ys =
      ap (λ (m : Met Outcome). and_then m form_in) (made_then xs ys bent) ∙ then_group (all_made xs) _ form_in
      ∙ then_same (all_made xs) _ _ (λ u. made_value ys bent form_in ∙ sym (ap (λ (m : Met Form). and_then m (joined j (form_of p))) (made_value ys bent form_in) ∙ then_group (all_made ys) _ _))
      ∙ sym (ap (λ (m : Met Form). and_then m (λ r. and_then (met_in (work bent ys)) (joined j r))) (made_value xs (part p) form_in) ∙ then_group (all_made xs) _ _)
  both_by (part p) (part q) xs ys =
      ap (λ (m : Met Outcome). and_then m form_in) (made_then xs (ys ++ ops p q) (f p q)) ∙ then_group (all_made xs) _ form_in
      ∙ then_same (all_made xs) _ _ (λ u. ap (λ (m : Met Outcome). and_then m form_in) (made_then ys (ops p q) (f p q)) ∙ then_group (all_made ys) _ form_in
      ∙ then_same (all_made ys) _ _ (λ v. each p q)
      ∙ sym (ap (λ (m : Met Form). and_then m (joined j (form_of p))) (made_value ys (part q) form_in) ∙ then_group (all_made ys) _ _))
      ∙ sym (ap (λ (m : Met Form). and_then m (λ r. and_then (met_in (work (part q) ys)) (joined j r))) (made_value xs (part p) form_in) ∙ then_group (all_made xs) _ _)

  pub both_met : (a b : Work) → met_in (with_made f ops a b) ≡ and_then (met_in a) (λ p. and_then (met_in b) (joined j p))
  both_met a b = both_by a.outcome b.outcome a.ops b.ops

  from_met : (a : Work) (bs : List Work) → met_in (made_from f ops a bs) ≡ and_then (met_in a) (λ p. folded_from j p (map met_in bs))
  from_met a [] = then_found (met_in a)
  from_met a (b ∷ bs) =
      from_met (with_made f ops a b) bs
      ∙ ap (λ (m : Met Form). and_then m (λ r. folded_from j r (map met_in bs))) (both_met a b)
      ∙ then_group (met_in a) _ _
      ∙ then_same (met_in a) _ _ (λ p. then_group (met_in b) _ _)

  pub folded_met : (unit : Fraction) → unit ≡ unit_of j → (ws : List Work) → met_in (made_folded f ops unit ws) ≡ folded j (map met_in ws)
  folded_met unit e [] = ap (λ x. found (Constant x)) e
  folded_met unit e (w ∷ ws) = from_met w ws

-- ---- each operation
pub made_form : (ops : List Wide) (x : Part) → met_in (work (part x) ops) ≡ made_by ops (form_of x)
made_form ops x = made_value ops (part x) form_in ∙ sym (then_found (made_by ops (form_of x)) ∙ made_value ops (form_of x) found)

plus_each : (p q : Part) → met_in (work (plus_part p q) (plus_ops p q)) ≡ joined joint.Plus (form_of p) (form_of q)
plus_each (constant a) (constant b) = made_form (plus_ops (constant a) (constant b)) (added (constant a) (constant b))
plus_each (constant a) (linear r l) = made_form (plus_ops (constant a) (linear r l)) (added (constant a) (linear r l))
plus_each (linear r l) (constant b) = made_form (plus_ops (linear r l) (constant b)) (added (linear r l) (constant b))
plus_each (linear r l) (linear q m) = made_form (plus_ops (linear r l) (linear q m)) (added (linear r l) (linear q m))

negative_is : (q : Part) → form_of (negated q) ≡ negative_form (form_of q)
negative_is (constant a) = refl
negative_is (linear r l) = refl

minus_each : (p q : Part) → met_in (work (minus_part p q) (minus_ops p q)) ≡ joined joint.Minus (form_of p) (form_of q)
minus_each p q = plus_each p (negated q) ∙ ap (joined joint.Plus (form_of p)) (negative_is q)

times_each : (p q : Part) → met_in (work (multiplied p q) (times_ops p q)) ≡ joined joint.Times (form_of p) (form_of q)
times_each (constant a) (constant b) = made_form (times_ops (constant a) (constant b)) _
times_each (constant a) (linear r l) = made_form (times_ops (constant a) (linear r l)) _
times_each (linear r l) (constant b) = made_form (times_ops (linear r l) (constant b)) _
times_each (linear r l) (linear q m) = refl

over_by : (ops : List Wide) (x : Part) (b : Bool) → met_in (work (cond b ends (part x)) (cond b [] ops)) ≡ cond b lacks (made_by ops (form_of x))
over_by ops x true = refl
over_by ops x false = made_form ops x

over_each : (p q : Part) → met_in (work (divided p q) (over_ops p q)) ≡ joined joint.Over (form_of p) (form_of q)
over_each (constant a) (constant c) = over_by (div_ops c (fixed a)) (quotient (constant a) c) (is_zero c)
over_each (linear r l) (constant c) = over_by (div_ops c l) (quotient (linear r l) c) (is_zero c)
over_each p (linear q m) = refl

negative_met : (o : Outcome) (xs : List Wide) → met_in (negative_made o xs) ≡ and_then (met_in (work o xs)) (λ p. found (negative_form p))
negative_met ends xs = made_value xs ends form_in ∙ sym (ap (λ (m : Met Form). and_then m (λ p. found (negative_form p))) (made_value xs ends form_in) ∙ then_group (all_made xs) _ _)
negative_met bent xs = made_value xs bent form_in ∙ sym (ap (λ (m : Met Form). and_then m (λ p. found (negative_form p))) (made_value xs bent form_in) ∙ then_group (all_made xs) _ _)
negative_met (part p) xs = made_value xs (part (negated p)) form_in ∙ then_same (all_made xs) _ _ (λ u. ap found (negative_is p))
    ∙ sym (ap (λ (m : Met Form). and_then m (λ q. found (negative_form q))) (made_value xs (part p) form_in) ∙ then_group (all_made xs) _ _)

-- ---- each expression
map_met : {A : Type 0} (f : A → Work) (g : A → Met Form) → ((x : A) → met_in (f x) ≡ g x) → (xs : List A) → map met_in (map f xs) ≡ map g xs
map_met f g h [] = refl
map_met f g h (x ∷ xs) = ap₂ ◌∷◌ (h x) (map_met f g h xs)

given_is : (o : Option Fraction) → form_in (given_part o) ≡ given_form o
given_is None = refl
given_is (Some x) = refl

call_is : (set : Setting) (k : Named) → form_in (call_part set k) ≡ call_met set k
call_is set k = by_test (set.changing_func k.symbol)
  where
    by_test : (b : Bool) → form_in (cond b (part (linear (k ∷ []) (var (func_number set k)))) (given_part (value_in set.start k))) ≡ cond b (found (Line (var (func_number set k)))) (given_form (value_in set.start k))
    by_test true = refl
    by_test false = given_is (value_in set.start k)

module _ (set : Setting) (args : List ℕ) where
  met-num : (n : Fraction) → part_met set args (expr.Num n) ≡ found (Constant n)
  unfolding part_met work_of
  met-num n = ap met_in (ap (fold-Expr Work (work_step set args)) (sym (expr.rolls-Num n)) ∙ fold-roll-Expr Work (work_step set args) (Expr-F.Num n))

  met-call : (func : ℕ) (terms : List Term) → part_met set args (expr.Call func terms) ≡ call_met set (named func (objects_of args terms))
  unfolding part_met work_of
  met-call func terms = ap met_in (ap (fold-Expr Work (work_step set args)) (sym (expr.rolls-Call func terms)) ∙ fold-roll-Expr Work (work_step set args) (Expr-F.Call func terms))
      ∙ call_is set (named func (objects_of args terms))

  met-add : (parts : List Expr) → part_met set args (expr.Add parts) ≡ folded joint.Plus (map (part_met set args) parts)
  unfolding part_met work_of
  met-add parts = ap met_in (ap (fold-Expr Work (work_step set args)) (sym (expr.rolls-Add parts)) ∙ fold-roll-Expr Work (work_step set args) (Expr-F.Add parts))
      ∙ folded_met plus_part plus_ops joint.Plus plus_each (whole (pos 0)) refl (map (work_of set args) parts)
      ∙ ap (folded joint.Plus) (map_met (work_of set args) (part_met set args) (λ e. refl) parts)

  met-mul : (parts : List Expr) → part_met set args (expr.Mul parts) ≡ folded joint.Times (map (part_met set args) parts)
  unfolding part_met work_of
  met-mul parts = ap met_in (ap (fold-Expr Work (work_step set args)) (sym (expr.rolls-Mul parts)) ∙ fold-roll-Expr Work (work_step set args) (Expr-F.Mul parts))
      ∙ folded_met multiplied times_ops joint.Times times_each (whole (pos 1)) refl (map (work_of set args) parts)
      ∙ ap (folded joint.Times) (map_met (work_of set args) (part_met set args) (λ e. refl) parts)

  met-neg : (a : Expr) → part_met set args (expr.Neg a) ≡ and_then (part_met set args a) (λ p. found (negative_form p))
  unfolding part_met work_of
  met-neg a = ap met_in (ap (fold-Expr Work (work_step set args)) (sym (expr.rolls-Neg a)) ∙ fold-roll-Expr Work (work_step set args) (Expr-F.Neg a))
      ∙ negative_met (work_of set args a).outcome (work_of set args a).ops

  met-sub : (a b : Expr) → part_met set args (expr.Sub a b) ≡ and_then (part_met set args a) (λ p. and_then (part_met set args b) (joined joint.Minus p))
  unfolding part_met work_of
  met-sub a b = ap met_in (ap (fold-Expr Work (work_step set args)) (sym (expr.rolls-Sub a b)) ∙ fold-roll-Expr Work (work_step set args) (Expr-F.Sub a b))
      ∙ both_met minus_part minus_ops joint.Minus minus_each (work_of set args a) (work_of set args b)

  met-div : (a b : Expr) → part_met set args (expr.Div a b) ≡ and_then (part_met set args a) (λ p. and_then (part_met set args b) (joined joint.Over p))
  unfolding part_met work_of
  met-div a b = ap met_in (ap (fold-Expr Work (work_step set args)) (sym (expr.rolls-Div a b)) ∙ fold-roll-Expr Work (work_step set args) (Expr-F.Div a b))
      ∙ both_met divided over_ops joint.Over over_each (work_of set args a) (work_of set args b)

  -- ---- the same at an expression that is one of these
  pub by_num : (e : Expr) (n : Fraction) → e ≡ expr.Num n → part_met set args e ≡ found (Constant n)
  by_num e n is = ap (part_met set args) is ∙ met-num n

  pub by_call : (e : Expr) (func : ℕ) (terms said : List Term) → e ≡ expr.Call func terms → said ≡ terms → call_met set (named func (objects_of args said)) ≡ part_met set args e
  by_call e func terms said is same = ap (λ ts. call_met set (named func (objects_of args ts))) same ∙ sym (ap (part_met set args) is ∙ met-call func terms)

  pub by_add : (e : Expr) (parts said : List Expr) → e ≡ expr.Add parts → said ≡ parts → folded joint.Plus (map (part_met set args) said) ≡ part_met set args e
  by_add e parts said is same = ap (λ es. folded joint.Plus (map (part_met set args) es)) same ∙ sym (ap (part_met set args) is ∙ met-add parts)

  pub by_mul : (e : Expr) (parts said : List Expr) → e ≡ expr.Mul parts → said ≡ parts → folded joint.Times (map (part_met set args) said) ≡ part_met set args e
  by_mul e parts said is same = ap (λ es. folded joint.Times (map (part_met set args) es)) same ∙ sym (ap (part_met set args) is ∙ met-mul parts)

  pub by_neg : (e a said : Expr) → e ≡ expr.Neg a → said ≡ a → and_then (part_met set args said) (λ p. found (negative_form p)) ≡ part_met set args e
  by_neg e a said is same = ap (λ b. and_then (part_met set args b) (λ p. found (negative_form p))) same ∙ sym (ap (part_met set args) is ∙ met-neg a)

  pub by_sub : (e a b said also : Expr) → e ≡ expr.Sub a b → said ≡ a → also ≡ b → and_then (part_met set args said) (λ p. and_then (part_met set args also) (joined joint.Minus p)) ≡ part_met set args e
  by_sub e a b said also is same so = ap₂ (λ x y. and_then (part_met set args x) (λ p. and_then (part_met set args y) (joined joint.Minus p))) same so ∙ sym (ap (part_met set args) is ∙ met-sub a b)

  pub by_div : (e a b said also : Expr) → e ≡ expr.Div a b → said ≡ a → also ≡ b → and_then (part_met set args said) (λ p. and_then (part_met set args also) (joined joint.Over p)) ≡ part_met set args e
  by_div e a b said also is same so = ap₂ (λ x y. and_then (part_met set args x) (λ p. and_then (part_met set args y) (joined joint.Over p))) same so ∙ sym (ap (part_met set args) is ∙ met-div a b)
