-- What an expression meets in 128 bits, as its value without a bound: a value is the value, and where a part lacks one
-- there is none.
use Rattle.std.proofs.Common.{◌≡◌, ℕ, Bool, true, false, cond, List, [], ◌∷◌, map, Option, Some, None, refl, sym, ap, subst, ◌∙◌}
use Rattle.std.specs.Option.{option_map, option_and_then}
use lib.IntN.{pos}
use Rattle.rational.specs.Fraction.{Fraction, whole, neg_ℚ, ◌/ℚ◌}
use Rattle.rational.proofs.FieldLaws.{add_assoc_q, add_comm_q, zero-add_q, mul_assoc_q, mul_comm_q, one-mul_q}
use Rattle.frac128.specs.Operations as operations
use Rattle.frac128.specs.declared.operations.Op.{Op}
use Rattle.frac128.specs.declared.operations.Op.TheVariants as op
use Rattle.frac128.specs.declared.operations.Wide.{Wide}
use Rattle.pddl_task.specs.declared.expression.Term.{Term}
use Rattle.pddl_task.specs.declared.expression.Expr.{Expr}
use Rattle.pddl_task.specs.declared.expression.Expr.TheVariants as expr
use Rattle.pddl_task.specs.declared.expression.Expr.TheOpen.{Expr-F}
use Rattle.pddl_task.specs.declared.expression.Expr.TheFolds.{fold-Expr, fold-roll-Expr, ind-Expr, map-Expr}
use Rattle.pddl_task.specs.declared.expression.Expr.TheViews.{roll-Expr}
use Rattle.plan_step.specs.State.{PlanState}
use Rattle.plan_step.specs.Met.{Met, found, lacks, passes, and_then, passes_128, wide, operated, value_or_none}
use Rattle.plan_step.specs.Evaluation.{folded_from, folded, divided, evaluated}
use Rattle.plan_step.specs.Meaning.{objects_of, is_zero_ℤ, with_both, plus, times, minus, sum_of, product_of, quotient_of, value_step, value_of}
use Rattle.plan_step.proofs.Expressions.{evaluated-num, evaluated-call, evaluated-add, evaluated-mul, evaluated-neg, evaluated-sub, evaluated-div}

-- an operation that is met passes 128 bits
abbrev pub IsPast : Wide → Type 0
IsPast w = passes_128 w.op w.x w.y ≡ true

-- what is met, and what there is
abbrev pub Agrees : {A : Type 0} → Met A → Option A → Type 0
Agrees (found x) o = o ≡ Some x
Agrees lacks o = o ≡ None
Agrees (passes w) o = IsPast w

pub agrees_then : {A B : Type 0} (m : Met A) (o : Option A) (f : A → Met B) (g : A → Option B) → Agrees m o → ((x : A) → Agrees (f x) (g x)) → Agrees (and_then m f) (option_and_then g o)
agrees_then {B = B} (found x) o f g h k = let P : Option B → Type 0 = λ p. Agrees (f x) p in subst P (sym (ap (option_and_then g) h)) (k x)
agrees_then lacks o f g h k = ap (option_and_then g) h
agrees_then (passes w) o f g h k = h

pub agrees_as : {A : Type 0} (m : Met A) (o p : Option A) → Agrees m o → o ≡ p → Agrees m p
agrees_as {A} m o p h e = let P : Option A → Type 0 = λ q. Agrees m q in subst P e h

pub met_as : {A : Type 0} (m n : Met A) (o : Option A) → Agrees m o → n ≡ m → Agrees n o
met_as {A} m n o h e = let P : Met A → Type 0 = λ q. Agrees q o in subst P (sym e) h

-- ---- operations
if_wide : (b : Bool) (w : Wide) (x : Fraction) → (b ≡ true → IsPast w) → Agrees (cond b (passes w) (found x)) (Some x)
if_wide true w x past = past refl
if_wide false w x past = refl

pub agrees_operated : (op : Op) (x y : Fraction) → Agrees (operated op x y) (Some (operations.value_of op x y))
agrees_operated op x y = if_wide (passes_128 op x y) (wide op x y) (operations.value_of op x y) (λ e. e)

after_operated : (b : Bool) (w : Wide) (x : Fraction) (f : Fraction → Met Fraction) (o : Option Fraction) → (b ≡ true → IsPast w) → Agrees (f x) o → Agrees (and_then (cond b (passes w) (found x)) f) o
after_operated true w x f o past h = past refl
after_operated false w x f o past h = h

both_is : (g : Fraction → Fraction → Fraction) (a b : Option Fraction) → option_and_then (λ x. option_and_then (λ y. Some (g x y)) b) a ≡ with_both g a b
both_is g None b = refl
both_is g (Some x) None = refl
both_is g (Some x) (Some y) = refl

by_zero : (b : Bool) (m : Met Fraction) (o : Option Fraction) → Agrees m o → Agrees (cond b lacks m) (cond b None o)
by_zero true m o h = refl
by_zero false m o h = h

quotient_is : (a b : Option Fraction) → option_and_then (λ x. option_and_then (λ y. cond (is_zero_ℤ y.num) None (Some (x /ℚ y))) b) a ≡ quotient_of a b
quotient_is None b = refl
quotient_is (Some x) None = refl
quotient_is (Some x) (Some y) = refl

-- ---- sums and products, folded from the left
module _ (o : Op) (g : Fraction → Fraction → Fraction) (all : List (Option Fraction) → Option Fraction) (start : Fraction)
    (is : (x y : Fraction) → operations.value_of o x y ≡ g x y) (none : all [] ≡ Some start) (one : (p : Option Fraction) (ps : List (Option Fraction)) → all (p ∷ ps) ≡ with_both g p (all ps))
    (assoc : (x y z : Fraction) → g (g x y) z ≡ g x (g y z)) (unit : (x : Fraction) → g x start ≡ x) where
  regroup : (x : Fraction) (p rest : Option Fraction) → option_and_then (λ y. with_both g (Some (g x y)) rest) p ≡ with_both g (Some x) (with_both g p rest)
  regroup x None rest = refl
  regroup x (Some y) None = refl
  regroup x (Some y) (Some z) = ap Some (assoc x y z)

  unfold_first : (p rest : Option Fraction) → option_and_then (λ x. with_both g (Some x) rest) p ≡ with_both g p rest
  unfold_first None rest = refl
  unfold_first (Some x) rest = refl

  module _ {E : Type 0} (met : E → Met Fraction) (value : E → Option Fraction) (agree : (e : E) → Type 0) (agrees : (e : E) → agree e → Agrees (met e) (value e)) where
    fold_agrees : (x : Fraction) (parts : List ((e : E) × agree e)) → Agrees (folded_from o x (map met (map (λ p. p.0) parts))) (with_both g (Some x) (all (map value (map (λ p. p.0) parts))))
    fold_agrees x [] = ap (with_both g (Some x)) none ∙ ap Some (unit x)
    fold_agrees x (p ∷ parts) =
        let ms = map met (map (λ (q : (e : E) × agree e). q.0) parts) in
        let rest = all (map value (map (λ (q : (e : E) × agree e). q.0) parts)) in
        agrees_as (and_then (met p.0) (λ y. and_then (operated o x y) (λ z. folded_from o z ms))) _ _
        (agrees_then (met p.0) (value p.0) (λ y. and_then (operated o x y) (λ z. folded_from o z ms)) (λ y. with_both g (Some (g x y)) rest) (agrees p.0 p.1)
        (λ y. after_operated (passes_128 o x y) (wide o x y) (operations.value_of o x y) (λ z. folded_from o z ms) (with_both g (Some (g x y)) rest) (λ e. e)
        (let P : Fraction → Type 0 = λ v. Agrees (folded_from o v ms) (with_both g (Some (g x y)) rest) in subst P (sym (is x y)) (fold_agrees (g x y) parts))))
        (regroup x (value p.0) rest ∙ ap (with_both g (Some x)) (sym (one (value p.0) (map value (map (λ (q : (e : E) × agree e). q.0) parts)))))

    pub folded_agrees : (parts : List ((e : E) × agree e)) → Agrees (folded o []) (Some start) → Agrees (folded o (map met (map (λ p. p.0) parts))) (all (map value (map (λ p. p.0) parts)))
    folded_agrees [] h = agrees_as (folded o []) (Some start) (all []) h (sym none)
    folded_agrees (p ∷ parts) h =
        let rest = all (map value (map (λ (q : (e : E) × agree e). q.0) parts)) in
        agrees_as (and_then (met p.0) (λ x. folded_from o x (map met (map (λ (q : (e : E) × agree e). q.0) parts)))) _ _
        (agrees_then (met p.0) (value p.0) (λ x. folded_from o x (map met (map (λ (q : (e : E) × agree e). q.0) parts))) (λ x. with_both g (Some x) rest) (agrees p.0 p.1) (λ x. fold_agrees x parts))
        (unfold_first (value p.0) rest ∙ sym (one (value p.0) (map value (map (λ (q : (e : E) × agree e). q.0) parts))))

-- ---- what the unlimited value is at each expression
module _ (state : PlanState) (args : List ℕ) where
  step : Expr-F (Option Fraction) → Option Fraction
  step = value_step state args

  pub value-num : (n : Fraction) → value_of state args (expr.Num n) ≡ Some n
  unfolding value_of
  value-num n = ap (fold-Expr (Option Fraction) (value_step state args)) (sym (expr.rolls-Num n)) ∙ fold-roll-Expr (Option Fraction) (value_step state args) (Expr-F.Num n)

  pub value-call : (func : ℕ) (terms : List Term) → value_of state args (expr.Call func terms) ≡ state.value func (objects_of args terms)
  unfolding value_of
  value-call func terms = ap (fold-Expr (Option Fraction) (value_step state args)) (sym (expr.rolls-Call func terms)) ∙ fold-roll-Expr (Option Fraction) (value_step state args) (Expr-F.Call func terms)

  pub value-add : (parts : List Expr) → value_of state args (expr.Add parts) ≡ sum_of (map (value_of state args) parts)
  unfolding value_of
  value-add parts = ap (fold-Expr (Option Fraction) (value_step state args)) (sym (expr.rolls-Add parts)) ∙ fold-roll-Expr (Option Fraction) (value_step state args) (Expr-F.Add parts)

  pub value-mul : (parts : List Expr) → value_of state args (expr.Mul parts) ≡ product_of (map (value_of state args) parts)
  unfolding value_of
  value-mul parts = ap (fold-Expr (Option Fraction) (value_step state args)) (sym (expr.rolls-Mul parts)) ∙ fold-roll-Expr (Option Fraction) (value_step state args) (Expr-F.Mul parts)

  pub value-neg : (a : Expr) → value_of state args (expr.Neg a) ≡ option_map neg_ℚ (value_of state args a)
  unfolding value_of
  value-neg a = ap (fold-Expr (Option Fraction) (value_step state args)) (sym (expr.rolls-Neg a)) ∙ fold-roll-Expr (Option Fraction) (value_step state args) (Expr-F.Neg a)

  pub value-sub : (a b : Expr) → value_of state args (expr.Sub a b) ≡ with_both minus (value_of state args a) (value_of state args b)
  unfolding value_of
  value-sub a b = ap (fold-Expr (Option Fraction) (value_step state args)) (sym (expr.rolls-Sub a b)) ∙ fold-roll-Expr (Option Fraction) (value_step state args) (Expr-F.Sub a b)

  pub value-div : (a b : Expr) → value_of state args (expr.Div a b) ≡ quotient_of (value_of state args a) (value_of state args b)
  unfolding value_of
  value-div a b = ap (fold-Expr (Option Fraction) (value_step state args)) (sym (expr.rolls-Div a b)) ∙ fold-roll-Expr (Option Fraction) (value_step state args) (Expr-F.Div a b)

  abbrev IsMet : Expr → Type 0
  IsMet e = Agrees (evaluated state args e) (value_of state args e)

  both_ways : (e : Expr) (m : Met Fraction) (o : Option Fraction) → evaluated state args e ≡ m → value_of state args e ≡ o → Agrees m o → IsMet e
  both_ways e m o is also h = met_as m (evaluated state args e) (value_of state args e) (agrees_as m o (value_of state args e) h (sym also)) is

  known : (o : Option Fraction) → Agrees (value_or_none o) o
  known None = refl
  known (Some x) = refl

  negative : (m : Met Fraction) (o : Option Fraction) → Agrees m o → Agrees (and_then m (λ x. found (neg_ℚ x))) (option_map neg_ℚ o)
  negative (found x) o h = ap (option_map neg_ℚ) h
  negative lacks o h = ap (option_map neg_ℚ) h
  negative (passes w) o h = h

  two : (m n : Met Fraction) (a b : Option Fraction) → Agrees m a → Agrees n b → Agrees (and_then m (λ x. and_then n (λ y. operated op.Sub x y))) (with_both minus a b)
  two m n a b h k =
      agrees_as (and_then m (λ x. and_then n (λ y. operated op.Sub x y))) _ _
      (agrees_then m a (λ x. and_then n (λ y. operated op.Sub x y)) (λ x. option_and_then (λ y. Some (minus x y)) b) h
      (λ x. agrees_then n b (λ y. operated op.Sub x y) (λ y. Some (minus x y)) k (λ y. agrees_operated op.Sub x y)))
      (both_is minus a b)

  over : (m n : Met Fraction) (a b : Option Fraction) → Agrees m a → Agrees n b → Agrees (and_then m (λ x. and_then n (λ y. divided x y))) (quotient_of a b)
  over m n a b h k =
      agrees_as (and_then m (λ x. and_then n (λ y. divided x y))) _ _
      (agrees_then m a (λ x. and_then n (λ y. divided x y)) (λ x. option_and_then (λ y. cond (is_zero_ℤ y.num) None (Some (x /ℚ y))) b) h
      (λ x. agrees_then n b (λ y. divided x y) (λ y. cond (is_zero_ℤ y.num) None (Some (x /ℚ y))) k
      (λ y. by_zero (is_zero_ℤ y.num) (operated op.Div x y) (Some (x /ℚ y)) (agrees_operated op.Div x y))))
      (quotient_is a b)

  sums : (parts : List ((e : Expr) × IsMet e)) → Agrees (folded op.Add (map (evaluated state args) (map (λ p. p.0) parts))) (sum_of (map (value_of state args) (map (λ p. p.0) parts)))
  sums parts = folded_agrees op.Add plus sum_of (whole (pos 0)) (λ x y. refl) refl (λ p ps. refl) add_assoc_q (λ x. add_comm_q x (whole (pos 0)) ∙ zero-add_q x) (evaluated state args) (value_of state args) IsMet (λ e h. h) parts refl

  products : (parts : List ((e : Expr) × IsMet e)) → Agrees (folded op.Mul (map (evaluated state args) (map (λ p. p.0) parts))) (product_of (map (value_of state args) (map (λ p. p.0) parts)))
  products parts = folded_agrees op.Mul times product_of (whole (pos 1)) (λ x y. refl) refl (λ p ps. refl) mul_assoc_q (λ x. mul_comm_q x (whole (pos 1)) ∙ one-mul_q x) (evaluated state args) (value_of state args) IsMet (λ e h. h) parts refl

  rolled : (y : Expr-F ((e : Expr) × IsMet e)) → IsMet (roll-Expr (map-Expr ((e : Expr) × IsMet e) Expr (λ p. p.0) y))
  rolled (Expr-F.Num n) = subst IsMet (sym (expr.rolls-Num n)) (both_ways (expr.Num n) (found n) (Some n) (evaluated-num state args n) (value-num n) refl)
  rolled (Expr-F.Call func terms) = subst IsMet (sym (expr.rolls-Call func terms)) (both_ways (expr.Call func terms) _ _ (evaluated-call state args func terms) (value-call func terms) (known (state.value func (objects_of args terms))))
  rolled (Expr-F.Add parts) =
      let es = map (λ (p : (e : Expr) × IsMet e). p.0) parts in
      subst IsMet (sym (expr.rolls-Add es)) (both_ways (expr.Add es) _ _ (evaluated-add state args es) (value-add es) (sums parts))
  rolled (Expr-F.Mul parts) =
      let es = map (λ (p : (e : Expr) × IsMet e). p.0) parts in
      subst IsMet (sym (expr.rolls-Mul es)) (both_ways (expr.Mul es) _ _ (evaluated-mul state args es) (value-mul es) (products parts))
  rolled (Expr-F.Neg a) = subst IsMet (sym (expr.rolls-Neg a.0)) (both_ways (expr.Neg a.0) _ _ (evaluated-neg state args a.0) (value-neg a.0) (negative (evaluated state args a.0) (value_of state args a.0) a.1))
  rolled (Expr-F.Sub a b) = subst IsMet (sym (expr.rolls-Sub a.0 b.0)) (both_ways (expr.Sub a.0 b.0) _ _ (evaluated-sub state args a.0 b.0) (value-sub a.0 b.0)
      (two (evaluated state args a.0) (evaluated state args b.0) (value_of state args a.0) (value_of state args b.0) a.1 b.1))
  rolled (Expr-F.Div a b) = subst IsMet (sym (expr.rolls-Div a.0 b.0)) (both_ways (expr.Div a.0 b.0) _ _ (evaluated-div state args a.0 b.0) (value-div a.0 b.0)
      (over (evaluated state args a.0) (evaluated state args b.0) (value_of state args a.0) (value_of state args b.0) a.1 b.1))

  -- what an expression meets agrees with its value
  pub value_agrees : (e : Expr) → IsMet e
  value_agrees = ind-Expr IsMet (λ x y is. let P : Expr-F Expr → Type 0 = λ d. IsMet (roll-Expr d) in subst P is (rolled y))

  pub found_is : (e : Expr) (x : Fraction) → evaluated state args e ≡ found x → value_of state args e ≡ Some x
  found_is e x is = let P : Met Fraction → Type 0 = λ m. Agrees m (value_of state args e) in subst P is (value_agrees e)

  pub passes_is : (e : Expr) (w : Wide) → evaluated state args e ≡ passes w → IsPast w
  passes_is e w is = let P : Met Fraction → Type 0 = λ m. Agrees m (value_of state args e) in subst P is (value_agrees e)

  pub lacks_is : (e : Expr) → evaluated state args e ≡ lacks → value_of state args e ≡ None
  lacks_is e is = let P : Met Fraction → Type 0 = λ m. Agrees m (value_of state args e) in subst P is (value_agrees e)
