-- Whether the static functions of an expression have values, from whether those of its parts have.
use Rattle.std.proofs.Common.{◌≡◌, ℕ, Bool, true, ◌&&◌, List, [], ◌∷◌, map, refl, sym, ap, ap₂, ◌∙◌}
use Rattle.std.specs.Prelude.{is_some, ◌||◌, Result, Ok, Err, IfOk}
use Rattle.std.specs.List.{list_all}
use Rattle.rational.specs.Fraction.{Fraction}
use Rattle.pddl_task.specs.Calls.{call_step, all_calls}
use Rattle.pddl_task.specs.declared.expression.Term.{Term}
use Rattle.pddl_task.specs.declared.expression.Expr.{Expr}
use Rattle.pddl_task.specs.declared.expression.Expr.TheVariants as expr
use Rattle.pddl_task.specs.declared.expression.Expr.TheOpen.{Expr-F}
use Rattle.pddl_task.specs.declared.expression.Expr.TheFolds.{fold-Expr, fold-roll-Expr}
use Rattle.plan_step.specs.Meaning.{objects_of}
use Rattle.ground_numbers.specs.Numbers.{named}
use Rattle.ground_action.specs.Setting.{Setting, value_in}
use Rattle.ground_action.specs.Work.{has_values}

all_same : {X Y : Type 0} (f : X → Y) (test : Y → Bool) (xs : List X) → list_all test (map f xs) ≡ list_all (λ x. test (f x)) xs
all_same f test [] = refl
all_same f test (x ∷ xs) = ap (λ (b : Bool). test (f x) && b) (all_same f test xs)

module _ (test : ℕ → List Term → Bool) where
  is-num : (n : Fraction) → all_calls test (expr.Num n) ≡ true
  unfolding all_calls
  is-num n = ap (fold-Expr Bool (call_step test)) (sym (expr.rolls-Num n)) ∙ fold-roll-Expr Bool (call_step test) (Expr-F.Num n)

  is-call : (func : ℕ) (terms : List Term) → all_calls test (expr.Call func terms) ≡ test func terms
  unfolding all_calls
  is-call func terms = ap (fold-Expr Bool (call_step test)) (sym (expr.rolls-Call func terms)) ∙ fold-roll-Expr Bool (call_step test) (Expr-F.Call func terms)

  is-add : (parts : List Expr) → all_calls test (expr.Add parts) ≡ list_all (all_calls test) parts
  unfolding all_calls
  is-add parts = ap (fold-Expr Bool (call_step test)) (sym (expr.rolls-Add parts)) ∙ fold-roll-Expr Bool (call_step test) (Expr-F.Add parts)
      ∙ all_same (fold-Expr Bool (call_step test)) (λ a. a) parts

  is-mul : (parts : List Expr) → all_calls test (expr.Mul parts) ≡ list_all (all_calls test) parts
  unfolding all_calls
  is-mul parts = ap (fold-Expr Bool (call_step test)) (sym (expr.rolls-Mul parts)) ∙ fold-roll-Expr Bool (call_step test) (Expr-F.Mul parts)
      ∙ all_same (fold-Expr Bool (call_step test)) (λ a. a) parts

  is-neg : (a : Expr) → all_calls test (expr.Neg a) ≡ all_calls test a
  unfolding all_calls
  is-neg a = ap (fold-Expr Bool (call_step test)) (sym (expr.rolls-Neg a)) ∙ fold-roll-Expr Bool (call_step test) (Expr-F.Neg a)

  is-sub : (a b : Expr) → all_calls test (expr.Sub a b) ≡ (all_calls test a && all_calls test b)
  unfolding all_calls
  is-sub a b = ap (fold-Expr Bool (call_step test)) (sym (expr.rolls-Sub a b)) ∙ fold-roll-Expr Bool (call_step test) (Expr-F.Sub a b)

  is-div : (a b : Expr) → all_calls test (expr.Div a b) ≡ (all_calls test a && all_calls test b)
  unfolding all_calls
  is-div a b = ap (fold-Expr Bool (call_step test)) (sym (expr.rolls-Div a b)) ∙ fold-roll-Expr Bool (call_step test) (Expr-F.Div a b)

-- ---- at an expression that is one of these
module _ (set : Setting) (args : List ℕ) where
  abbrev has_value : ℕ → List Term → Bool
  has_value func terms = set.changing_func func || is_some (value_in set.start (named func (objects_of args terms)))

  pub by_num : (e : Expr) (n : Fraction) → e ≡ expr.Num n → true ≡ has_values set args e
  by_num e n is = sym (ap (has_values set args) is ∙ is-num has_value n)

  pub by_call : (e : Expr) (func : ℕ) (terms said : List Term) → e ≡ expr.Call func terms → said ≡ terms → has_value func said ≡ has_values set args e
  by_call e func terms said is same = ap (has_value func) same ∙ sym (ap (has_values set args) is ∙ is-call has_value func terms)

  pub by_add : (e : Expr) (parts said : List Expr) → e ≡ expr.Add parts → said ≡ parts → list_all (has_values set args) said ≡ has_values set args e
  by_add e parts said is same = ap (list_all (has_values set args)) same ∙ sym (ap (has_values set args) is ∙ is-add has_value parts)

  pub by_mul : (e : Expr) (parts said : List Expr) → e ≡ expr.Mul parts → said ≡ parts → list_all (has_values set args) said ≡ has_values set args e
  by_mul e parts said is same = ap (list_all (has_values set args)) same ∙ sym (ap (has_values set args) is ∙ is-mul has_value parts)

  pub by_neg : (e a said : Expr) → e ≡ expr.Neg a → said ≡ a → has_values set args said ≡ has_values set args e
  by_neg e a said is same = ap (has_values set args) same ∙ sym (ap (has_values set args) is ∙ is-neg has_value a)

  pub by_sub : (e a b said also : Expr) → e ≡ expr.Sub a b → said ≡ a → also ≡ b → (has_values set args said && has_values set args also) ≡ has_values set args e
  by_sub e a b said also is same so = ap₂ (λ x y. has_values set args x && has_values set args y) same so ∙ sym (ap (has_values set args) is ∙ is-sub has_value a b)

  pub by_div : (e a b said also : Expr) → e ≡ expr.Div a b → said ≡ a → also ≡ b → (has_values set args said && has_values set args also) ≡ has_values set args e
  by_div e a b said also is same so = ap₂ (λ x y. has_values set args x && has_values set args y) same so ∙ sym (ap (has_values set args) is ∙ is-div has_value a b)

-- an answer that is one value is another that equals it
pub as_value : {E : Type 0} (r : Result Bool E) (x y : Bool) → x ≡ y → IfOk r (λ b. b ≡ x) → IfOk r (λ b. b ≡ y)
as_value (Ok b) x y e h = h ∙ e
as_value (Err f) x y e h = tt
