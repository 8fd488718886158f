-- What an expression meets, from what its parts meet.
use Rattle.std.proofs.Common.{◌≡◌, ℕ, List, map, Option, Some, None, Ok, refl, sym, ap, ap₂, ◌∙◌}
use Rattle.rational.specs.Fraction.{Fraction, neg_ℚ}
use Rattle.frac128.specs.declared.operations.Op.TheVariants as op
use Rattle.pddl_task.specs.declared.expression.Term.{Term}
use Rattle.pddl_task.specs.declared.expression.Expr.{Expr}
use Rattle.pddl_task.specs.declared.expression.Expr.TheVariants as expr
use Rattle.pddl_task.specs.declared.expression.Expr.TheOpen.{Expr-F}
use Rattle.pddl_task.specs.declared.expression.Expr.TheFolds.{fold-Expr, fold-roll-Expr}
use Rattle.plan_step.specs.State.{PlanState}
use Rattle.plan_step.specs.Met.{Met, found, and_then, operated, value_or_none, met_of}
use Rattle.plan_step.specs.Evaluation.{folded, divided, evaluation_step, evaluated}
use Rattle.plan_step.specs.Meaning.{objects_of}

module _ (state : PlanState) (args : List ℕ) where
  pub evaluated-num : (n : Fraction) → evaluated state args (expr.Num n) ≡ found n
  unfolding evaluated
  evaluated-num n = ap (fold-Expr (Met Fraction) (evaluation_step state args)) (sym (expr.rolls-Num n)) ∙ fold-roll-Expr (Met Fraction) (evaluation_step state args) (Expr-F.Num n)

  pub evaluated-call : (func : ℕ) (terms : List Term) → evaluated state args (expr.Call func terms) ≡ value_or_none (state.value func (objects_of args terms))
  unfolding evaluated
  evaluated-call func terms = ap (fold-Expr (Met Fraction) (evaluation_step state args)) (sym (expr.rolls-Call func terms)) ∙ fold-roll-Expr (Met Fraction) (evaluation_step state args) (Expr-F.Call func terms)

  pub evaluated-add : (parts : List Expr) → evaluated state args (expr.Add parts) ≡ folded op.Add (map (evaluated state args) parts)
  unfolding evaluated
  evaluated-add parts = ap (fold-Expr (Met Fraction) (evaluation_step state args)) (sym (expr.rolls-Add parts)) ∙ fold-roll-Expr (Met Fraction) (evaluation_step state args) (Expr-F.Add parts)

  pub evaluated-mul : (parts : List Expr) → evaluated state args (expr.Mul parts) ≡ folded op.Mul (map (evaluated state args) parts)
  unfolding evaluated
  evaluated-mul parts = ap (fold-Expr (Met Fraction) (evaluation_step state args)) (sym (expr.rolls-Mul parts)) ∙ fold-roll-Expr (Met Fraction) (evaluation_step state args) (Expr-F.Mul parts)

  pub evaluated-neg : (a : Expr) → evaluated state args (expr.Neg a) ≡ and_then (evaluated state args a) (λ x. found (neg_ℚ x))
  unfolding evaluated
  evaluated-neg a = ap (fold-Expr (Met Fraction) (evaluation_step state args)) (sym (expr.rolls-Neg a)) ∙ fold-roll-Expr (Met Fraction) (evaluation_step state args) (Expr-F.Neg a)

  pub evaluated-sub : (a b : Expr) → evaluated state args (expr.Sub a b) ≡ and_then (evaluated state args a) (λ x. and_then (evaluated state args b) (λ y. operated op.Sub x y))
  unfolding evaluated
  evaluated-sub a b = ap (fold-Expr (Met Fraction) (evaluation_step state args)) (sym (expr.rolls-Sub a b)) ∙ fold-roll-Expr (Met Fraction) (evaluation_step state args) (Expr-F.Sub a b)

  pub evaluated-div : (a b : Expr) → evaluated state args (expr.Div a b) ≡ and_then (evaluated state args a) (λ x. and_then (evaluated state args b) (λ y. divided x y))
  unfolding evaluated
  evaluated-div a b = ap (fold-Expr (Met Fraction) (evaluation_step state args)) (sym (expr.rolls-Div a b)) ∙ fold-roll-Expr (Met Fraction) (evaluation_step state args) (Expr-F.Div a b)

  -- ---- the same at an expression that is one of these
  pub by_num : (e : Expr) (n : Fraction) → e ≡ expr.Num n → found n ≡ evaluated state args e
  by_num e n is = sym (ap (evaluated state args) is ∙ evaluated-num n)

  met_of-value : (r : Option Fraction) → met_of (Ok r) ≡ value_or_none r
  met_of-value None = refl
  met_of-value (Some x) = refl

  pub by_call : (e : Expr) (func : ℕ) (terms said : List Term) (r : Option Fraction) → e ≡ expr.Call func terms → said ≡ terms → r ≡ state.value func (objects_of args said) → met_of (Ok r) ≡ evaluated state args e
  by_call e func terms said r is same h =
      met_of-value r ∙ ap value_or_none (h ∙ ap (λ ts. state.value func (objects_of args ts)) same)
      ∙ sym (ap (evaluated state args) is ∙ evaluated-call func terms)

  pub by_add : (e : Expr) (parts said : List Expr) (m : Met Fraction) → e ≡ expr.Add parts → said ≡ parts → m ≡ folded op.Add (map (evaluated state args) said) → m ≡ evaluated state args e
  by_add e parts said m is same h =
      h ∙ ap (λ es. folded op.Add (map (evaluated state args) es)) same ∙ sym (ap (evaluated state args) is ∙ evaluated-add parts)

  pub by_mul : (e : Expr) (parts said : List Expr) (m : Met Fraction) → e ≡ expr.Mul parts → said ≡ parts → m ≡ folded op.Mul (map (evaluated state args) said) → m ≡ evaluated state args e
  by_mul e parts said m is same h =
      h ∙ ap (λ es. folded op.Mul (map (evaluated state args) es)) same ∙ sym (ap (evaluated state args) is ∙ evaluated-mul parts)

  pub by_neg : (e a said : Expr) (m : Met Fraction) → e ≡ expr.Neg a → said ≡ a → m ≡ and_then (evaluated state args said) (λ x. found (neg_ℚ x)) → m ≡ evaluated state args e
  by_neg e a said m is same h =
      h ∙ ap (λ t. and_then (evaluated state args t) (λ x. found (neg_ℚ x))) same ∙ sym (ap (evaluated state args) is ∙ evaluated-neg a)

  pub by_sub : (e a b said also : Expr) (m : Met Fraction) → e ≡ expr.Sub a b → said ≡ a → also ≡ b
      → m ≡ and_then (evaluated state args said) (λ x. and_then (evaluated state args also) (λ y. operated op.Sub x y)) → m ≡ evaluated state args e
  by_sub e a b said also m is same alike h =
      h ∙ ap₂ (λ s t. and_then (evaluated state args s) (λ x. and_then (evaluated state args t) (λ y. operated op.Sub x y))) same alike ∙ sym (ap (evaluated state args) is ∙ evaluated-sub a b)

  pub by_div : (e a b said also : Expr) (m : Met Fraction) → e ≡ expr.Div a b → said ≡ a → also ≡ b
      → m ≡ and_then (evaluated state args said) (λ x. and_then (evaluated state args also) (λ y. divided x y)) → m ≡ evaluated state args e
  by_div e a b said also m is same alike h =
      h ∙ ap₂ (λ s t. and_then (evaluated state args s) (λ x. and_then (evaluated state args t) (λ y. divided x y))) same alike ∙ sym (ap (evaluated state args) is ∙ evaluated-div a b)
