-- What an expression reads, from what its parts read.
use Rattle.std.proofs.Common.{◌≡◌, ℕ, List, [], ◌∷◌, ◌++◌, map, Result, refl, sym, ap, ap₂, subst, ◌∙◌}
use Rattle.std.specs.Prelude.{OnOk}
use Rattle.std.specs.List.{flat_map}
use Rattle.std.proofs.lemmas.List.{append-nil}
use Rattle.rational.specs.Fraction.{Fraction}
use Rattle.pddl_task.specs.declared.expression.Term.{Term}
use Rattle.pddl_task.specs.declared.expression.Expr.{Expr}
use Rattle.pddl_task.specs.declared.expression.Expr.TheVariants as expr
use Rattle.pddl_task.specs.declared.expression.Expr.TheOpen.{Expr-F}
use Rattle.pddl_task.specs.declared.expression.Expr.TheFolds.{fold-Expr, fold-roll-Expr}
use Rattle.plan_step.specs.Meaning.{objects_of}
use Rattle.ground_numbers.specs.Numbers.{named}
use Rattle.ground_action.specs.Setting.{Setting}
use Rattle.ground_draft.specs.inside.Lists.{call_reads, joined, reads_step, expression_reads}

joined_map : {A : Type 0} (f : A → List ℕ) (xs : List A) → joined (map f xs) ≡ flat_map f xs
joined_map f [] = refl
joined_map f (x ∷ xs) = ap (λ l. f x ++ l) (joined_map f xs)

pub as_read : {A B : Type 0} (r : Result A B) (new old xs ys : List ℕ) → xs ≡ ys → OnOk r (new ≡ old ++ xs) → OnOk r (new ≡ old ++ ys)
as_read r new old xs ys e h = let P : List ℕ → Type 0 = λ zs. OnOk r (new ≡ old ++ zs) in subst P e h

module _ (set : Setting) (args : List ℕ) where
  reads-num : (n : Fraction) → expression_reads set args (expr.Num n) ≡ []
  unfolding expression_reads
  reads-num n = ap (fold-Expr (List ℕ) (reads_step set args)) (sym (expr.rolls-Num n)) ∙ fold-roll-Expr (List ℕ) (reads_step set args) (Expr-F.Num n)

  reads-call : (func : ℕ) (terms : List Term) → expression_reads set args (expr.Call func terms) ≡ call_reads set (named func (objects_of args terms))
  unfolding expression_reads
  reads-call func terms = ap (fold-Expr (List ℕ) (reads_step set args)) (sym (expr.rolls-Call func terms)) ∙ fold-roll-Expr (List ℕ) (reads_step set args) (Expr-F.Call func terms)

  reads-add : (parts : List Expr) → expression_reads set args (expr.Add parts) ≡ flat_map (expression_reads set args) parts
  unfolding expression_reads
  reads-add parts = ap (fold-Expr (List ℕ) (reads_step set args)) (sym (expr.rolls-Add parts)) ∙ fold-roll-Expr (List ℕ) (reads_step set args) (Expr-F.Add parts) ∙ joined_map (fold-Expr (List ℕ) (reads_step set args)) parts

  reads-mul : (parts : List Expr) → expression_reads set args (expr.Mul parts) ≡ flat_map (expression_reads set args) parts
  unfolding expression_reads
  reads-mul parts = ap (fold-Expr (List ℕ) (reads_step set args)) (sym (expr.rolls-Mul parts)) ∙ fold-roll-Expr (List ℕ) (reads_step set args) (Expr-F.Mul parts) ∙ joined_map (fold-Expr (List ℕ) (reads_step set args)) parts

  reads-neg : (a : Expr) → expression_reads set args (expr.Neg a) ≡ expression_reads set args a
  unfolding expression_reads
  reads-neg a = ap (fold-Expr (List ℕ) (reads_step set args)) (sym (expr.rolls-Neg a)) ∙ fold-roll-Expr (List ℕ) (reads_step set args) (Expr-F.Neg a)

  reads-sub : (a b : Expr) → expression_reads set args (expr.Sub a b) ≡ expression_reads set args a ++ expression_reads set args b
  unfolding expression_reads
  reads-sub a b = ap (fold-Expr (List ℕ) (reads_step set args)) (sym (expr.rolls-Sub a b)) ∙ fold-roll-Expr (List ℕ) (reads_step set args) (Expr-F.Sub a b)

  reads-div : (a b : Expr) → expression_reads set args (expr.Div a b) ≡ expression_reads set args a ++ expression_reads set args b
  unfolding expression_reads
  reads-div a b = ap (fold-Expr (List ℕ) (reads_step set args)) (sym (expr.rolls-Div a b)) ∙ fold-roll-Expr (List ℕ) (reads_step set args) (Expr-F.Div a b)

  -- ---- at an expression that is one of these
  pub by_num : (e : Expr) (n : Fraction) (out : List ℕ) → e ≡ expr.Num n → out ≡ out ++ expression_reads set args e
  by_num e n out is = sym (ap (λ l. out ++ l) (ap (expression_reads set args) is ∙ reads-num n) ∙ append-nil out)

  pub by_call : (e : Expr) (func : ℕ) (terms said : List Term) → e ≡ expr.Call func terms → said ≡ terms → call_reads set (named func (objects_of args said)) ≡ expression_reads set args e
  by_call e func terms said is same = ap (λ ts. call_reads set (named func (objects_of args ts))) same ∙ sym (ap (expression_reads set args) is ∙ reads-call func terms)

  pub by_add : (e : Expr) (parts said : List Expr) → e ≡ expr.Add parts → said ≡ parts → flat_map (expression_reads set args) said ≡ expression_reads set args e
  by_add e parts said is same = ap (flat_map (expression_reads set args)) same ∙ sym (ap (expression_reads set args) is ∙ reads-add parts)

  pub by_mul : (e : Expr) (parts said : List Expr) → e ≡ expr.Mul parts → said ≡ parts → flat_map (expression_reads set args) said ≡ expression_reads set args e
  by_mul e parts said is same = ap (flat_map (expression_reads set args)) same ∙ sym (ap (expression_reads set args) is ∙ reads-mul parts)

  pub by_neg : (e a said : Expr) → e ≡ expr.Neg a → said ≡ a → expression_reads set args said ≡ expression_reads set args e
  by_neg e a said is same = ap (expression_reads set args) same ∙ sym (ap (expression_reads set args) is ∙ reads-neg a)

  pub by_sub : (e a b said also : Expr) → e ≡ expr.Sub a b → said ≡ a → also ≡ b → expression_reads set args said ++ expression_reads set args also ≡ expression_reads set args e
  by_sub e a b said also is same so = ap₂ (λ x y. expression_reads set args x ++ expression_reads set args y) same so ∙ sym (ap (expression_reads set args) is ∙ reads-sub a b)

  pub by_div : (e a b said also : Expr) → e ≡ expr.Div a b → said ≡ a → also ≡ b → expression_reads set args said ++ expression_reads set args also ≡ expression_reads set args e
  by_div e a b said also is same so = ap₂ (λ x y. expression_reads set args x ++ expression_reads set args y) same so ∙ sym (ap (expression_reads set args) is ∙ reads-div a b)
