-- What an expression reads, by its parts; and lists of tests.
use Rattle.std.proofs.Common.{◌≡◌, ℕ, ◌+◌, ◌<◌, ◌≤◌, Bool, true, false, ◌&&◌, ◌||◌, List, ◌∷◌, map, length, drop, get_or, sym, ap, ap₂, ◌∙◌}
use Rattle.std.proofs.lemmas.List.{drop_more, drop_all}
use Rattle.std.specs.List.{list_all}
use Rattle.rational.specs.Fraction.{Fraction}
use Rattle.pddl_task.specs.Linear.{Linearity, linearity_of, any_reads}
use Rattle.pddl_task.specs.declared.expression.Term.{Term}
use Rattle.pddl_task.specs.declared.expression.Expr.{Expr}
use Rattle.pddl_task.specs.declared.expression.Expr.TheVariants as expr
use Rattle.plan_repeat.proofs.Even.{linear-num, linear-call, linear-add, linear-mul, linear-neg, linear-sub, linear-div}

module _ (changing : ℕ → Bool) where
  abbrev Lines : List Expr → List Linearity
  Lines es = map (linearity_of changing) es

  abbrev Reads : Expr → Bool
  Reads e = (linearity_of changing e).reads

  module _ (e : Expr) (b : Bool) where
    of : (d : Expr) (l : Linearity) → e ≡ d → linearity_of changing d ≡ l → b ≡ l.reads → b ≡ Reads e
    of d l is line h = h ∙ sym (ap (λ (x : Expr). Reads x) is ∙ ap (λ (m : Linearity). m.reads) line)

    pub reads-num : (x : Fraction) → e ≡ expr.Num x → b ≡ false → b ≡ Reads e
    reads-num x is h = of (expr.Num x) _ is (linear-num changing x) h

    pub reads-call : (f : ℕ) (terms : List Term) → e ≡ expr.Call f terms → b ≡ changing f → b ≡ Reads e
    reads-call f terms is h = of (expr.Call f terms) _ is (linear-call changing f terms) h

    pub reads-add : (es items : List Expr) → e ≡ expr.Add es → items ≡ es → b ≡ any_reads (Lines items) → b ≡ Reads e
    reads-add es items is same h = of (expr.Add es) _ is (linear-add changing es) (h ∙ ap (λ (ds : List Expr). any_reads (Lines ds)) same)

    pub reads-mul : (es items : List Expr) → e ≡ expr.Mul es → items ≡ es → b ≡ any_reads (Lines items) → b ≡ Reads e
    reads-mul es items is same h = of (expr.Mul es) _ is (linear-mul changing es) (h ∙ ap (λ (ds : List Expr). any_reads (Lines ds)) same)

    pub reads-neg : (a d : Expr) → e ≡ expr.Neg a → d ≡ a → b ≡ Reads d → b ≡ Reads e
    reads-neg a d is same h = of (expr.Neg a) _ is (linear-neg changing a) (h ∙ ap (λ (x : Expr). Reads x) same)

    pub reads-sub : (a₁ a₂ c d : Expr) → e ≡ expr.Sub a₁ a₂ → c ≡ a₁ → d ≡ a₂ → b ≡ (Reads c || Reads d) → b ≡ Reads e
    reads-sub a₁ a₂ c d is same also h = of (expr.Sub a₁ a₂) _ is (linear-sub changing a₁ a₂) (h ∙ ap₂ (λ (x y : Expr). Reads x || Reads y) same also)

    pub reads-div : (a₁ a₂ c d : Expr) → e ≡ expr.Div a₁ a₂ → c ≡ a₁ → d ≡ a₂ → b ≡ (Reads c || Reads d) → b ≡ Reads e
    reads-div a₁ a₂ c d is same also h = of (expr.Div a₁ a₂) _ is (linear-div changing a₁ a₂) (h ∙ ap₂ (λ (x y : Expr). Reads x || Reads y) same also)

-- ---- lists of tests that all pass, from the first on
module _ {X : Type 0} (test : X → Bool) (xs : List X) where
  abbrev pub AllSoFar : ℕ → Type 0
  AllSoFar i = list_all test (drop i xs) ≡ list_all test xs

  pub all-next : (i : ℕ) (x : X) → i < length xs → x ≡ get_or xs i x → test x ≡ true → AllSoFar i → AllSoFar (i + 1)
  all-next i x within is passed h = sym (ap (list_all test) (drop_more xs i x within ∙ ap (λ (y : X). y ∷ drop (i + 1) xs) (sym is)) ∙ ap (λ (b : Bool). b && list_all test (drop (i + 1) xs)) passed) ∙ h

  pub all-fails : (i : ℕ) (x : X) → i < length xs → x ≡ get_or xs i x → test x ≡ false → AllSoFar i → false ≡ list_all test xs
  all-fails i x within is failed h = sym (ap (list_all test) (drop_more xs i x within ∙ ap (λ (y : X). y ∷ drop (i + 1) xs) (sym is)) ∙ ap (λ (b : Bool). b && list_all test (drop (i + 1) xs)) failed) ∙ h

  pub all-done : (i : ℕ) → length xs ≤ i → AllSoFar i → true ≡ list_all test xs
  all-done i past h = sym (ap (list_all test) (drop_all i xs past)) ∙ h
