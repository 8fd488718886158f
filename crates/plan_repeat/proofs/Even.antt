-- Values that change evenly: where each function grows by the same amount at each step, so does a linear expression, and one
-- that reads no changing function keeps its value.
use Rattle.std.proofs.Common.{◌≡◌, ℕ, ◌+◌, ◌≤◌, Bool, true, false, not, cond, ◌&&◌, ◌||◌, List, [], ◌∷◌, map, Option, Some, None, refl, sym, ap, ap₂, subst, ◌∙◌, arith}
use Rattle.std.specs.Prelude.{unwrap_or, nat_le, count_by}
use Rattle.std.specs.Option.{option_map}
use Rattle.std.proofs.lemmas.Bool.{and_parts}
use Rattle.std.proofs.lemmas.Bool.Decides.{nat_tests}
use Rattle.std.proofs.lemmas.List.Sums.{sum_by-cons}
use lib.IntN.{pos}
use Rattle.algebra.proofs.Solve.{v, k, ◌⊕◌, ◌⊗◌, inv, solve}
use Rattle.rational.specs.Fraction.{Fraction, whole, neg_ℚ, inv_ℚ, ◌+ℚ◌, ◌*ℚ◌, ◌-ℚ◌, ◌/ℚ◌}
use Rattle.rational.proofs.FieldLaws.{fraction-ring}
use Rattle.pddl_task.specs.Linear.{Linearity, linearity, any_reads, all_linear, one_reads, linearity_step, linearity_of}
use Rattle.pddl_task.specs.declared.expression.Term.{Term}
use Rattle.pddl_task.specs.declared.expression.Expr.{Expr}
use Rattle.pddl_task.specs.declared.expression.Expr.TheVariants as expr
use Rattle.pddl_task.specs.declared.expression.Expr.TheOpen.{Expr-F}
use Rattle.pddl_task.specs.declared.expression.Expr.TheFolds.{fold-Expr, fold-roll-Expr, ind-Expr, map-Expr}
use Rattle.pddl_task.specs.declared.expression.Expr.TheViews.{roll-Expr}
use Rattle.plan_step.specs.State.{PlanState}
use Rattle.plan_step.specs.Meaning.{objects_of, is_zero_ℤ, with_both, plus, times, minus, sum_of, product_of, quotient_of, value_of}
use Rattle.plan_step.proofs.Meanings.{value-num, value-call, value-add, value-mul, value-neg, value-sub, value-div}

-- ---- a value, if there is one, that grows by d at each step
abbrev pub moved : ℕ → Fraction → Option Fraction → Option Fraction
moved n d o = option_map (λ x. x +ℚ whole (pos n) *ℚ d) o

pub record OnLine (o : Option Fraction) (p : ℕ → Option Fraction) : Type 0 where
  pub by : Fraction
  pub is : (n : ℕ) → p n ≡ moved n by o

abbrev pub or_zero : Option Fraction → Fraction
or_zero o = unwrap_or o (whole (pos 0))

not_moved : (n : ℕ) (o : Option Fraction) → o ≡ moved n (whole (pos 0)) o
not_moved n None = refl
not_moved n (Some x) = ap Some (solve fraction-ring (v 0) (v 0 ⊕ v 1 ⊗ k (pos 0)) (x ∷ whole (pos n) ∷ []) refl)

pub line-fixed : (o : Option Fraction) (p : ℕ → Option Fraction) → ((n : ℕ) → p n ≡ o) → OnLine o p
line-fixed o p h = record { by = whole (pos 0); is = λ n. h n ∙ not_moved n o }

plus_moved : (n : ℕ) (d e : Fraction) (o u : Option Fraction) → with_both plus (moved n d o) (moved n e u) ≡ moved n (d +ℚ e) (with_both plus o u)
plus_moved n d e None u = refl
plus_moved n d e (Some x) None = refl
plus_moved n d e (Some x) (Some y) =
    ap Some (solve fraction-ring (v 0 ⊕ v 2 ⊗ v 3 ⊕ (v 1 ⊕ v 2 ⊗ v 4)) (v 0 ⊕ v 1 ⊕ v 2 ⊗ (v 3 ⊕ v 4)) (x ∷ y ∷ whole (pos n) ∷ d ∷ e ∷ []) refl)

minus_moved : (n : ℕ) (d e : Fraction) (o u : Option Fraction) → with_both minus (moved n d o) (moved n e u) ≡ moved n (d -ℚ e) (with_both minus o u)
minus_moved n d e None u = refl
minus_moved n d e (Some x) None = refl
minus_moved n d e (Some x) (Some y) =
    ap Some (solve fraction-ring (v 0 ⊕ v 2 ⊗ v 3 ⊕ inv (v 1 ⊕ v 2 ⊗ v 4)) (v 0 ⊕ inv (v 1) ⊕ v 2 ⊗ (v 3 ⊕ inv (v 4))) (x ∷ y ∷ whole (pos n) ∷ d ∷ e ∷ []) refl)

neg_moved : (n : ℕ) (d : Fraction) (o : Option Fraction) → option_map neg_ℚ (moved n d o) ≡ moved n (neg_ℚ d) (option_map neg_ℚ o)
neg_moved n d None = refl
neg_moved n d (Some x) = ap Some (solve fraction-ring (inv (v 0 ⊕ v 1 ⊗ v 2)) (inv (v 0) ⊕ v 1 ⊗ inv (v 2)) (x ∷ whole (pos n) ∷ d ∷ []) refl)

times_moved : (n : ℕ) (d : Fraction) (o u : Option Fraction) → with_both times (moved n d o) u ≡ moved n (d *ℚ or_zero u) (with_both times o u)
times_moved n d None u = refl
times_moved n d (Some x) None = refl
times_moved n d (Some x) (Some y) =
    ap Some (solve fraction-ring ((v 0 ⊕ v 2 ⊗ v 3) ⊗ v 1) (v 0 ⊗ v 1 ⊕ v 2 ⊗ (v 3 ⊗ v 1)) (x ∷ y ∷ whole (pos n) ∷ d ∷ []) refl)

moved_times : (n : ℕ) (d : Fraction) (o u : Option Fraction) → with_both times o (moved n d u) ≡ moved n (or_zero o *ℚ d) (with_both times o u)
moved_times n d None u = refl
moved_times n d (Some x) None = refl
moved_times n d (Some x) (Some y) =
    ap Some (solve fraction-ring (v 0 ⊗ (v 1 ⊕ v 2 ⊗ v 3)) (v 0 ⊗ v 1 ⊕ v 2 ⊗ (v 0 ⊗ v 3)) (x ∷ y ∷ whole (pos n) ∷ d ∷ []) refl)

over_test : (n : ℕ) (d x y : Fraction) (b : Bool)
    → cond b None (Some ((x +ℚ whole (pos n) *ℚ d) /ℚ y)) ≡ moved n (d *ℚ inv_ℚ y) (cond b None (Some (x /ℚ y)))
over_test n d x y true = refl
over_test n d x y false = ap Some (solve fraction-ring ((v 0 ⊕ v 2 ⊗ v 3) ⊗ v 1) (v 0 ⊗ v 1 ⊕ v 2 ⊗ (v 3 ⊗ v 1)) (x ∷ inv_ℚ y ∷ whole (pos n) ∷ d ∷ []) refl)

over_moved : (n : ℕ) (d : Fraction) (o u : Option Fraction) → quotient_of (moved n d o) u ≡ moved n (d *ℚ inv_ℚ (or_zero u)) (quotient_of o u)
over_moved n d None u = refl
over_moved n d (Some x) None = refl
over_moved n d (Some x) (Some y) = over_test n d x y (is_zero_ℤ y.num)

module _ (o u : Option Fraction) (p q : ℕ → Option Fraction) (h : OnLine o p) where
  pub line-plus : OnLine u q → OnLine (with_both plus o u) (λ n. with_both plus (p n) (q n))
  line-plus g = record { by = h.by +ℚ g.by; is = λ n. ap₂ (with_both plus) (h.is n) (g.is n) ∙ plus_moved n h.by g.by o u }

  pub line-minus : OnLine u q → OnLine (with_both minus o u) (λ n. with_both minus (p n) (q n))
  line-minus g = record { by = h.by -ℚ g.by; is = λ n. ap₂ (with_both minus) (h.is n) (g.is n) ∙ minus_moved n h.by g.by o u }

  pub line-times : ((n : ℕ) → q n ≡ u) → OnLine (with_both times o u) (λ n. with_both times (p n) (q n))
  line-times g = record { by = h.by *ℚ or_zero u; is = λ n. ap₂ (with_both times) (h.is n) (g n) ∙ times_moved n h.by o u }

  pub times-line : ((n : ℕ) → q n ≡ u) → OnLine (with_both times u o) (λ n. with_both times (q n) (p n))
  times-line g = record { by = or_zero u *ℚ h.by; is = λ n. ap₂ (with_both times) (g n) (h.is n) ∙ moved_times n h.by u o }

  pub line-over : ((n : ℕ) → q n ≡ u) → OnLine (quotient_of o u) (λ n. quotient_of (p n) (q n))
  line-over g = record { by = h.by *ℚ inv_ℚ (or_zero u); is = λ n. ap₂ quotient_of (h.is n) (g n) ∙ over_moved n h.by o u }

pub line-neg : (o : Option Fraction) (p : ℕ → Option Fraction) → OnLine o p → OnLine (option_map neg_ℚ o) (λ n. option_map neg_ℚ (p n))
line-neg o p h = record { by = neg_ℚ h.by; is = λ n. ap (option_map neg_ℚ) (h.is n) ∙ neg_moved n h.by o }

-- the same line, said of other words
pub line-as : (o u : Option Fraction) (p q : ℕ → Option Fraction) → OnLine o p → u ≡ o → ((n : ℕ) → q n ≡ p n) → OnLine u q
line-as o u p q h e f = record { by = h.by; is = λ n. f n ∙ h.is n ∙ sym (ap (moved n h.by) e) }

-- ---- linearity of each kind of expression
module _ (changing : ℕ → Bool) where
  abbrev pub line_of : Expr → Linearity
  line_of e = linearity_of changing e

  pub linear-num : (n : Fraction) → line_of (expr.Num n) ≡ linearity false true
  unfolding linearity_of
  linear-num n = ap (fold-Expr Linearity (linearity_step changing)) (sym (expr.rolls-Num n)) ∙ fold-roll-Expr Linearity (linearity_step changing) (Expr-F.Num n)

  pub linear-call : (func : ℕ) (terms : List Term) → line_of (expr.Call func terms) ≡ linearity (changing func) true
  unfolding linearity_of
  linear-call func terms = ap (fold-Expr Linearity (linearity_step changing)) (sym (expr.rolls-Call func terms)) ∙ fold-roll-Expr Linearity (linearity_step changing) (Expr-F.Call func terms)

  pub linear-add : (parts : List Expr) → line_of (expr.Add parts) ≡ linearity (any_reads (map line_of parts)) (all_linear (map line_of parts))
  unfolding linearity_of
  linear-add parts = ap (fold-Expr Linearity (linearity_step changing)) (sym (expr.rolls-Add parts)) ∙ fold-roll-Expr Linearity (linearity_step changing) (Expr-F.Add parts)

  pub linear-mul : (parts : List Expr) → line_of (expr.Mul parts) ≡ linearity (any_reads (map line_of parts)) (one_reads (map line_of parts) && all_linear (map line_of parts))
  unfolding linearity_of
  linear-mul parts = ap (fold-Expr Linearity (linearity_step changing)) (sym (expr.rolls-Mul parts)) ∙ fold-roll-Expr Linearity (linearity_step changing) (Expr-F.Mul parts)

  pub linear-neg : (a : Expr) → line_of (expr.Neg a) ≡ linearity (line_of a).reads (line_of a).linear
  unfolding linearity_of
  linear-neg a = ap (fold-Expr Linearity (linearity_step changing)) (sym (expr.rolls-Neg a)) ∙ fold-roll-Expr Linearity (linearity_step changing) (Expr-F.Neg a)

  pub linear-sub : (a b : Expr) → line_of (expr.Sub a b) ≡ linearity ((line_of a).reads || (line_of b).reads) ((line_of a).linear && (line_of b).linear)
  unfolding linearity_of
  linear-sub a b = ap (fold-Expr Linearity (linearity_step changing)) (sym (expr.rolls-Sub a b)) ∙ fold-roll-Expr Linearity (linearity_step changing) (Expr-F.Sub a b)

  pub linear-div : (a b : Expr) → line_of (expr.Div a b) ≡ linearity ((line_of a).reads || (line_of b).reads) (not (line_of b).reads && ((line_of a).linear && (line_of b).linear))
  unfolding linearity_of
  linear-div a b = ap (fold-Expr Linearity (linearity_step changing)) (sym (expr.rolls-Div a b)) ∙ fold-roll-Expr Linearity (linearity_step changing) (Expr-F.Div a b)

or_false : (a b : Bool) → (a || b) ≡ false → (a ≡ false) × (b ≡ false)
or_false true b e = absurd (cc)
or_false false b e = (refl, e)

pub not_true : (b : Bool) → not b ≡ true → b ≡ false
not_true true e = absurd (cc)
not_true false e = refl

none_first : (b rest : Bool) (m : ℕ) → cond b 1 0 + m ≡ 0 → (m ≡ 0 → rest ≡ false) → (b || rest) ≡ false
none_first true rest m h f = absurd (omega arith)
none_first false rest m h f = f (omega arith)

at_most : (m n : ℕ) → nat_le m n ≡ true → m ≤ n
at_most m n h = grind (arith, nat_tests)

-- ---- the value of an expression in states that differ in evenly growing functions
module _ (changing : ℕ → Bool) (args : List ℕ) (s : PlanState) (at : ℕ → PlanState)
    (grows : (f : ℕ) (others : List ℕ) → OnLine (s.value f others) (λ n. (at n).value f others))
    (stays : (f : ℕ) (others : List ℕ) → changing f ≡ false → (n : ℕ) → (at n).value f others ≡ s.value f others) where
  abbrev old : Expr → Option Fraction
  old e = value_of s args e

  abbrev new : ℕ → Expr → Option Fraction
  new n e = value_of (at n) args e

  pub record Behaves (e : Expr) : Type 0 where
    pub line : (line_of changing e).linear ≡ true → OnLine (old e) (λ n. new n e)
    pub fixed : (line_of changing e).reads ≡ false → (n : ℕ) → new n e ≡ old e

  abbrev Part : Type 0
  Part = (e : Expr) × Behaves e

  abbrev exprs : List Part → List Expr
  exprs parts = map (λ p. p.0) parts

  sum-line : (parts : List Part) → all_linear (map (line_of changing) (exprs parts)) ≡ true → OnLine (sum_of (map old (exprs parts))) (λ n. sum_of (map (new n) (exprs parts)))
  sum-line [] h = line-fixed (Some (whole (pos 0))) (λ n. Some (whole (pos 0))) (λ n. refl)
  sum-line (p ∷ parts) h =
      let b = and_parts (line_of changing p.0).linear (all_linear (map (line_of changing) (exprs parts))) h in
      line-plus (old p.0) (sum_of (map old (exprs parts))) (λ n. new n p.0) (λ n. sum_of (map (new n) (exprs parts))) (p.1.line b.0) (sum-line parts b.1)

  sum-fixed : (parts : List Part) → any_reads (map (line_of changing) (exprs parts)) ≡ false → (n : ℕ) → sum_of (map (new n) (exprs parts)) ≡ sum_of (map old (exprs parts))
  sum-fixed [] h n = refl
  sum-fixed (p ∷ parts) h n =
      let b = or_false (line_of changing p.0).reads (any_reads (map (line_of changing) (exprs parts))) h in
      ap₂ (with_both plus) (p.1.fixed b.0 n) (sum-fixed parts b.1 n)

  product-fixed : (parts : List Part) → any_reads (map (line_of changing) (exprs parts)) ≡ false → (n : ℕ) → product_of (map (new n) (exprs parts)) ≡ product_of (map old (exprs parts))
  product-fixed [] h n = refl
  product-fixed (p ∷ parts) h n =
      let b = or_false (line_of changing p.0).reads (any_reads (map (line_of changing) (exprs parts))) h in
      ap₂ (with_both times) (p.1.fixed b.0 n) (product-fixed parts b.1 n)

  abbrev how_many : List Linearity → ℕ
  how_many ls = count_by (λ l. l.reads) ls

  count-more : (l : Linearity) (ls : List Linearity) → how_many (l ∷ ls) ≡ cond l.reads 1 0 + how_many ls
  count-more l ls = sum_by-cons (λ (m : Linearity). cond m.reads 1 0) l ls

  none_read : (ls : List Linearity) → how_many ls ≡ 0 → any_reads ls ≡ false
  none_read [] h = refl
  none_read (l ∷ ls) h = none_first l.reads (any_reads ls) (how_many ls) (sym (count-more l ls) ∙ h) (none_read ls)

  product-more : (p : Part) (parts : List Part) (b : Bool) → (line_of changing p.0).reads ≡ b → cond b 1 0 + how_many (map (line_of changing) (exprs parts)) ≤ 1
      → (line_of changing p.0).linear ≡ true
      → (how_many (map (line_of changing) (exprs parts)) ≤ 1 → OnLine (product_of (map old (exprs parts))) (λ n. product_of (map (new n) (exprs parts))))
      → OnLine (product_of (map old (exprs (p ∷ parts)))) (λ n. product_of (map (new n) (exprs (p ∷ parts))))
  product-more p parts true e m h rest =
      let none : how_many (map (line_of changing) (exprs parts)) ≡ 0 = omega arith in
      line-times (old p.0) (product_of (map old (exprs parts))) (λ n. new n p.0) (λ n. product_of (map (new n) (exprs parts))) (p.1.line h) (product-fixed parts (none_read (map (line_of changing) (exprs parts)) none))
  product-more p parts false e m h rest =
      times-line (product_of (map old (exprs parts))) (old p.0) (λ n. product_of (map (new n) (exprs parts))) (λ n. new n p.0) (rest (omega arith)) (p.1.fixed e)

  product-line : (parts : List Part) → how_many (map (line_of changing) (exprs parts)) ≤ 1 → all_linear (map (line_of changing) (exprs parts)) ≡ true
      → OnLine (product_of (map old (exprs parts))) (λ n. product_of (map (new n) (exprs parts)))
  product-line [] m h = line-fixed (Some (whole (pos 1))) (λ n. Some (whole (pos 1))) (λ n. refl)
  product-line (p ∷ parts) m h =
      let b = and_parts (line_of changing p.0).linear (all_linear (map (line_of changing) (exprs parts))) h in
      let ls = map (line_of changing) (exprs parts) in
      let few : cond (line_of changing p.0).reads 1 0 + how_many ls ≤ 1 = subst (λ (c : ℕ). c ≤ 1) (count-more (line_of changing p.0) ls) m in
      product-more p parts (line_of changing p.0).reads refl few b.0 (λ f. product-line parts f b.1)

  -- ---- each kind of expression
  module _ (e : Expr) (l : Linearity) (is : line_of changing e ≡ l) where
    has_line : l.linear ≡ true → (line_of changing e).linear ≡ true
    has_line h = ap (λ (m : Linearity). m.linear) is ∙ h

    is_linear : (line_of changing e).linear ≡ true → l.linear ≡ true
    is_linear h = sym (ap (λ (m : Linearity). m.linear) is) ∙ h

    reads_none : (line_of changing e).reads ≡ false → l.reads ≡ false
    reads_none h = sym (ap (λ (m : Linearity). m.reads) is) ∙ h

  behaves-num : (x : Fraction) → Behaves (expr.Num x)
  behaves-num x =
      let same : (n : ℕ) → new n (expr.Num x) ≡ old (expr.Num x) = λ n. value-num (at n) args x ∙ sym (value-num s args x) in
      record { line = λ _. line-fixed (old (expr.Num x)) (λ n. new n (expr.Num x)) same; fixed = λ _. same }

  behaves-call : (func : ℕ) (terms : List Term) → Behaves (expr.Call func terms)
  behaves-call func terms = record {
    line = λ _. line-as (s.value func (objects_of args terms)) (old (expr.Call func terms)) (λ n. (at n).value func (objects_of args terms)) (λ n. new n (expr.Call func terms))
        (grows func (objects_of args terms)) (value-call s args func terms) (λ n. value-call (at n) args func terms);
    fixed = λ r n. value-call (at n) args func terms
        ∙ stays func (objects_of args terms) (reads_none (expr.Call func terms) (linearity (changing func) true) (linear-call changing func terms) r) n
        ∙ sym (value-call s args func terms);
  }

  behaves-add : (parts : List Part) → Behaves (expr.Add (exprs parts))
  behaves-add parts =
      let es = exprs parts in
      let ls = map (line_of changing) es in
      record {
        line = λ h. line-as (sum_of (map old es)) (old (expr.Add es)) (λ n. sum_of (map (new n) es)) (λ n. new n (expr.Add es))
            (sum-line parts (is_linear (expr.Add es) (linearity (any_reads ls) (all_linear ls)) (linear-add changing es) h)) (value-add s args es) (λ n. value-add (at n) args es);
        fixed = λ r n. value-add (at n) args es ∙ sum-fixed parts (reads_none (expr.Add es) (linearity (any_reads ls) (all_linear ls)) (linear-add changing es) r) n ∙ sym (value-add s args es);
      }

  behaves-mul : (parts : List Part) → Behaves (expr.Mul (exprs parts))
  behaves-mul parts =
      let es = exprs parts in
      let ls = map (line_of changing) es in
      let l = linearity (any_reads ls) (one_reads ls && all_linear ls) in
      record {
        line = λ h.
            let b = and_parts (one_reads ls) (all_linear ls) (is_linear (expr.Mul es) l (linear-mul changing es) h) in
            line-as (product_of (map old es)) (old (expr.Mul es)) (λ n. product_of (map (new n) es)) (λ n. new n (expr.Mul es))
            (product-line parts (at_most (how_many ls) 1 b.0) b.1) (value-mul s args es) (λ n. value-mul (at n) args es);
        fixed = λ r n. value-mul (at n) args es ∙ product-fixed parts (reads_none (expr.Mul es) l (linear-mul changing es) r) n ∙ sym (value-mul s args es);
      }

  behaves-neg : (a : Part) → Behaves (expr.Neg a.0)
  behaves-neg a =
      let l = linearity (line_of changing a.0).reads (line_of changing a.0).linear in
      record {
        line = λ h. line-as (option_map neg_ℚ (old a.0)) (old (expr.Neg a.0)) (λ n. option_map neg_ℚ (new n a.0)) (λ n. new n (expr.Neg a.0))
            (line-neg (old a.0) (λ n. new n a.0) (a.1.line (is_linear (expr.Neg a.0) l (linear-neg changing a.0) h))) (value-neg s args a.0) (λ n. value-neg (at n) args a.0);
        fixed = λ r n. value-neg (at n) args a.0 ∙ ap (option_map neg_ℚ) (a.1.fixed (reads_none (expr.Neg a.0) l (linear-neg changing a.0) r) n) ∙ sym (value-neg s args a.0);
      }

  behaves-sub : (a b : Part) → Behaves (expr.Sub a.0 b.0)
  behaves-sub a b =
      let la = line_of changing a.0 in
      let lb = line_of changing b.0 in
      let l = linearity (la.reads || lb.reads) (la.linear && lb.linear) in
      record {
        line = λ h.
            let both = and_parts la.linear lb.linear (is_linear (expr.Sub a.0 b.0) l (linear-sub changing a.0 b.0) h) in
            line-as (with_both minus (old a.0) (old b.0)) (old (expr.Sub a.0 b.0)) (λ n. with_both minus (new n a.0) (new n b.0)) (λ n. new n (expr.Sub a.0 b.0))
            (line-minus (old a.0) (old b.0) (λ n. new n a.0) (λ n. new n b.0) (a.1.line both.0) (b.1.line both.1)) (value-sub s args a.0 b.0) (λ n. value-sub (at n) args a.0 b.0);
        fixed = λ r n.
            let both = or_false la.reads lb.reads (reads_none (expr.Sub a.0 b.0) l (linear-sub changing a.0 b.0) r) in
            value-sub (at n) args a.0 b.0 ∙ ap₂ (with_both minus) (a.1.fixed both.0 n) (b.1.fixed both.1 n) ∙ sym (value-sub s args a.0 b.0);
      }

  behaves-div : (a b : Part) → Behaves (expr.Div a.0 b.0)
  behaves-div a b =
      let la = line_of changing a.0 in
      let lb = line_of changing b.0 in
      let l = linearity (la.reads || lb.reads) (not lb.reads && (la.linear && lb.linear)) in
      record {
        line = λ h.
            let some = and_parts (not lb.reads) (la.linear && lb.linear) (is_linear (expr.Div a.0 b.0) l (linear-div changing a.0 b.0) h) in
            let both = and_parts la.linear lb.linear some.1 in
            line-as (quotient_of (old a.0) (old b.0)) (old (expr.Div a.0 b.0)) (λ n. quotient_of (new n a.0) (new n b.0)) (λ n. new n (expr.Div a.0 b.0))
            (line-over (old a.0) (old b.0) (λ n. new n a.0) (λ n. new n b.0) (a.1.line both.0) (b.1.fixed (not_true lb.reads some.0))) (value-div s args a.0 b.0) (λ n. value-div (at n) args a.0 b.0);
        fixed = λ r n.
            let both = or_false la.reads lb.reads (reads_none (expr.Div a.0 b.0) l (linear-div changing a.0 b.0) r) in
            value-div (at n) args a.0 b.0 ∙ ap₂ quotient_of (a.1.fixed both.0 n) (b.1.fixed both.1 n) ∙ sym (value-div s args a.0 b.0);
      }

  rolled : (y : Expr-F Part) → Behaves (roll-Expr (map-Expr Part Expr (λ p. p.0) y))
  rolled (Expr-F.Num x) = subst Behaves (sym (expr.rolls-Num x)) (behaves-num x)
  rolled (Expr-F.Call func terms) = subst Behaves (sym (expr.rolls-Call func terms)) (behaves-call func terms)
  rolled (Expr-F.Add parts) = subst Behaves (sym (expr.rolls-Add (exprs parts))) (behaves-add parts)
  rolled (Expr-F.Mul parts) = subst Behaves (sym (expr.rolls-Mul (exprs parts))) (behaves-mul parts)
  rolled (Expr-F.Neg a) = subst Behaves (sym (expr.rolls-Neg a.0)) (behaves-neg a)
  rolled (Expr-F.Sub a b) = subst Behaves (sym (expr.rolls-Sub a.0 b.0)) (behaves-sub a b)
  rolled (Expr-F.Div a b) = subst Behaves (sym (expr.rolls-Div a.0 b.0)) (behaves-div a b)

  pub behaves : (e : Expr) → Behaves e
  behaves = ind-Expr Behaves (λ x y is. let P : Expr-F Expr → Type 0 = λ d. Behaves (roll-Expr d) in subst P is (rolled y))
