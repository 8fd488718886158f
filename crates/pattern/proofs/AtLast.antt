-- Values before the last repetition, and why two repetitions say all.
use Rattle.std.proofs.Common.{◌≡◌, ℕ, zero, suc, ◌<◌, Bool, true, false, cond, List, [], ◌∷◌, refl, sym, ap, subst, ◌∙◌, nat_eq, arith}
use Rattle.std.specs.Prelude.{slice_get, Some, unsigned_abs, nat_lt, Result}
use Rattle.std.specs.List.{AllByRecursion, list_all}
use Rattle.std.proofs.lemmas.Bool.{and_parts}
use Rattle.std.proofs.lemmas.Bool.Decides.{nat_tests}
use mathlib.Core.Path.{fun_ext}
use lib.IntN.{pos}
use Rattle.algebra.proofs.Solve.{v, k, ◌⊕◌, ◌⊗◌, inv, solve, solve_from, eq, done}
use Rattle.rational.specs.Fraction.{Fraction, whole, ◌+ℚ◌, ◌*ℚ◌, ◌-ℚ◌}
use Rattle.rational.specs.Linear.{Terms, value_at, coefficient_of}
use Rattle.rational.proofs.FieldLaws.{fraction-ring, whole_injective}
use Rattle.frac128.specs.declared.operations.Wide.{Wide}
use Rattle.lin.specs.Linear.{Linear, value_of, AreBelow}
use Rattle.lin.specs.declared.comparison.Cmp.{Cmp}
use Rattle.task_core.specs.declared.action.GAction.{GAction}
use Rattle.task_core.specs.State.{State, ComparesToZero}
use Rattle.task_core.specs.Step.{ComparisonsHold, is_rollable}
use Rattle.task_core.specs.Growth.{grown}
use Rattle.task_core.specs.Rolling.{repeated}
use Rattle.task_core.proofs.GrowthLaws.{whole-suc}
use Rattle.task_core.proofs.RollingLaws.{rollable-value, comparisons_between}
use Rattle.pattern.specs.Rolled.{valued, HoldsEachTime, in_turn, function_growth, last_value, term_value, plus_term, value_at_last, HoldsAtBoth, Tests, rolled_ops}
use Rattle.pattern.proofs.Testing.{tests-same}

true-below : (m n : ℕ) → nat_lt m n ≡ true → m < n
true-below m n h = grind (arith, nat_tests)

pub variable_below : (vars : ℕ) (ts : Terms) (i : ℕ) (t : ℕ × Fraction) → AreBelow vars ts → slice_get ts i ≡ Some t → t.0 < vars
variable_below vars [] i t h e = absurd (cc)
variable_below vars (u ∷ ts) zero t h e =
    let same : u ≡ t = cc in
    true-below t.0 vars (ap (λ (x : ℕ × Fraction). nat_lt x.0 vars) (sym same) ∙ (and_parts (nat_lt u.0 vars) (list_all (λ x. nat_lt x.0 vars) ts) h).0)
variable_below vars (u ∷ ts) (suc i) t h e = variable_below vars ts i t (and_parts (nat_lt u.0 vars) (list_all (λ x. nat_lt x.0 vars) ts) h).1 e

-- an increment, and those after it
last-more : (count : Fraction) (f : ℕ) (i : ℕ × Fraction) (incs : Terms) (old : Fraction) (b : Bool)
    → ((x : Fraction) → in_turn (function_growth count f) x incs ≡ x +ℚ (count -ℚ whole (pos 1)) *ℚ coefficient_of f incs)
    → in_turn (function_growth count f) (cond b (old +ℚ i.1 *ℚ (count -ℚ whole (pos 1))) old) incs ≡ old +ℚ (count -ℚ whole (pos 1)) *ℚ (cond b i.1 (whole (pos 0)) +ℚ coefficient_of f incs)
last-more count f i incs old true h =
    let d = count -ℚ whole (pos 1) in
    h (old +ℚ i.1 *ℚ d) ∙ solve fraction-ring (v 0 ⊕ v 1 ⊗ v 2 ⊕ v 2 ⊗ v 3) (v 0 ⊕ v 2 ⊗ (v 1 ⊕ v 3)) (old ∷ i.1 ∷ d ∷ coefficient_of f incs ∷ []) refl
last-more count f i incs old false h =
    let d = count -ℚ whole (pos 1) in
    h old ∙ solve fraction-ring (v 0 ⊕ v 2 ⊗ v 3) (v 0 ⊕ v 2 ⊗ (k (pos 0) ⊕ v 3)) (old ∷ i.1 ∷ d ∷ coefficient_of f incs ∷ []) refl

last-is : (count : Fraction) (f : ℕ) (incs : Terms) (old : Fraction) → last_value incs count f old ≡ old +ℚ (count -ℚ whole (pos 1)) *ℚ coefficient_of f incs
last-is count f [] old = solve fraction-ring (v 0) (v 0 ⊕ v 1 ⊗ k (pos 0)) (old ∷ (count -ℚ whole (pos 1)) ∷ []) refl
last-is count f (i ∷ incs) old = last-more count f i incs old (nat_eq i.0 f) (last-is count f incs)

terms-are : (incs : Terms) (count : Fraction) (old : ℕ → Fraction) (ts : Terms) (so_far : Fraction) → in_turn (plus_term incs count old) so_far ts ≡ value_at (term_value incs count old) ts +ℚ so_far
terms-are incs count old [] so_far = solve fraction-ring (v 0) (k (pos 0) ⊕ v 0) (so_far ∷ []) refl
terms-are incs count old (t ∷ ts) so_far = terms-are incs count old ts (plus_term incs count old so_far t)
    ∙ solve fraction-ring (v 0 ⊕ (v 1 ⊕ v 2 ⊗ v 3)) (v 2 ⊗ v 3 ⊕ v 0 ⊕ v 1) (value_at (term_value incs count old) ts ∷ so_far ∷ t.1 ∷ term_value incs count old t.0 ∷ []) refl

point-is : (incs : Terms) (count : Fraction) (old : ℕ → Fraction) (n : ℕ) → count ≡ whole (pos (suc n)) → (f : ℕ) → term_value incs count old f ≡ grown incs n old f
point-is incs count old n e f = last-is count f incs (old f)
    ∙ solve_from fraction-ring (v 0 ⊕ (v 1 ⊕ inv (k (pos 1))) ⊗ v 2) (v 0 ⊕ v 3 ⊗ v 2) (old f ∷ count ∷ coefficient_of f incs ∷ whole (pos n) ∷ [])
    (eq (v 2) (v 1) (v 3 ⊕ k (pos 1)) (e ∙ whole-suc n) done) refl

last-value : (incs : Terms) (count : Fraction) (old : ℕ → Fraction) (n : ℕ) → count ≡ whole (pos (suc n)) → (l : Linear) → value_at_last incs count old l ≡ value_of (grown incs n old) l
last-value incs count old n e l = terms-are incs count old l.terms l.constant ∙ ap (λ (at : ℕ → Fraction). value_of at l) (fun_ext (point-is incs count old n e))

module _ (a : GAction) (r : is_rollable a ≡ true) (count : Fraction) (old : ℕ → Fraction) (n : ℕ) (e : count ≡ whole (pos (suc n))) where
  abbrev s : State
  s = valued old

  value-is : (l : Linear) → value_at_last a.incs count old l ≡ value_of (repeated n a s).value l
  value-is l = last-value a.incs count old n e l ∙ sym (ap (λ (at : ℕ → Fraction). value_of at l) (fun_ext (rollable-value a r n s)))

  both-first : (cmps : List (Linear × Cmp)) → AllByRecursion (HoldsAtBoth a.incs count old) cmps → ComparisonsHold s cmps
  both-first [] h = tt
  both-first (c ∷ cmps) h = (h.0.0, both-first cmps h.1)

  both-last : (cmps : List (Linear × Cmp)) → AllByRecursion (HoldsAtBoth a.incs count old) cmps → ComparisonsHold (repeated n a s) cmps
  both-last [] h = tt
  both-last (c ∷ cmps) h = (subst (ComparesToZero c.1) (value-is c.0) h.0.1, both-last cmps h.1)

  both : (cmps : List (Linear × Cmp)) → ComparisonsHold s cmps → ComparisonsHold (repeated n a s) cmps → AllByRecursion (HoldsAtBoth a.incs count old) cmps
  both [] first last = tt
  both (c ∷ cmps) first last = ((first.0, subst (ComparesToZero c.1) (sym (value-is c.0)) last.0), both cmps first.1 last.1)

  pub both-each : AllByRecursion (HoldsAtBoth a.incs count old) a.cmps → HoldsEachTime a old (suc n)
  both-each h = λ m l. comparisons_between a s m n a.cmps r (omega arith) (both-first a.cmps h) (both-last a.cmps h)

  pub each-both : HoldsEachTime a old (suc n) → AllByRecursion (HoldsAtBoth a.incs count old) a.cmps
  each-both h = both a.cmps (h 0 (omega arith)) (h n (omega arith))

same_count : (x : Fraction) (m n : ℕ) → x ≡ whole (pos m) → x ≡ whole (pos n) → m ≡ n
same_count x m n e f = ap unsigned_abs (whole_injective (pos m) (pos n) (sym e ∙ f))

module _ (a : GAction) (r : is_rollable a ≡ true) (count : Fraction) (old : ℕ → Fraction) (answer : Result Bool Wide) where
  abbrev AtBoth : Terms → List (Linear × Cmp) → Type 0
  AtBoth incs cmps = Tests (rolled_ops incs count old cmps) (AllByRecursion (HoldsAtBoth incs count old) cmps) answer

  here : AtBoth a.incs a.cmps → (m : ℕ) × (0 < m) × (count ≡ whole (pos m)) → (n : ℕ) → count ≡ whole (pos n) → Tests (rolled_ops a.incs count old a.cmps) (HoldsEachTime a old n) answer
  here h (m, some, is) zero e = let same : m ≡ 0 = same_count count m 0 is e in let above : 0 < m = some in absurd (omega arith)
  here h w (suc n) e = tests-same (rolled_ops a.incs count old a.cmps) _ _ answer (both-each a r count old n e) (each-both a r count old n e) h

  pub rolled-answers : (incs : Terms) (cmps : List (Linear × Cmp)) → incs ≡ a.incs → cmps ≡ a.cmps → AtBoth incs cmps → (m : ℕ) × (0 < m) × (count ≡ whole (pos m))
      → (n : ℕ) → count ≡ whole (pos n) → Tests (rolled_ops a.incs count old a.cmps) (HoldsEachTime a old n) answer
  rolled-answers incs cmps e f h w =
      here (subst (λ (cs : List (Linear × Cmp)). AtBoth a.incs cs) f (subst (λ (ts : Terms). AtBoth ts cmps) e h)) w
