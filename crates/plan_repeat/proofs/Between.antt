-- A comparison that holds at two times of an even change holds between them: by the order of fractions, as in the ground task.
use Rattle.std.proofs.Common.{◌≡◌, ℕ, ◌≤◌, Bool, true, false, not, ◌&&◌, [], ◌∷◌, Option, Some, None, refl, sym, subst}
use Rattle.std.proofs.lemmas.Bool.{and_parts}
use lib.Dec.{T}
use lib.IntN.{pos}
use Rattle.algebra.proofs.Solve.{v, k, ◌⊕◌, ◌⊗◌, inv, solve, solve_from, eq, done}
use Rattle.rational.specs.Fraction.{Fraction, whole, ◌+ℚ◌, ◌*ℚ◌, ◌-ℚ◌, IsPositive, IsNotNegative, ◌≤ℚ◌, ◌<ℚ◌}
use Rattle.rational.proofs.FieldLaws.{fraction-ring}
use Rattle.rational.proofs.OrderLaws.{≤ℚ_antisym, ≥-from_not, <ℚ-not-≥, ≤ℚ-same}
use Rattle.lin.specs.declared.comparison.Cmp.{Cmp}
use Rattle.lin.specs.declared.comparison.Cmp.TheVariants.{Le, Lt, Eq}
use Rattle.task_core.specs.State.{ComparesToZero}
use Rattle.task_core.proofs.GrowthLaws.{compares_between}
use Rattle.pddl_task.specs.declared.condition.Rel.{Rel}
use Rattle.pddl_task.specs.declared.condition.Rel.TheVariants as rel
use Rattle.plan_step.specs.Order.{is_less, related}
use Rattle.plan_step.specs.Meaning.{compares}
use Rattle.plan_repeat.proofs.Even.{moved}

-- ---- the relation of two values, as the comparison of their difference with 0
abbrev comparison : Rel → Cmp
comparison rel.Lt = Lt
comparison rel.Le = Le
comparison rel.Eq = Eq
comparison rel.Ge = Le
comparison rel.Gt = Lt

abbrev difference : Rel → Fraction → Fraction → Fraction
difference rel.Lt x y = x -ℚ y
difference rel.Le x y = x -ℚ y
difference rel.Eq x y = x -ℚ y
difference rel.Ge x y = y -ℚ x
difference rel.Gt x y = y -ℚ x

true_T : (b : Bool) → b ≡ true → T b
true_T true e = tt
true_T false e = absurd (cc)

T_true : (b : Bool) → T b → b ≡ true
T_true true t = refl
T_true false t = absurd t

not_false : (b : Bool) → (b ≡ true → ⊥) → not b ≡ true
not_false true h = absurd (h refl)
not_false false h = refl

not_T : (b : Bool) → not b ≡ true → b ≡ true → ⊥
not_T true h e = absurd (cc)
not_T false h e = absurd (cc)

apart_zero : (x y : Fraction) → y -ℚ x ≡ whole (pos 0) -ℚ (x -ℚ y)
apart_zero x y = solve fraction-ring (v 1 ⊕ inv (v 0)) (k (pos 0) ⊕ inv (v 0 ⊕ inv (v 1))) (x ∷ y ∷ []) refl

module _ (x y : Fraction) where
  less-below : is_less x y ≡ true → (x -ℚ y) <ℚ whole (pos 0)
  less-below h = record { lt = subst IsPositive (apart_zero x y) (true_T (is_less x y) h) }

  below-less : (x -ℚ y) <ℚ whole (pos 0) → is_less x y ≡ true
  below-less h = T_true (is_less x y) (subst IsPositive (sym (apart_zero x y)) h.lt)

  less-is : x <ℚ y → is_less x y ≡ true
  less-is h = T_true (is_less x y) h.lt

  is-less : is_less x y ≡ true → x <ℚ y
  is-less h = record { lt = true_T (is_less x y) h }

module _ (x y : Fraction) where
  not_more : not (is_less y x) ≡ true → x ≤ℚ y
  not_more h = ≥-from_not y x (λ l. not_T (is_less y x) h (less-is y x l))

  at_most : x ≤ℚ y → not (is_less y x) ≡ true
  at_most h = not_false (is_less y x) (λ l. <ℚ-not-≥ y x (is-less y x l) h)

  to_zero : x ≤ℚ y → (x -ℚ y) ≤ℚ whole (pos 0)
  to_zero h = record { le = subst IsNotNegative (apart_zero x y) h.le }

  from_zero : (x -ℚ y) ≤ℚ whole (pos 0) → x ≤ℚ y
  from_zero h = record { le = subst IsNotNegative (sym (apart_zero x y)) h.le }

  same_zero : x ≡ y → x -ℚ y ≡ whole (pos 0)
  same_zero e = solve_from fraction-ring (v 0 ⊕ inv (v 1)) (k (pos 0)) (x ∷ y ∷ []) (eq (k (pos 1)) (v 0) (v 1) e done) refl

  zero_same : x -ℚ y ≡ whole (pos 0) → x ≡ y
  zero_same e = solve_from fraction-ring (v 0) (v 1) (x ∷ y ∷ []) (eq (k (pos 1)) (v 0 ⊕ inv (v 1)) (k (pos 0)) e done) refl

pub holds-compares : (r : Rel) (x y : Fraction) → related r x y ≡ true → ComparesToZero (comparison r) (difference r x y)
holds-compares rel.Lt x y h = less-below x y h
holds-compares rel.Le x y h = to_zero x y (not_more x y h)
holds-compares rel.Eq x y h =
    let b = and_parts (not (is_less x y)) (not (is_less y x)) h in
    same_zero x y (≤ℚ_antisym x y (not_more x y b.1) (not_more y x b.0))
holds-compares rel.Ge x y h = to_zero y x (not_more y x h)
holds-compares rel.Gt x y h = less-below y x h

both : (a b : Bool) → a ≡ true → b ≡ true → (a && b) ≡ true
both true b h e = e
both false b h e = absurd (cc)

pub compares-holds : (r : Rel) (x y : Fraction) → ComparesToZero (comparison r) (difference r x y) → related r x y ≡ true
compares-holds rel.Lt x y h = below-less x y h
compares-holds rel.Le x y h = at_most x y (from_zero x y h)
compares-holds rel.Eq x y h =
    let e = zero_same x y h in
    both (not (is_less x y)) (not (is_less y x)) (at_most y x (≤ℚ-same y x (sym e))) (at_most x y (≤ℚ-same x y e))
compares-holds rel.Ge x y h = at_most y x (from_zero y x h)
compares-holds rel.Gt x y h = below-less y x h

ahead : (x y d e n : Fraction) → (x +ℚ n *ℚ d) -ℚ (y +ℚ n *ℚ e) ≡ (x -ℚ y) +ℚ n *ℚ (d -ℚ e)
ahead x y d e n = solve fraction-ring (v 0 ⊕ v 4 ⊗ v 2 ⊕ inv (v 1 ⊕ v 4 ⊗ v 3)) (v 0 ⊕ inv (v 1) ⊕ v 4 ⊗ (v 2 ⊕ inv (v 3))) (x ∷ y ∷ d ∷ e ∷ n ∷ []) refl

difference-moved : (r : Rel) (x y d e n : Fraction) → difference r (x +ℚ n *ℚ d) (y +ℚ n *ℚ e) ≡ difference r x y +ℚ n *ℚ difference r d e
difference-moved rel.Lt x y d e n = ahead x y d e n
difference-moved rel.Le x y d e n = ahead x y d e n
difference-moved rel.Eq x y d e n = ahead x y d e n
difference-moved rel.Ge x y d e n = ahead y x e d n
difference-moved rel.Gt x y d e n = ahead y x e d n

related-between : (r : Rel) (x y d e : Fraction) (m n : ℕ) → m ≤ n → related r x y ≡ true → related r (x +ℚ whole (pos n) *ℚ d) (y +ℚ whole (pos n) *ℚ e) ≡ true
    → related r (x +ℚ whole (pos m) *ℚ d) (y +ℚ whole (pos m) *ℚ e) ≡ true
related-between r x y d e m n l first last =
    compares-holds r _ _
    (subst (ComparesToZero (comparison r)) (sym (difference-moved r x y d e (whole (pos m))))
    (compares_between (comparison r) (difference r x y) (difference r d e) m n l (holds-compares r x y first)
    (subst (ComparesToZero (comparison r)) (difference-moved r x y d e (whole (pos n))) (holds-compares r _ _ last))))

pub compares-between : (r : Rel) (o u : Option Fraction) (d e : Fraction) (m n : ℕ) → m ≤ n → compares (related r) o u ≡ true
    → compares (related r) (moved n d o) (moved n e u) ≡ true → compares (related r) (moved m d o) (moved m e u) ≡ true
compares-between r None u d e m n l first last = absurd (cc)
compares-between r (Some x) None d e m n l first last = absurd (cc)
compares-between r (Some x) (Some y) d e m n l first last = related-between r x y d e m n l first last
