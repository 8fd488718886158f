-- In lists that rise no function stands twice: what the changes of an action make of an interval one after the other is the
use Rattle.task_core.specs.declared.action.GAction.{GAction}
use Rattle.task_core.specs.Step.{is_in, set_of}
use Rattle.task_core.specs.Task.{numbers, IsOrderly}
use Rattle.lin.specs.Linear.{Linear}
use Rattle.relaxed.specs.declared.interval.Interval.{Interval}
use Rattle.relaxed.specs.Interval.{hull}
use Rattle.relaxed.specs.Layers.{Layer, reached_by_amount, reached_by, reached}
use Rattle.relaxed.specs.inside.Kept.{interval_in, layer_of}
use Rattle.relaxed.specs.declared.table.Table.{Table}
use Rattle.relaxed.specs.inside.Widening.{by_amounts, value_reached, by_values, WidensByAmounts, WidensByValues}
-- least interval that has the old one and what the action gives.
use Rattle.std.proofs.Common.{◌≡◌, ℕ, suc, ◌+◌, ◌<◌, Bool, true, false, cond, ◌||◌, List, [], ◌∷◌, length, refl, sym, ap, subst, ◌∙◌, nat_eq, inl, inr, Option, Some, None, slice_index, arith}
use Rattle.std.specs.List.{All}
use Rattle.std.specs.List.Sorted.{IsStrictlyIncreasing}
use Rattle.std.proofs.lemmas.Bool.{eqb-true, or_cases}
use lib.IntN.{pos}
use Rattle.algebra.proofs.Solve.{v, k, ◌⊕◌, inv, solve_from, eq, done}
use Rattle.rational.specs.Fraction.{Fraction, whole, ◌+ℚ◌}
use Rattle.rational.specs.Linear.{Terms, coefficient_of}
use Rattle.rational.proofs.FieldLaws.{fraction-ring}
use Rattle.relaxed.proofs.Numbered.{not_set, not_counted}
use Rattle.relaxed.proofs.Stops.{hull-none}

rising_tail : (x : ℕ) (xs : List ℕ) → IsStrictlyIncreasing (x ∷ xs) → IsStrictlyIncreasing xs
rising_tail x xs h n l =
    let step : suc n + 1 ≡ suc (n + 1) = omega arith in
    let j : slice_index xs n < slice_index (x ∷ xs) (suc n + 1) = h (suc n) (omega arith) in
    subst (λ (m : ℕ). slice_index xs n < slice_index (x ∷ xs) m) step j

rising_above : (x n : ℕ) (xs : List ℕ) → IsStrictlyIncreasing (x ∷ xs) → is_in n xs ≡ true → x < n
rising_above x n [] h e = absurd (cc)
rising_above x n (z ∷ zs) h e =
    let first : x < z = h 0 (omega arith) in
    elim (or_cases (nat_eq z n) (is_in n zs) e) [
      | inl here ↦ (let same : z ≡ n = eqb-true z n here in omega arith)
      | inr later ↦ (let rest : z < n = rising_above z n zs (rising_tail x (z ∷ zs) h) later in omega arith)
    ]

not_again : (x : ℕ) (xs : List ℕ) → IsStrictlyIncreasing (x ∷ xs) → is_in x xs ≡ false
not_again x xs h = by_test (is_in x xs) refl
  where
    by_test : (b : Bool) → is_in x xs ≡ b → b ≡ false
    by_test true e = absurd (let above : x < x = rising_above x x xs h e in omega arith)
    by_test false e = refl

-- ---- amounts

amounts-none : (y : ℕ → Option Interval) (ts : Terms) (n : ℕ) (i : Option Interval) → is_in n (numbers ts) ≡ false → by_amounts y ts n i ≡ i
amounts-none y [] n i h = refl
amounts-none y (t ∷ ts) n i h = by_test (nat_eq t.0 n) h (amounts-none y ts n i)
  where
    by_test : (b : Bool) → (b || is_in n (numbers ts)) ≡ false → (is_in n (numbers ts) ≡ false → by_amounts y ts n i ≡ i)
        → by_amounts y ts n (cond b (hull i (reached_by_amount t.1 (y t.0))) i) ≡ i
    by_test true h ih = absurd (cc)
    by_test false h ih = ih h

zero-none : (o : Option Interval) → reached_by_amount (whole (pos 0)) o ≡ None
zero-none None = refl
zero-none (Some i) = refl

pub amounts-reached : (y : ℕ → Option Interval) (ts : Terms) (n : ℕ) (i : Option Interval) → IsStrictlyIncreasing (numbers ts)
    → by_amounts y ts n i ≡ hull i (reached_by_amount (coefficient_of n ts) (y n))
amounts-reached y [] n i h = sym (ap (hull i) (zero-none (y n)) ∙ hull-none i)
amounts-reached y (t ∷ ts) n i h = by_test (nat_eq t.0 n) refl (amounts-reached y ts n i (rising_tail t.0 (numbers ts) h))
  where
    by_test : (b : Bool) → nat_eq t.0 n ≡ b → by_amounts y ts n i ≡ hull i (reached_by_amount (coefficient_of n ts) (y n))
        → by_amounts y ts n (cond b (hull i (reached_by_amount t.1 (y t.0))) i) ≡ hull i (reached_by_amount (cond b t.1 (whole (pos 0)) +ℚ coefficient_of n ts) (y n))
    by_test true e ih =
        let same : t.0 ≡ n = eqb-true t.0 n e in
        let gone : is_in n (numbers ts) ≡ false = subst (λ (m : ℕ). is_in m (numbers ts) ≡ false) same (not_again t.0 (numbers ts) h) in
        let sum : t.1 ≡ t.1 +ℚ coefficient_of n ts =
        solve_from fraction-ring (v 0) (v 0 ⊕ v 1) (t.1 ∷ coefficient_of n ts ∷ []) (eq (inv (k (pos 1))) (v 1) (k (pos 0)) (not_counted ts n gone) done) refl in
        amounts-none y ts n (hull i (reached_by_amount t.1 (y t.0))) gone
        ∙ ap (λ (m : ℕ). hull i (reached_by_amount t.1 (y m))) same ∙ ap (λ (c : Fraction). hull i (reached_by_amount c (y n))) sum
    by_test false e ih =
        let sum : coefficient_of n ts ≡ whole (pos 0) +ℚ coefficient_of n ts =
        solve_from fraction-ring (v 0) (k (pos 0) ⊕ v 0) (coefficient_of n ts ∷ []) done refl in
        ih ∙ ap (λ (c : Fraction). hull i (reached_by_amount c (y n))) sum

-- ---- new values

values-none : (y : Layer) (ss : List (ℕ × Linear)) (n : ℕ) (i : Option Interval) → is_in n (numbers ss) ≡ false → by_values y ss n i ≡ i
values-none y [] n i h = refl
values-none y (s ∷ ss) n i h = by_test (nat_eq s.0 n) h (values-none y ss n i)
  where
    by_test : (b : Bool) → (b || is_in n (numbers ss)) ≡ false → (is_in n (numbers ss) ≡ false → by_values y ss n i ≡ i)
        → by_values y ss n (cond b (hull i (Some (value_reached y s))) i) ≡ i
    by_test true h ih = absurd (cc)
    by_test false h ih = ih h

-- the interval of a function that is given a value, if it is
abbrev pub given : Layer → ℕ → Option Linear → Option Interval
given y n None = None
given y n (Some l) = Some (value_reached y (n, l))

pub values-reached : (y : Layer) (ss : List (ℕ × Linear)) (n : ℕ) (i : Option Interval) → IsStrictlyIncreasing (numbers ss)
    → by_values y ss n i ≡ hull i (given y n (set_of ss n))
values-reached y [] n i h = sym (hull-none i)
values-reached y (s ∷ ss) n i h = by_test (nat_eq s.0 n) refl (values-reached y ss n i (rising_tail s.0 (numbers ss) h))
  where
    by_test : (b : Bool) → nat_eq s.0 n ≡ b → by_values y ss n i ≡ hull i (given y n (set_of ss n))
        → by_values y ss n (cond b (hull i (Some (value_reached y s))) i) ≡ hull i (given y n (cond b (Some s.1) (set_of ss n)))
    by_test true e ih =
        let same : s.0 ≡ n = eqb-true s.0 n e in
        let gone : is_in n (numbers ss) ≡ false = subst (λ (m : ℕ). is_in m (numbers ss) ≡ false) same (not_again s.0 (numbers ss) h) in
        values-none y ss n (hull i (Some (value_reached y s))) gone ∙ ap (λ (m : ℕ). hull i (Some (value_reached y (m, s.1)))) same
    by_test false e ih = ih

-- ---- all changes of an action

is_set : (ss : List (ℕ × Linear)) (n : ℕ) (l : Linear) → set_of ss n ≡ Some l → is_in n (numbers ss) ≡ true
is_set ss n l e = by_test (is_in n (numbers ss)) refl
  where
    by_test : (b : Bool) → is_in n (numbers ss) ≡ b → b ≡ true
    by_test true j = refl
    by_test false j = let none = not_set ss n j in absurd (cc)

all_apart : (xs ys : List ℕ) (n : ℕ) → All (λ x. is_in x ys ≡ false) xs → is_in n xs ≡ true → is_in n ys ≡ false
all_apart [] ys n h e = absurd (cc)
all_apart (x ∷ xs) ys n h e =
    elim (or_cases (nat_eq x n) (is_in n xs) e) [
      | inl here ↦ subst (λ (m : ℕ). is_in m ys ≡ false) (eqb-true x n here) (h 0 x (omega arith))
      | inr later ↦ all_apart xs ys n (λ i d l. h (suc i) d (omega arith)) later
    ]

pub changes-reached : (y : Layer) (a : GAction) (n : ℕ) (i : Option Interval) → IsOrderly a → by_values y a.sets n (by_amounts y.interval a.incs n i) ≡ hull i (reached y n a)
changes-reached y a n i h = by_set (set_of a.sets n) refl
  where
    by_set : (o : Option Linear) → set_of a.sets n ≡ o → by_values y a.sets n (by_amounts y.interval a.incs n i) ≡ hull i (reached_by y (y.interval n) (coefficient_of n a.incs) o)
    by_set None e =
        values-reached y a.sets n (by_amounts y.interval a.incs n i) h.sets
        ∙ ap (λ (o : Option Linear). hull (by_amounts y.interval a.incs n i) (given y n o)) e ∙ hull-none (by_amounts y.interval a.incs n i)
        ∙ amounts-reached y.interval a.incs n i h.incs
    by_set (Some l) e =
        let apart : is_in n (numbers a.incs) ≡ false = all_apart (numbers a.sets) (numbers a.incs) n h.funcs_apart (is_set a.sets n l e) in
        ap (λ (o : Option Interval). by_values y a.sets n o) (amounts-none y.interval a.incs n i apart)
        ∙ values-reached y a.sets n i h.sets ∙ ap (λ (o : Option Linear). hull i (given y n o)) e

pub changes-made : (t : Table) (a : GAction) (first middle last : List (Option Interval)) (olds : List (Option Interval)) (incs : Terms) (sets : List (ℕ × Linear))
    → IsOrderly a → olds ≡ t.intervals → incs ≡ a.incs → sets ≡ a.sets → WidensByAmounts (interval_in olds) first middle incs → WidensByValues (layer_of t) middle last sets
    → (n : ℕ) → n < length first → interval_in last n ≡ hull (interval_in first n) (reached (layer_of t) n a)
changes-made t a first middle last olds incs sets orderly eo ei es h j n l =
    let size = h.size in
    let here : n < length middle = omega arith in
    j.each n here ∙ ap (λ (o : Option Interval). by_values (layer_of t) sets n o) (h.each n l)
    ∙ ap (λ (ss : List (ℕ × Linear)). by_values (layer_of t) ss n (by_amounts (interval_in olds) incs n (interval_in first n))) es
    ∙ ap (λ (ts : Terms). by_values (layer_of t) a.sets n (by_amounts (interval_in olds) ts n (interval_in first n))) ei
    ∙ ap (λ (is : List (Option Interval)). by_values (layer_of t) a.sets n (by_amounts (interval_in is) a.incs n (interval_in first n))) eo
    ∙ changes-reached (layer_of t) a n (interval_in first n) orderly
