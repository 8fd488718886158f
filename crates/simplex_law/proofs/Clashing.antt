-- Where a basic variable violates a bound and no variable helps, the readings of the bounds that hold it have a refutation.
use Rattle.std.proofs.Common.{◌≡◌, ◌⊎◌, inl, inr, ℕ, zero, suc, ◌<◌, Bool, true, false, cond, IsTrue, Option, Some, None, List, [], ◌∷◌, refl, sym, ap, subst, ◌∙◌, arith, nat_eq}
use Rattle.std.specs.List.{AllByRecursion, Any}
use lib.IntN.{pos, negsuc}
use Rattle.algebra.proofs.Solve.{v, k, ◌⊕◌, ◌⊗◌, inv, solve, solve_from, eq, strict_from, le, lt, done}
use Rattle.rational.specs.Fraction.{Fraction, whole, ◌+ℚ◌, ◌*ℚ◌, neg_ℚ, ◌≤ℚ◌, ◌<ℚ◌, IsNotNegative, IsPositive}
use Rattle.rational.specs.Linear.{Terms, value_at, coefficient_of}
use Rattle.rational.specs.Farkas.{Row, total_coefficient, total_bound, BoundFails, IsRefutation}
use Rattle.rational.proofs.FieldLaws.{fraction-ring}
use Rattle.rational.proofs.Signs.{fraction-order, weaken_positive}
use Rattle.rational.proofs.OrderLaws.{at_most_or_above, below_same_or_above, <ℚ_irrefl, <ℚ-not-≥, positive-iff}
use Rattle.rational.proofs.LinearLaws.{coefficient_of-multiple}
use Rattle.tableau.specs.FiniteSums.{sum_below}
use Rattle.tableau.specs.Table.{Table, width, cell, is_basic, IsTidy}
use Rattle.tableau.proofs.SumLaws.{sum_same, sum_multiple}
use Rattle.std.proofs.lemmas.List.Elements.{All-from_recursion}
use Rattle.simplex_law.specs.Pairs.{◌≤ₚ◌, ◌<ₚ◌}
use Rattle.simplex_law.specs.Bounds.{lower_pair, upper_pair, OnLower, OnUpper, CanRise, CanFall, BelowLower, AboveUpper}
use Rattle.simplex_law.specs.Config.{Limits, lower_of, upper_of, row_pair, IsPlaced, IsStuck}
use Rattle.simplex_law.specs.Readings.{Extends, negative_of, upper_row, lower_row, IsReading, IsClash}
use Rattle.simplex_law.specs.declared.pair.Pair.{Pair}
use Rattle.simplex_law.specs.declared.bound.Bound.{Bound}
use Rattle.simplex_law.specs.declared.bound.Side.{Side}
use Rattle.simplex_law.specs.declared.bound.Side.TheVariants.{Under, Over}

zero_q : Fraction
zero_q = whole (pos 0)

-- ---- how a variable with the factor s is held: at its upper bound where s is above 0, at its lower one where s is below
pub data Held (l : Limits) (x : Pair) (j : ℕ) (s : Fraction) : Type 0 where
  up : IsPositive s → (b : Bound) → upper_of l j ≡ Some b → x.main ≡ b.value → x.small ≡ (upper_pair b).small → Held l x j s
  down : IsPositive (neg_ℚ s) → (b : Bound) → lower_of l j ≡ Some b → x.main ≡ b.value → x.small ≡ (lower_pair b).small → Held l x j s
  free : s ≡ whole (pos 0) → Held l x j s

-- its reading, with the magnitude of s as factor
abbrev pub part : (l : Limits) (x : Pair) (j : ℕ) (s : Fraction) → Terms → Held l x j s → List Row → List Row
part l x j s ts (up p b o m n) rows = upper_row b ts s ∷ rows
part l x j s ts (down p b o m n) rows = lower_row b ts (neg_ℚ s) ∷ rows
part l x j s ts (free z) rows = rows

pub own_below : (n : ℕ) → n < suc n
own_below n = omega arith

pub still_below : (n j : ℕ) → j < n → j < suc n
still_below n j m = omega arith

module _ (l : Limits) (terms : ℕ → Terms) (place : ℕ → Pair) (s : ℕ → Fraction) where
  abbrev pub parts : (n : ℕ) → ((j : ℕ) → j < n → Held l (place j) j (s j)) → List Row
  parts zero h = []
  parts (suc n) h = part l (place n) n (s n) (terms n) (h n (own_below n)) (parts n (λ j m. h j (still_below n j m)))

  -- ---- the factors aren't negative, and each is a reading
  parts-not_negative : (n : ℕ) (h : (j : ℕ) → j < n → Held l (place j) j (s j)) → AllByRecursion (λ r. IsNotNegative r.factor) (parts n h)
  parts-not_negative zero h = tt
  parts-not_negative (suc n) h = by_kind (h n (own_below n)) (parts-not_negative n (λ j m. h j (still_below n j m)))
    where
      by_kind : (a : Held l (place n) n (s n)) → AllByRecursion (λ r. IsNotNegative r.factor) (parts n (λ j m. h j (still_below n j m))) → AllByRecursion (λ r. IsNotNegative r.factor) (part l (place n) n (s n) (terms n) a (parts n (λ j m. h j (still_below n j m))))
      by_kind (up p b o m q) rest = (weaken_positive (s n) p, rest)
      by_kind (down p b o m q) rest = (weaken_positive (neg_ℚ (s n)) p, rest)
      by_kind (free z) rest = rest

  parts-readings : (n : ℕ) (h : (j : ℕ) → j < n → Held l (place j) j (s j)) → AllByRecursion (IsReading l terms) (parts n h)
  parts-readings zero h = tt
  parts-readings (suc n) h = by_kind (h n (own_below n)) (parts-readings n (λ j m. h j (still_below n j m)))
    where
      by_kind : (a : Held l (place n) n (s n)) → AllByRecursion (IsReading l terms) (parts n (λ j m. h j (still_below n j m))) → AllByRecursion (IsReading l terms) (part l (place n) n (s n) (terms n) a (parts n (λ j m. h j (still_below n j m))))
      by_kind (up p b o m q) rest = ((n, b, inl (o, refl)), rest)
      by_kind (down p b o m q) rest = ((n, b, inr (o, refl)), rest)
      by_kind (free z) rest = rest

  -- ---- the sums
  parts-coefficient : (i : ℕ) (n : ℕ) (h : (j : ℕ) → j < n → Held l (place j) j (s j)) → total_coefficient i (parts n h) ≡ sum_below n (λ j. s j *ℚ coefficient_of i (terms j))
  parts-coefficient i zero h = refl
  parts-coefficient i (suc n) h = by_kind (h n (own_below n)) (parts-coefficient i n (λ j m. h j (still_below n j m)))
    where
      by_kind : (a : Held l (place n) n (s n)) → total_coefficient i (parts n (λ j m. h j (still_below n j m))) ≡ sum_below n (λ j. s j *ℚ coefficient_of i (terms j))
          → total_coefficient i (part l (place n) n (s n) (terms n) a (parts n (λ j m. h j (still_below n j m)))) ≡ sum_below n (λ j. s j *ℚ coefficient_of i (terms j)) +ℚ s n *ℚ coefficient_of i (terms n)
      by_kind (up p b o m q) e =
          solve_from fraction-ring (v 0 ⊗ v 1 ⊕ v 2) (v 3 ⊕ v 0 ⊗ v 1) (s n ∷ coefficient_of i (terms n) ∷ total_coefficient i (parts n (λ j m. h j (still_below n j m))) ∷ sum_below n (λ j. s j *ℚ coefficient_of i (terms j)) ∷ [])
          (eq (k (pos 1)) (v 2) (v 3) e done) refl
      by_kind (down p b o m q) e =
          solve_from fraction-ring (inv (v 0) ⊗ v 4 ⊕ v 2) (v 3 ⊕ v 0 ⊗ v 1) (s n ∷ coefficient_of i (terms n) ∷ total_coefficient i (parts n (λ j m. h j (still_below n j m))) ∷ sum_below n (λ j. s j *ℚ coefficient_of i (terms j)) ∷ coefficient_of i (negative_of (terms n)) ∷ [])
          (eq (k (pos 1)) (v 2) (v 3) e (eq (inv (v 0)) (v 4) (k (negsuc 0) ⊗ v 1) (coefficient_of-multiple i (whole (negsuc 0)) (terms n)) done)) refl
      by_kind (free z) e =
          solve_from fraction-ring (v 2) (v 3 ⊕ v 0 ⊗ v 1) (s n ∷ coefficient_of i (terms n) ∷ total_coefficient i (parts n (λ j m. h j (still_below n j m))) ∷ sum_below n (λ j. s j *ℚ coefficient_of i (terms j)) ∷ [])
          (eq (k (pos 1)) (v 2) (v 3) e (eq (inv (v 1)) (v 0) (k (pos 0)) z done)) refl

  parts-bound : (n : ℕ) (h : (j : ℕ) → j < n → Held l (place j) j (s j)) → total_bound (parts n h) ≡ sum_below n (λ j. s j *ℚ (place j).main)
  parts-bound zero h = refl
  parts-bound (suc n) h = by_kind (h n (own_below n)) (parts-bound n (λ j m. h j (still_below n j m)))
    where
      by_kind : (a : Held l (place n) n (s n)) → total_bound (parts n (λ j m. h j (still_below n j m))) ≡ sum_below n (λ j. s j *ℚ (place j).main)
          → total_bound (part l (place n) n (s n) (terms n) a (parts n (λ j m. h j (still_below n j m)))) ≡ sum_below n (λ j. s j *ℚ (place j).main) +ℚ s n *ℚ (place n).main
      by_kind (up p b o m q) e =
          solve_from fraction-ring (v 0 ⊗ v 1 ⊕ v 2) (v 3 ⊕ v 0 ⊗ v 4) (s n ∷ b.value ∷ total_bound (parts n (λ j m. h j (still_below n j m))) ∷ sum_below n (λ j. s j *ℚ (place j).main) ∷ (place n).main ∷ [])
          (eq (k (pos 1)) (v 2) (v 3) e (eq (inv (v 0)) (v 4) (v 1) m done)) refl
      by_kind (down p b o m q) e =
          solve_from fraction-ring (inv (v 0) ⊗ inv (v 1) ⊕ v 2) (v 3 ⊕ v 0 ⊗ v 4) (s n ∷ b.value ∷ total_bound (parts n (λ j m. h j (still_below n j m))) ∷ sum_below n (λ j. s j *ℚ (place j).main) ∷ (place n).main ∷ [])
          (eq (k (pos 1)) (v 2) (v 3) e (eq (inv (v 0)) (v 4) (v 1) m done)) refl
      by_kind (free z) e =
          solve_from fraction-ring (v 2) (v 3 ⊕ v 0 ⊗ v 4) (s n ∷ zero_q ∷ total_bound (parts n (λ j m. h j (still_below n j m))) ∷ sum_below n (λ j. s j *ℚ (place j).main) ∷ (place n).main ∷ [])
          (eq (k (pos 1)) (v 2) (v 3) e (eq (inv (v 4)) (v 0) (k (pos 0)) z done)) refl

  -- ---- where the small parts sum to less than 0, a strict bound has a part
  abbrev Strict : Row → Type 0
  Strict r = IsTrue r.strict × IsPositive r.factor

  strict-later : (x : Row) (xs : List Row) → Any Strict xs → Any Strict (x ∷ xs)
  strict-later x xs (i, y, m, e, p) = (suc i, y, omega arith, e, p)

  strict-first : (x : Row) (xs : List Row) → Strict x → Any Strict (x ∷ xs)
  strict-first x xs p = (0, x, omega arith, refl, p)

  not_below : (x : Fraction) → x ≡ whole (pos 0) → x <ℚ whole (pos 0) → ⊥
  not_below x e h = <ℚ_irrefl (whole (pos 0)) (subst (λ (w : Fraction). w <ℚ whole (pos 0)) e h)

  parts-strict : (n : ℕ) (h : (j : ℕ) → j < n → Held l (place j) j (s j)) → sum_below n (λ j. s j *ℚ (place j).small) <ℚ whole (pos 0) → Any Strict (parts n h)
  parts-strict zero h m = absurd (<ℚ_irrefl (whole (pos 0)) m)
  parts-strict (suc n) h m = by_kind (h n (own_below n)) (parts-strict n (λ j m. h j (still_below n j m))) (at_most_or_above (whole (pos 0)) (sum_below n (λ j. s j *ℚ (place j).small)))
    where
      rows : List Row
      rows = parts n (λ j m. h j (still_below n j m))

      -- where the sum before isn't below 0, this part is
      own : whole (pos 0) ≤ℚ sum_below n (λ j. s j *ℚ (place j).small) → (s n *ℚ (place n).small) <ℚ whole (pos 0)
      own g =
          strict_from fraction-order (v 1) (k (pos 0)) (sum_below n (λ j. s j *ℚ (place j).small) ∷ (s n *ℚ (place n).small) ∷ [])
          (le (k (pos 1)) (k (pos 0)) (v 0) tt g (lt (k (pos 1)) (v 0 ⊕ v 1) (k (pos 0)) tt m done)) tt refl

      is_strict : (b : Bound) (c : Bool) → b.strict ≡ c → (x : Fraction) → (c ≡ false → x ≡ whole (pos 0)) → x <ℚ whole (pos 0) → IsTrue b.strict
      is_strict b true e x z g = e
      is_strict b false e x z g = absurd (not_below x (z refl) g)

      zero_product : (x y : Fraction) → y ≡ whole (pos 0) → x *ℚ y ≡ whole (pos 0)
      zero_product x y e = solve_from fraction-ring (v 0 ⊗ v 1) (k (pos 0)) (x ∷ y ∷ []) (eq (v 0) (v 1) (k (pos 0)) e done) refl

      by_kind : (a : Held l (place n) n (s n)) → (sum_below n (λ j. s j *ℚ (place j).small) <ℚ whole (pos 0) → Any Strict rows)
          → (whole (pos 0) ≤ℚ sum_below n (λ j. s j *ℚ (place j).small)) ⊎ (sum_below n (λ j. s j *ℚ (place j).small) <ℚ whole (pos 0)) → Any Strict (part l (place n) n (s n) (terms n) a rows)
      by_kind (up p b o i q) f (inr g) = strict-later _ _ (f g)
      by_kind (down p b o i q) f (inr g) = strict-later _ _ (f g)
      by_kind (free z) f (inr g) = f g
      by_kind (up p b o i q) f (inl g) =
          strict-first _ rows (is_strict b b.strict refl (s n *ℚ (place n).small) (λ e. zero_product (s n) (place n).small (q ∙ ap (λ (c : Bool). cond c (whole (negsuc 0)) (whole (pos 0))) e)) (own g), p)
      by_kind (down p b o i q) f (inl g) =
          strict-first _ rows (is_strict b b.strict refl (s n *ℚ (place n).small) (λ e. zero_product (s n) (place n).small (q ∙ ap (λ (c : Bool). cond c (whole (pos 1)) (whole (pos 0))) e)) (own g), p)
      by_kind (free z) f (inl g) =
          absurd (not_below (s n *ℚ (place n).small) (solve_from fraction-ring (v 0 ⊗ v 1) (k (pos 0)) (s n ∷ (place n).small ∷ []) (eq (v 1) (v 0) (k (pos 0)) z done) refl) (own g))

-- ---- at its bound
same_pair : (x y : Pair) → x ≤ₚ y → ¬ (x <ₚ y) → (x.main ≡ y.main) × (x.small ≡ y.small)
same_pair x y (inl h) n = absurd (n (inl h))
same_pair x y (inr h) n = (h.0, by_order (below_same_or_above x.small y.small))
  where
    by_order : (x.small <ℚ y.small) ⊎ ((x.small ≡ y.small) ⊎ (y.small <ℚ x.small)) → x.small ≡ y.small
    by_order (inl g) = absurd (n (inr (h.0, g)))
    by_order (inr (inl g)) = g
    by_order (inr (inr g)) = absurd (<ℚ-not-≥ y.small x.small g h.1)

module _ (l : Limits) (x : Pair) (j : ℕ) (s : Fraction) where
  held_up : (o : Option Bound) → upper_of l j ≡ o → IsPositive s → OnUpper o x → ¬ (CanRise o x) → Held l x j s
  held_up None e p on n = absurd (n tt)
  held_up (Some b) e p on n = let q = same_pair x (upper_pair b) on n in up p b e q.0 q.1

  held_down : (o : Option Bound) → lower_of l j ≡ o → IsPositive (neg_ℚ s) → OnLower o x → ¬ (CanFall o x) → Held l x j s
  held_down None e p on n = absurd (n tt)
  held_down (Some b) e p on n = let q = same_pair (lower_pair b) x on n in down p b e (sym q.0) (sym q.1)

-- ---- the equation of a row, by coefficients
unit : ℕ → ℕ → Fraction
unit i j = cond (nat_eq j i) (whole (pos 1)) (whole (pos 0))

unit-value : (i : ℕ) (ts : Terms) → value_at (unit i) ts ≡ coefficient_of i ts
unfolding unit
unit-value i [] = refl
unit-value i (t ∷ ts) = ap (λ (w : Fraction). t.1 *ℚ unit i t.0 +ℚ w) (unit-value i ts) ∙ ap (λ (w : Fraction). w +ℚ coefficient_of i ts) (by_test (nat_eq t.0 i))
  where
    by_test : (b : Bool) → t.1 *ℚ cond b (whole (pos 1)) (whole (pos 0)) ≡ cond b t.1 (whole (pos 0))
    by_test true = solve fraction-ring (v 0 ⊗ k (pos 1)) (v 0) (t.1 ∷ []) refl
    by_test false = solve fraction-ring (v 0 ⊗ k (pos 0)) (k (pos 0)) (t.1 ∷ []) refl

row-coefficient : (terms : ℕ → Terms) (t : Table) → Extends terms t → (r : ℕ) → r < width t → IsTrue (is_basic t r) → (i : ℕ)
    → coefficient_of i (terms r) ≡ sum_below (width t) (λ j. cell t r j *ℚ coefficient_of i (terms j))
row-coefficient terms t x r lr b i =
    sym (unit-value i (terms r)) ∙ x (unit i) r lr b ∙ sum_same (width t) _ (λ j. cell t r j *ℚ coefficient_of i (terms j)) (λ j l. ap (λ (w : Fraction). cell t r j *ℚ w) (unit-value i (terms j)))

-- ---- the refutation
signed_sum : (n : ℕ) (σ : Fraction) (c f : ℕ → Fraction) → sum_below n (λ j. (σ *ℚ c j) *ℚ f j) ≡ σ *ℚ sum_below n (λ j. c j *ℚ f j)
signed_sum n σ c f =
    sum_same n (λ j. (σ *ℚ c j) *ℚ f j) (λ j. σ *ℚ (c j *ℚ f j)) (λ j l. solve fraction-ring ((v 0 ⊗ v 1) ⊗ v 2) (v 0 ⊗ (v 1 ⊗ v 2)) (σ ∷ c j ∷ f j ∷ []) refl)
    ∙ sum_multiple n σ (λ j. c j *ℚ f j)

-- σ is 1 under a lower bound and -1 over an upper one; the row of the violated bound has the terms and the value times -σ
module _ (l : Limits) (terms : ℕ → Terms) (t : Table) (place : ℕ → Pair) (r : ℕ) (σ : Fraction) (held : (j : ℕ) → j < width t → Held l (place j) j (σ *ℚ cell t r j)) where
  refutes : Extends terms t → r < width t → IsTrue (is_basic t r) → (own : Row) (value : Fraction) → own.factor ≡ whole (pos 1) → ((i : ℕ) → coefficient_of i own.terms ≡ neg_ℚ σ *ℚ coefficient_of i (terms r)) → own.bound ≡ neg_ℚ σ *ℚ value
      → ((σ *ℚ (row_pair t place r).main) <ℚ (σ *ℚ value)) ⊎ (((row_pair t place r).main ≡ value) × (IsTrue own.strict ⊎ ((σ *ℚ (row_pair t place r).small) <ℚ whole (pos 0))))
      → IsRefutation (own ∷ parts l terms place (λ j. σ *ℚ cell t r j) (width t) held)
  refutes x lr br own value f co bo viol =
      let s = λ (j : ℕ). σ *ℚ cell t r j in
      let rows = parts l terms place s (width t) held in
      let rest : total_bound rows ≡ σ *ℚ (row_pair t place r).main = parts-bound l terms place s (width t) held ∙ signed_sum (width t) σ (cell t r) (λ j. (place j).main) in
      record {
        not_negative = All-from_recursion (λ r. IsNotNegative r.factor) (own ∷ rows) (subst IsNotNegative (sym f) tt, parts-not_negative l terms place s (width t) held);
        cancels = λ i.
            let later : total_coefficient i rows ≡ σ *ℚ sum_below (width t) (λ j. cell t r j *ℚ coefficient_of i (terms j)) = parts-coefficient l terms place s i (width t) held ∙ signed_sum (width t) σ (cell t r) (λ j. coefficient_of i (terms j)) in
            solve_from fraction-ring (v 0 ⊗ v 1 ⊕ v 2) (k (pos 0)) (own.factor ∷ coefficient_of i own.terms ∷ total_coefficient i rows ∷ σ ∷ coefficient_of i (terms r) ∷ sum_below (width t) (λ j. cell t r j *ℚ coefficient_of i (terms j)) ∷ [])
            (eq (v 1) (v 0) (k (pos 1)) f (eq (k (pos 1)) (v 1) (inv (v 3) ⊗ v 4) (co i) (eq (k (pos 1)) (v 2) (v 3 ⊗ v 5) later (eq (inv (v 3)) (v 4) (v 5) (row-coefficient terms t x r lr br i) done)))) refl;
        bound_fails = by_violation rest viol;
      }
    where
      rows_of : List Row
      rows_of = parts l terms place (λ j. σ *ℚ cell t r j) (width t) held

      by_violation : total_bound rows_of ≡ σ *ℚ (row_pair t place r).main
          → ((σ *ℚ (row_pair t place r).main) <ℚ (σ *ℚ value)) ⊎ (((row_pair t place r).main ≡ value) × (IsTrue own.strict ⊎ ((σ *ℚ (row_pair t place r).small) <ℚ whole (pos 0))))
          → BoundFails (own ∷ rows_of)
      by_violation e (inl h) =
          inl (strict_from fraction-order (v 0 ⊗ v 1 ⊕ v 2) (k (pos 0)) (own.factor ∷ own.bound ∷ total_bound rows_of ∷ (row_pair t place r).main ∷ value ∷ σ ∷ [])
          (eq (v 1) (v 0) (k (pos 1)) f (eq (k (pos 1)) (v 1) (inv (v 5) ⊗ v 4) bo (eq (k (pos 1)) (v 2) (v 5 ⊗ v 3) e (lt (k (pos 1)) (v 5 ⊗ v 3) (v 5 ⊗ v 4) tt h done)))) tt refl)
      by_violation e (inr (h, g)) =
          inr (
            solve_from fraction-ring (v 0 ⊗ v 1 ⊕ v 2) (k (pos 0)) (own.factor ∷ own.bound ∷ total_bound rows_of ∷ (row_pair t place r).main ∷ value ∷ σ ∷ [])
                (eq (v 1) (v 0) (k (pos 1)) f (eq (k (pos 1)) (v 1) (inv (v 5) ⊗ v 4) bo (eq (k (pos 1)) (v 2) (v 5 ⊗ v 3) e (eq (v 5) (v 3) (v 4) h done)))) refl,
            by_strict g,
          )
        where
          by_strict : IsTrue own.strict ⊎ ((σ *ℚ (row_pair t place r).small) <ℚ whole (pos 0)) → Any (λ r. IsTrue r.strict × IsPositive r.factor) (own ∷ rows_of)
          by_strict (inl y) = strict-first l terms place (λ j. σ *ℚ cell t r j) own rows_of (y, subst IsPositive (sym f) tt)
          by_strict (inr y) =
              strict-later l terms place (λ j. σ *ℚ cell t r j) own rows_of (parts-strict l terms place (λ j. σ *ℚ cell t r j) (width t) held
              (subst (λ (w : Fraction). w <ℚ whole (pos 0)) (sym (signed_sum (width t) σ (cell t r) (λ j. (place j).small))) y))

-- ---- the clash of a stuck configuration
module _ (l : Limits) (terms : ℕ → Terms) (t : Table) (tidy : IsTidy t) (place : ℕ → Pair) (placed : IsPlaced l t place) (r : ℕ) where
  -- by the sign of the cell: it is 0, or it holds j at its upper or its lower bound
  held_by : (lr : r < width t) (σ : Fraction) → (σ ≡ whole (pos 1)) ⊎ (σ ≡ whole (negsuc 0)) → (j : ℕ) → j < width t
      → (is_basic t j ≡ false → IsPositive (σ *ℚ cell t r j) → ¬ (CanRise (upper_of l j) (place j)))
      → (is_basic t j ≡ false → IsPositive (neg_ℚ (σ *ℚ cell t r j)) → ¬ (CanFall (lower_of l j) (place j)))
      → Held l (place j) j (σ *ℚ cell t r j)
  held_by lr σ kind j lj rise fall = by_basic (is_basic t j) refl (below_same_or_above (σ *ℚ cell t r j) (whole (pos 0)))
    where
      by_basic : (w : Bool) → is_basic t j ≡ w → ((σ *ℚ cell t r j) <ℚ whole (pos 0)) ⊎ ((σ *ℚ cell t r j ≡ whole (pos 0)) ⊎ (whole (pos 0) <ℚ (σ *ℚ cell t r j))) → Held l (place j) j (σ *ℚ cell t r j)
      by_basic true e o = free (solve_from fraction-ring (v 0 ⊗ v 1) (k (pos 0)) (σ ∷ cell t r j ∷ []) (eq (v 0) (v 1) (k (pos 0)) (tidy.basic_column r j lr lj e) done) refl)
      by_basic false e (inl h) =
          let p : IsPositive (neg_ℚ (σ *ℚ cell t r j)) = (positive-iff (neg_ℚ (σ *ℚ cell t r j))).1 (strict_from fraction-order (k (pos 0)) (inv (v 0)) ((σ *ℚ cell t r j) ∷ []) (lt (k (pos 1)) (v 0) (k (pos 0)) tt h done) tt refl) in
          held_down l (place j) j (σ *ℚ cell t r j) (lower_of l j) refl p (placed j lj e).0 (fall e p)
      by_basic false e (inr (inl h)) = free h
      by_basic false e (inr (inr h)) =
          let p : IsPositive (σ *ℚ cell t r j) = (positive-iff (σ *ℚ cell t r j)).1 h in
          held_up l (place j) j (σ *ℚ cell t r j) (upper_of l j) refl p (placed j lj e).1 (rise e p)

  -- the sign of a cell from that of its multiple by 1 or -1
  plus_above : (c : Fraction) → IsPositive (whole (pos 1) *ℚ c) → whole (pos 0) <ℚ c
  plus_above c p = strict_from fraction-order (k (pos 0)) (v 0) (c ∷ []) (lt (k (pos 1)) (k (pos 0)) (k (pos 1) ⊗ v 0) tt ((positive-iff (whole (pos 1) *ℚ c)).0 p) done) tt refl

  plus_below : (c : Fraction) → IsPositive (neg_ℚ (whole (pos 1) *ℚ c)) → c <ℚ whole (pos 0)
  plus_below c p = strict_from fraction-order (v 0) (k (pos 0)) (c ∷ []) (lt (k (pos 1)) (k (pos 0)) (inv (k (pos 1) ⊗ v 0)) tt ((positive-iff (neg_ℚ (whole (pos 1) *ℚ c))).0 p) done) tt refl

  minus_below : (c : Fraction) → IsPositive (whole (negsuc 0) *ℚ c) → c <ℚ whole (pos 0)
  minus_below c p = strict_from fraction-order (v 0) (k (pos 0)) (c ∷ []) (lt (k (pos 1)) (k (pos 0)) (k (negsuc 0) ⊗ v 0) tt ((positive-iff (whole (negsuc 0) *ℚ c)).0 p) done) tt refl

  minus_above : (c : Fraction) → IsPositive (neg_ℚ (whole (negsuc 0) *ℚ c)) → whole (pos 0) <ℚ c
  minus_above c p = strict_from fraction-order (k (pos 0)) (v 0) (c ∷ []) (lt (k (pos 1)) (k (pos 0)) (inv (k (negsuc 0) ⊗ v 0)) tt ((positive-iff (neg_ℚ (whole (negsuc 0) *ℚ c))).0 p) done) tt refl

  -- the reading of the violated bound, and of those that hold the other variables of its row
  pub under_rows : (x : Extends terms t) → IsStuck l t place r Under → (b : Bound) → lower_of l r ≡ Some b → BelowLower (Some b) (row_pair t place r)
      → (held : (j : ℕ) → j < width t → Held l (place j) j (whole (pos 1) *ℚ cell t r j)) × IsRefutation (lower_row b (terms r) (whole (pos 1)) ∷ parts l terms place (λ j. whole (pos 1) *ℚ cell t r j) (width t) held)
  under_rows x st b e h =
      let σ = whole (pos 1) in
      let held : (j : ℕ) → j < width t → Held l (place j) j (σ *ℚ cell t r j) = λ j lj. held_by st.within σ (inl refl) j lj
      (λ o p n. st.helpless j lj o (inl (plus_above (cell t r j) p, n))) (λ o p n. st.helpless j lj o (inr (plus_below (cell t r j) p, n))) in
      let own : Row = lower_row b (terms r) (whole (pos 1)) in (
        held,
        refutes l terms t place r σ held x st.within st.basic own b.value refl
            (λ i. coefficient_of-multiple i (whole (negsuc 0)) (terms r) ∙ solve fraction-ring (k (negsuc 0) ⊗ v 0) (inv (k (pos 1)) ⊗ v 0) (coefficient_of i (terms r) ∷ []) refl)
            (solve fraction-ring (inv (v 0)) (inv (k (pos 1)) ⊗ v 0) (b.value ∷ []) refl) (by_parts h),
      )
    where
      row : Pair
      row = row_pair t place r

      by_strict : (c : Bool) → b.strict ≡ c → row.small <ℚ (lower_pair b).small → IsTrue b.strict ⊎ ((whole (pos 1) *ℚ row.small) <ℚ whole (pos 0))
      by_strict true q g = inl q
      by_strict false q g =
          inr (strict_from fraction-order (k (pos 1) ⊗ v 0) (k (pos 0)) (row.small ∷ (lower_pair b).small ∷ [])
          (lt (k (pos 1)) (v 0) (v 1) tt g (eq (k (pos 1)) (v 1) (k (pos 0)) (ap (λ (c : Bool). cond c (whole (pos 1)) (whole (pos 0))) q) done)) tt refl)

      by_parts : row <ₚ lower_pair b → ((whole (pos 1) *ℚ row.main) <ℚ (whole (pos 1) *ℚ b.value)) ⊎ ((row.main ≡ b.value) × (IsTrue b.strict ⊎ ((whole (pos 1) *ℚ row.small) <ℚ whole (pos 0))))
      by_parts (inl g) = inl (strict_from fraction-order (k (pos 1) ⊗ v 0) (k (pos 1) ⊗ v 1) (row.main ∷ b.value ∷ []) (lt (k (pos 1)) (v 0) (v 1) tt g done) tt refl)
      by_parts (inr g) = inr (g.0, by_strict b.strict refl g.1)

  under : (x : Extends terms t) → IsStuck l t place r Under → (o : Option Bound) → lower_of l r ≡ o → BelowLower o (row_pair t place r) → (rows : List Row) × IsClash l terms rows
  under x st None e h = absurd h
  under x st (Some b) e h =
      let c = under_rows x st b e h in (
        lower_row b (terms r) (whole (pos 1)) ∷ parts l terms place (λ j. whole (pos 1) *ℚ cell t r j) (width t) c.0,
        record { readings = ((r, b, inr (e, refl)), parts-readings l terms place (λ j. whole (pos 1) *ℚ cell t r j) (width t) c.0); refutes = c.1 },
      )

  -- the reading of the violated bound, and of those that hold the other variables of its row
  pub over_rows : (x : Extends terms t) → IsStuck l t place r Over → (b : Bound) → upper_of l r ≡ Some b → AboveUpper (Some b) (row_pair t place r)
      → (held : (j : ℕ) → j < width t → Held l (place j) j (whole (negsuc 0) *ℚ cell t r j)) × IsRefutation (upper_row b (terms r) (whole (pos 1)) ∷ parts l terms place (λ j. whole (negsuc 0) *ℚ cell t r j) (width t) held)
  over_rows x st b e h =
      let σ = whole (negsuc 0) in
      let held : (j : ℕ) → j < width t → Held l (place j) j (σ *ℚ cell t r j) = λ j lj. held_by st.within σ (inr refl) j lj
      (λ o p n. st.helpless j lj o (inl (minus_below (cell t r j) p, n))) (λ o p n. st.helpless j lj o (inr (minus_above (cell t r j) p, n))) in
      let own : Row = upper_row b (terms r) (whole (pos 1)) in (
        held,
        refutes l terms t place r σ held x st.within st.basic own b.value refl
            (λ i. solve fraction-ring (v 0) (inv (k (negsuc 0)) ⊗ v 0) (coefficient_of i (terms r) ∷ []) refl)
            (solve fraction-ring (v 0) (inv (k (negsuc 0)) ⊗ v 0) (b.value ∷ []) refl) (by_parts h),
      )
    where
      row : Pair
      row = row_pair t place r

      by_strict : (c : Bool) → b.strict ≡ c → (upper_pair b).small <ℚ row.small → IsTrue b.strict ⊎ ((whole (negsuc 0) *ℚ row.small) <ℚ whole (pos 0))
      by_strict true q g = inl q
      by_strict false q g =
          inr (strict_from fraction-order (k (negsuc 0) ⊗ v 0) (k (pos 0)) (row.small ∷ (upper_pair b).small ∷ [])
          (lt (k (pos 1)) (v 1) (v 0) tt g (eq (inv (k (pos 1))) (v 1) (k (pos 0)) (ap (λ (c : Bool). cond c (whole (negsuc 0)) (whole (pos 0))) q) done)) tt refl)

      by_parts : upper_pair b <ₚ row → ((whole (negsuc 0) *ℚ row.main) <ℚ (whole (negsuc 0) *ℚ b.value)) ⊎ ((row.main ≡ b.value) × (IsTrue b.strict ⊎ ((whole (negsuc 0) *ℚ row.small) <ℚ whole (pos 0))))
      by_parts (inl g) = inl (strict_from fraction-order (k (negsuc 0) ⊗ v 0) (k (negsuc 0) ⊗ v 1) (row.main ∷ b.value ∷ []) (lt (k (pos 1)) (v 1) (v 0) tt g done) tt refl)
      by_parts (inr g) = inr (sym g.0, by_strict b.strict refl g.1)

  over : (x : Extends terms t) → IsStuck l t place r Over → (o : Option Bound) → upper_of l r ≡ o → AboveUpper o (row_pair t place r) → (rows : List Row) × IsClash l terms rows
  over x st None e h = absurd h
  over x st (Some b) e h =
      let c = over_rows x st b e h in (
        upper_row b (terms r) (whole (pos 1)) ∷ parts l terms place (λ j. whole (negsuc 0) *ℚ cell t r j) (width t) c.0,
        record { readings = ((r, b, inl (e, refl)), parts-readings l terms place (λ j. whole (negsuc 0) *ℚ cell t r j) (width t) c.0); refutes = c.1 },
      )

-- a stuck configuration has a clash
pub clash : (l : Limits) (terms : ℕ → Terms) (t : Table) → IsTidy t → (place : ℕ → Pair) → IsPlaced l t place → Extends terms t → (r : ℕ) (side : Side) → IsStuck l t place r side → (rows : List Row) × IsClash l terms rows
clash l terms t tidy place placed x r Under st = under l terms t tidy place placed r x st (lower_of l r) refl st.violates
clash l terms t tidy place placed x r Over st = over l terms t tidy place placed r x st (upper_of l r) refl st.violates
