-- What the assignment says of an occurrence's count.
use Rattle.std.proofs.Common.{◌≡◌, ℕ, zero, suc, ◌≤◌, Bool, true, false, not, cond, ◌||◌, List, [], ◌∷◌, ◌++◌, refl, sym, ap, ◌∙◌, ◌⊎◌, inl, inr, nat_lt, arith}
use Rattle.std.proofs.lemmas.Int.{ints}
use Rattle.std.proofs.lemmas.Bool.{lt-ltb}
use lib.IntN.{ℤ, pos, negsuc, ◌+ℤ◌}
use lib.Signed.{◌≤ℤ◌}
use Rattle.rational.specs.Fraction.{Fraction, whole, ◌+ℚ◌}
use Rattle.rational.specs.Floor.{IsWhole}
use Rattle.rational.proofs.FieldLaws.{whole-add}
use Rattle.rational.proofs.OrderLaws.{≤ℚ-whole}
use Rattle.rational.proofs.FloorLaws.{IsWhole-num}
use Rattle.lin.specs.Linear.{value_of, var, add, fixed}
use Rattle.task_core.specs.declared.action.GAction.{GAction}
use Rattle.task_core.specs.Step.{is_rollable}
use Rattle.encode_laws.specs.Rows.{Assignment, is_done, named, lit, at_most, true_at, is_at_most, Item, row, boolean, MeetsAll}
use Rattle.encode_laws.specs.Symbolic.{Symbolic, is_counted, on_of, first_items, count_items}
use Rattle.lin.proofs.ValueLaws.{value_add, value_var, value_fixed}
use Rattle.encode_laws.proofs.RowLaws.{at_most-true, true-at_most, meets-left, meets-append}

-- a count that the action may have
abbrev pub IsCountOf : GAction → ℕ → Type 0
IsCountOf a n = (is_rollable a ≡ true) ⊎ (n ≤ 1)

-- the count of an occurrence: its count variable, or 1 and 0 by its truth variable
abbrev pub Says : Assignment → ℕ → Bool → ℕ → ℕ → Type 0
Says pt i true c n = pt.value c ≡ whole (pos n)
Says pt i false c n = (pt.truth (is_done i) ≡ nat_lt 0 n) × (n ≤ 1)

-- ---- whole numbers compared with 0
at_most_z : (z : ℤ) → is_at_most (whole z) (whole (pos 0)) ≡ true → z ≤ℤ pos 0
at_most_z z h = (≤ℚ-whole z (pos 0)).0 (at_most-true _ _ h)

z_at_most : (z : ℤ) → z ≤ℤ pos 0 → is_at_most (whole z) (whole (pos 0)) ≡ true
z_at_most z h = true-at_most _ _ ((≤ℚ-whole z (pos 0)).1 h)

not-positive : (n : ℕ) → not (is_at_most (whole (pos n)) (whole (pos 0))) ≡ nat_lt 0 n
not-positive zero = ap not (z_at_most (pos 0) (omega (arith, ints)))
not-positive (suc n) = by_test (is_at_most (whole (pos (suc n))) (whole (pos 0))) refl
  where
    by_test : (b : Bool) → is_at_most (whole (pos (suc n))) (whole (pos 0)) ≡ b → not b ≡ nat_lt 0 (suc n)
    by_test true e = absurd (let h = at_most_z (pos (suc n)) e in omega (arith, ints))
    by_test false e = sym (lt-ltb 0 (suc n) (omega arith))

-- the literal `on` is true exactly where the count is above 0
pub on-says : (pt : Assignment) (i : ℕ) (a : GAction) (y : Symbolic) (n : ℕ) → Says pt i (is_counted a) y.next n → true_at pt (on_of i a y) ≡ nat_lt 0 n
on-says pt i a y n h = by_kind (is_counted a) h
  where
    by_kind : (b : Bool) → Says pt i b y.next n → true_at pt (cond b (lit false (at_most (var y.next))) (lit true (named (is_done i)))) ≡ nat_lt 0 n
    by_kind true e = ap (λ w. not (is_at_most w (whole (pos 0)))) (value_var pt.value y.next ∙ e) ∙ not-positive n
    by_kind false e = e.0

-- ---- its rows
module _ (pt : Assignment) (i : ℕ) where
  plus-value : (c : ℕ) (z : ℤ) → value_of pt.value (add (var c) (fixed (whole z))) ≡ pt.value c +ℚ whole z
  plus-value c z = value_add pt.value (var c) (fixed (whole z)) ∙ ap (λ w. w +ℚ value_of pt.value (fixed (whole z))) (value_var pt.value c) ∙ ap (λ w. pt.value c +ℚ w) (value_fixed pt.value (whole z))

  -- the test `x + z <= 0` at a whole x
  plus-test : (c : ℕ) (x z : ℤ) → pt.value c ≡ whole x → is_at_most (value_of pt.value (add (var c) (fixed (whole z)))) (whole (pos 0)) ≡ is_at_most (whole (x +ℤ z)) (whole (pos 0))
  plus-test c x z e = ap (λ w. is_at_most w (whole (pos 0))) (plus-value c z ∙ ap (λ w. w +ℚ whole z) e ∙ sym (whole-add x z))

  or-false : (b : Bool) → (b || false) ≡ true → b ≡ true
  or-false true h = refl
  or-false false h = absurd (cc)

  natural : (x : ℤ) → not (is_at_most (whole (x +ℤ pos 1)) (whole (pos 0))) ≡ true → (n : ℕ) × (x ≡ pos n)
  natural (pos n) h = (n, refl)
  natural (negsuc n) h = absurd (let e = z_at_most (negsuc n +ℤ pos 1) (omega (arith, ints)) in let f = sym (ap not e) ∙ h in cc)

  counted_rows : Bool → ℕ → List Item
  counted_rows r c = row (lit false (at_most (add (var c) (fixed (whole (pos 1))))) ∷ []) ∷ cond r [] (row (lit true (at_most (add (var c) (fixed (whole (negsuc 0))))) ∷ []) ∷ [])

  counted-down : (r : Bool) (c : ℕ) → IsWhole (pt.value c) → MeetsAll pt (counted_rows r c) → (n : ℕ) × (pt.value c ≡ whole (pos n)) × ((r ≡ true) ⊎ (n ≤ 1))
  unfolding counted_rows
  counted-down r c w h = by_natural (natural x positive) r h.1
    where
      x : ℤ
      x = (pt.value c).num

      e : pt.value c ≡ whole x
      e = IsWhole-num (pt.value c) w

      positive : not (is_at_most (whole (x +ℤ pos 1)) (whole (pos 0))) ≡ true
      positive = sym (ap not (plus-test c x (pos 1) e)) ∙ or-false _ h.0

      by_natural : (n : ℕ) × (x ≡ pos n) → (r : Bool) → MeetsAll pt (cond r [] (row (lit true (at_most (add (var c) (fixed (whole (negsuc 0))))) ∷ []) ∷ []))
          → (n : ℕ) × (pt.value c ≡ whole (pos n)) × ((r ≡ true) ⊎ (n ≤ 1))
      by_natural p true j = (p.0, e ∙ ap whole p.1, inl refl)
      by_natural p false j =
          let g : is_at_most (whole (pos p.0 +ℤ negsuc 0)) (whole (pos 0)) ≡ true = sym (plus-test c (pos p.0) (negsuc 0) (e ∙ ap whole p.1)) ∙ or-false _ j.0 in
          let m = at_most_z (pos p.0 +ℤ negsuc 0) g in
          (p.0, e ∙ ap whole p.1, inr (omega (arith, ints)))

  counted-up : (r : Bool) (c n : ℕ) → pt.value c ≡ whole (pos n) → (r ≡ true) ⊎ (n ≤ 1) → MeetsAll pt (counted_rows r c)
  unfolding counted_rows
  counted-up r c n e h = (
    ap (λ b. b || false) (ap not (plus-test c (pos n) (pos 1) e) ∙ above (is_at_most (whole (pos n +ℤ pos 1)) (whole (pos 0))) refl),
    by_kind r h,
  )
    where
      above : (b : Bool) → is_at_most (whole (pos n +ℤ pos 1)) (whole (pos 0)) ≡ b → not b ≡ true
      above true g = absurd (let m = at_most_z (pos n +ℤ pos 1) g in omega (arith, ints))
      above false g = refl

      small : n ≤ 1 → MeetsAll pt (row (lit true (at_most (add (var c) (fixed (whole (negsuc 0))))) ∷ []) ∷ [])
      small m = (ap (λ b. b || false) (plus-test c (pos n) (negsuc 0) e ∙ z_at_most (pos n +ℤ negsuc 0) (omega (arith, ints))), tt)

      by_kind : (r : Bool) → (r ≡ true) ⊎ (n ≤ 1) → MeetsAll pt (cond r [] (row (lit true (at_most (add (var c) (fixed (whole (negsuc 0))))) ∷ []) ∷ []))
      by_kind true h = tt
      by_kind false (inl t) = absurd (cc)
      by_kind false (inr m) = small m

  pub first-down : (a : GAction) (y : Symbolic) → MeetsAll pt (first_items i a y) → (n : ℕ) × IsCountOf a n × Says pt i (is_counted a) y.next n
  unfolding counted_rows
  first-down a y h = by_kind (is_counted a) h
    where
      by_kind : (b : Bool) → MeetsAll pt (cond b (count_items a y.next ++ boolean (at_most (var y.next)) ∷ []) (boolean (named (is_done i)) ∷ []))
          → (n : ℕ) × IsCountOf a n × Says pt i b y.next n
      by_kind true h =
          let g = meets-left pt (count_items a y.next) (boolean (at_most (var y.next)) ∷ []) h in
          let p = counted-down (is_rollable a) y.next g.0 g.1 in
          (p.0, p.2, p.1)
      by_kind false h = by_truth (pt.truth (is_done i)) refl
        where
          by_truth : (t : Bool) → pt.truth (is_done i) ≡ t → (n : ℕ) × IsCountOf a n × Says pt i false y.next n
          by_truth true e = (1, inr (omega arith), (e, omega arith))
          by_truth false e = (0, inr (omega arith), (e, omega arith))

  pub first-up : (a : GAction) (y : Symbolic) (n : ℕ) → IsCountOf a n → Says pt i (is_counted a) y.next n → MeetsAll pt (first_items i a y)
  unfolding counted_rows
  first-up a y n m h = by_kind (is_counted a) h
    where
      whole_number : (x : Fraction) (z : ℤ) → x ≡ whole z → IsWhole x
      whole_number x z e = ap (λ (w : Fraction). w.den) e

      by_kind : (b : Bool) → Says pt i b y.next n → MeetsAll pt (cond b (count_items a y.next ++ boolean (at_most (var y.next)) ∷ []) (boolean (named (is_done i)) ∷ []))
      by_kind true e = meets-append pt (count_items a y.next) (boolean (at_most (var y.next)) ∷ [])
          (whole_number (pt.value y.next) (pos n) e, counted-up (is_rollable a) y.next n e m) (tt, tt)
      by_kind false e = (tt, tt)
