-- The literal of `L <= 0` and of `L < 0`: its atom is true exactly where the comparison holds, for whole counts.
use Rattle.std.proofs.Common.{◌≡◌, ◌≢◌, ◌↔◌, ℕ, Bool, true, false, not, cond, ◌⊎◌, inl, inr, List, [], ◌∷◌, refl, sym, ap, subst, ◌∙◌}
use Rattle.std.specs.Prelude.{slice_get, unwrap_or}
use lib.IntN.{ℤ, pos, negsuc, ◌+ℤ◌}
use Rattle.algebra.proofs.Solve.{v, k, ◌⊕◌, ◌⊗◌, inv, solve, solve_from, bound_from, strict_from, eq, le, lt, done}
use Rattle.algebra.proofs.IntRing.{int-ring}
use Rattle.rational.specs.Fraction.{Fraction, whole, ◌+ℚ◌, ◌*ℚ◌, ◌/ℚ◌, neg_ℚ, inv_ℚ, ◌≤ℚ◌, ◌<ℚ◌, IsPositive}
use Rattle.rational.specs.Floor.{floor_of, ceil_of, IsWhole}
use Rattle.rational.specs.Linear.{Terms, value_at}
use Rattle.rational.proofs.FieldLaws.{fraction-ring}
use Rattle.rational.proofs.Signs.{fraction-order}
use Rattle.rational.proofs.OrderLaws.{below_same_or_above, positive-iff, at_most_or_above, <ℚ-not-≥, positive_apart}
use Rattle.rational.proofs.BoundLaws.{upper_bound, strict_upper_bound, upper_bound_negative, strict_upper_bound_negative, negative_apart}
use Rattle.rational.proofs.Division.{mul-inv}
use Rattle.rational.proofs.FloorLaws.{IsWhole-floor, IsWhole-ceil, IsWhole-split}
use Rattle.lin.specs.Normal.{is_zero, IsNormal}
use Rattle.lin.specs.Linear.{value_of, linear_of}
use Rattle.lin.proofs.Merging.{normal_parts}
use Rattle.lin.proofs.ValueLaws.{value_var, value-collected}
use Rattle.formula.specs.declared.atom.Atom.{Atom}
use Rattle.formula.specs.Atoms.{is_one_count}
use Rattle.encode_laws.specs.Rows.{Assignment, Fact, at_most, below, named, Literal, yes, no, lit, is_at_most, is_below, signed, fact_at, true_at}
use Rattle.encode_laws.specs.Numbering.{Key, atom, truth, Plain, always, never, of, constant_plain, is_positive, divided, plain_at_most, plain_below, at_most_terms, below_terms, plain_fact, signed_plain, plain}
use Rattle.encode_laws.proofs.Quotients.{is_zero-false}
use Rattle.encode_laws.proofs.RowLaws.{T_true, true_T, at_most-true, true-at_most, below-true, true-below}

-- whether a numeric variable is a count
abbrev pub is_counted_in : List Bool → ℕ → Bool
is_counted_in counts n = unwrap_or (slice_get counts n) false

-- ---- the truth of a key by an assignment
abbrev pub atom_true : (ℕ → Fraction) → Atom → Bool
atom_true at a = cond a.strict (is_below (value_of at a.lin) a.bound) (is_at_most (value_of at a.lin) a.bound)

abbrev pub key_true : Assignment → Key → Bool
key_true pt (atom a) = atom_true pt.value a
key_true pt (truth n) = pt.truth n

abbrev pub plain_true : Assignment → Plain → Bool
plain_true pt always = true
plain_true pt never = false
plain_true pt (of s key) = signed s (key_true pt key)

-- ---- tests
pub same_truth : (b c : Bool) → (b ≡ true → c ≡ true) → (c ≡ true → b ≡ true) → b ≡ c
same_truth true true f g = refl
same_truth true false f g = sym (f refl)
same_truth false true f g = g refl
same_truth false false f g = refl

at_most-iff : (x y z w : Fraction) → (x ≤ℚ y) ↔ (z ≤ℚ w) → is_at_most x y ≡ is_at_most z w
at_most-iff x y z w h = same_truth _ _ (λ e. true-at_most z w (h.0 (at_most-true x y e))) (λ e. true-at_most x y (h.1 (at_most-true z w e)))

below-iff : (x y z w : Fraction) → (x <ℚ y) ↔ (z <ℚ w) → is_below x y ≡ is_below z w
below-iff x y z w h = same_truth _ _ (λ e. true-below z w (h.0 (below-true x y e))) (λ e. true-below x y (h.1 (below-true z w e)))

pub flip : (x y : Fraction) → is_below y x ≡ not (is_at_most x y)
flip x y = by_case (at_most_or_above x y)
  where
    no_below : ¬ (y <ℚ x) → (b : Bool) → is_below y x ≡ b → b ≡ false
    no_below f true e = absurd (f (below-true y x e))
    no_below f false e = refl

    no_at_most : ¬ (x ≤ℚ y) → (b : Bool) → is_at_most x y ≡ b → b ≡ false
    no_at_most f true e = absurd (f (at_most-true x y e))
    no_at_most f false e = refl

    by_case : (x ≤ℚ y) ⊎ (y <ℚ x) → is_below y x ≡ not (is_at_most x y)
    by_case (inl h) = no_below (λ g. <ℚ-not-≥ y x g h) (is_below y x) refl ∙ sym (ap not (true-at_most x y h))
    by_case (inr h) = true-below y x h ∙ sym (ap not (no_at_most (<ℚ-not-≥ y x h) (is_at_most x y) refl))

not-not : (b : Bool) → not (not b) ≡ b
not-not true = refl
not-not false = refl

flip_at_most : (x y : Fraction) → is_at_most x y ≡ not (is_below y x)
flip_at_most x y = sym (not-not (is_at_most x y)) ∙ sym (ap not (flip x y))

-- ---- what isn't 0 is above or below it
pub sign_cases : (a : Fraction) → is_zero a ≡ false → (b : Bool) → is_positive a ≡ b → cond b (IsPositive a) (IsPositive (neg_ℚ a))
sign_cases a z true e = true_T e
sign_cases a z false e = by_case (below_same_or_above a (whole (pos 0)))
  where
    by_case : (a <ℚ whole (pos 0)) ⊎ ((a ≡ whole (pos 0)) ⊎ (whole (pos 0) <ℚ a)) → IsPositive (neg_ℚ a)
    by_case (inl h) = (positive-iff (neg_ℚ a)).1 (strict_from fraction-order (k (pos 0)) (inv (v 0)) (a ∷ []) (lt (k (pos 1)) (v 0) (k (pos 0)) tt h done) tt refl)
    by_case (inr (inl h)) = absurd (is_zero-false a z h)
    by_case (inr (inr h)) = absurd (let g = T_true (is_positive a) ((positive-iff a).1 h) in cc)

-- ---- comparisons of a * x + k with 0
module _ (a x c : Fraction) where
  moved : ((a *ℚ x +ℚ c) ≤ℚ whole (pos 0)) ↔ ((a *ℚ x) ≤ℚ neg_ℚ c)
  moved = (
    λ h. bound_from fraction-order (v 0 ⊗ v 1) (inv (v 2)) (a ∷ x ∷ c ∷ []) (le (k (pos 1)) (v 0 ⊗ v 1 ⊕ v 2) (k (pos 0)) tt h done) refl,
    λ h. bound_from fraction-order (v 0 ⊗ v 1 ⊕ v 2) (k (pos 0)) (a ∷ x ∷ c ∷ []) (le (k (pos 1)) (v 0 ⊗ v 1) (inv (v 2)) tt h done) refl,
  )

  moved_strict : ((a *ℚ x +ℚ c) <ℚ whole (pos 0)) ↔ ((a *ℚ x) <ℚ neg_ℚ c)
  moved_strict = (
    λ h. strict_from fraction-order (v 0 ⊗ v 1) (inv (v 2)) (a ∷ x ∷ c ∷ []) (lt (k (pos 1)) (v 0 ⊗ v 1 ⊕ v 2) (k (pos 0)) tt h done) tt refl,
    λ h. strict_from fraction-order (v 0 ⊗ v 1 ⊕ v 2) (k (pos 0)) (a ∷ x ∷ c ∷ []) (lt (k (pos 1)) (v 0 ⊗ v 1) (inv (v 2)) tt h done) tt refl,
  )

  le_pos : IsPositive a → is_at_most (a *ℚ x +ℚ c) (whole (pos 0)) ≡ is_at_most x (neg_ℚ c /ℚ a)
  le_pos p = let u = upper_bound a x (neg_ℚ c) p in at_most-iff _ _ _ _ ((λ h. u.0 (moved.0 h)), (λ h. moved.1 (u.1 h)))

  le_neg : IsPositive (neg_ℚ a) → is_at_most (a *ℚ x +ℚ c) (whole (pos 0)) ≡ is_at_most (neg_ℚ c /ℚ a) x
  le_neg p = let u = upper_bound_negative a x (neg_ℚ c) p in at_most-iff _ _ _ _ ((λ h. u.0 (moved.0 h)), (λ h. moved.1 (u.1 h)))

  lt_pos : IsPositive a → is_below (a *ℚ x +ℚ c) (whole (pos 0)) ≡ is_below x (neg_ℚ c /ℚ a)
  lt_pos p = let u = strict_upper_bound a x (neg_ℚ c) p in below-iff _ _ _ _ ((λ h. u.0 (moved_strict.0 h)), (λ h. moved_strict.1 (u.1 h)))

  lt_neg : IsPositive (neg_ℚ a) → is_below (a *ℚ x +ℚ c) (whole (pos 0)) ≡ is_below (neg_ℚ c /ℚ a) x
  lt_neg p = let u = strict_upper_bound_negative a x (neg_ℚ c) p in below-iff _ _ _ _ ((λ h. u.0 (moved_strict.0 h)), (λ h. moved_strict.1 (u.1 h)))

-- ---- bounds on a whole x, rounded
module _ (x b : Fraction) (w : IsWhole x) where
  round_floor : is_at_most x b ≡ is_at_most x (whole (floor_of b))
  round_floor = at_most-iff _ _ _ _ (IsWhole-floor x b w)

  one_less : (ceil_of b +ℤ negsuc 0) +ℤ pos 1 ≡ ceil_of b
  one_less = solve int-ring (v 0 ⊕ k (negsuc 0) ⊕ k (pos 1)) (v 0) (ceil_of b ∷ []) refl

  round_ceil : is_at_most b x ≡ not (is_at_most x (whole (ceil_of b +ℤ negsuc 0)))
  round_ceil = at_most-iff _ _ _ _ (IsWhole-ceil x b w) ∙ same_truth _ _ to from
    where
      z : ℤ
      z = ceil_of b +ℤ negsuc 0

      split : (¬ (x ≤ℚ whole (ceil_of b +ℤ negsuc 0))) ↔ (whole ((ceil_of b +ℤ negsuc 0) +ℤ pos 1) ≤ℚ x)
      split = IsWhole-split x (ceil_of b +ℤ negsuc 0) w

      not_at_most : (t : Bool) → is_at_most x (whole (ceil_of b +ℤ negsuc 0)) ≡ t → ¬ (x ≤ℚ whole (ceil_of b +ℤ negsuc 0)) → not t ≡ true
      not_at_most true e f = absurd (f (at_most-true _ _ e))
      not_at_most false e f = refl

      at_most_not : (t : Bool) → is_at_most x (whole (ceil_of b +ℤ negsuc 0)) ≡ t → not t ≡ true → ¬ (x ≤ℚ whole (ceil_of b +ℤ negsuc 0))
      at_most_not true e f = absurd (cc)
      at_most_not false e f = λ h. let g = true-at_most _ _ h in absurd (cc)

      to : is_at_most (whole (ceil_of b)) x ≡ true → not (is_at_most x (whole (ceil_of b +ℤ negsuc 0))) ≡ true
      to e = not_at_most _ refl (split.1 (subst (λ (m : ℤ). whole m ≤ℚ x) (sym one_less) (at_most-true _ _ e)))

      from : not (is_at_most x (whole (ceil_of b +ℤ negsuc 0))) ≡ true → is_at_most (whole (ceil_of b)) x ≡ true
      from e = true-at_most _ _ (subst (λ (m : ℤ). whole m ≤ℚ x) one_less (split.0 (at_most_not _ refl e)))

-- ---- an expression divided by a coefficient
value-divided : (at : ℕ → Fraction) (a : Fraction) → a ≢ whole (pos 0) → (ts : Terms) → a *ℚ value_at at (divided a ts) ≡ value_at at ts
value-divided at a h [] = solve fraction-ring (v 0 ⊗ k (pos 0)) (k (pos 0)) (a ∷ []) refl
value-divided at a h (t ∷ ts) =
    solve_from fraction-ring (v 0 ⊗ (v 1 ⊗ v 2 ⊗ v 3 ⊕ v 4)) (v 1 ⊗ v 3 ⊕ v 5) (a ∷ t.1 ∷ inv_ℚ a ∷ at t.0 ∷ value_at at (divided a ts) ∷ value_at at ts ∷ [])
    (eq (v 1 ⊗ v 3) (v 0 ⊗ v 2) (k (pos 1)) (mul-inv a h) (eq (k (pos 1)) (v 0 ⊗ v 4) (v 5) (value-divided at a h ts) done)) refl

value-quotient : (at : ℕ → Fraction) (a : Fraction) → a ≢ whole (pos 0) → (ts : Terms) → a *ℚ value_of at (linear_of (divided a ts) (whole (pos 0))) ≡ value_at at ts
value-quotient at a h ts =
    ap (λ w. a *ℚ (w +ℚ whole (pos 0))) (value-collected at (divided a ts))
    ∙ solve fraction-ring (v 0 ⊗ (v 1 ⊕ k (pos 0))) (v 0 ⊗ v 1) (a ∷ value_at at (divided a ts) ∷ []) refl ∙ value-divided at a h ts

pub apart_by_sign : (a : Fraction) (b : Bool) → cond b (IsPositive a) (IsPositive (neg_ℚ a)) → a ≢ whole (pos 0)
apart_by_sign a true h = positive_apart a h
apart_by_sign a false h = negative_apart a h

module _ (pt : Assignment) (counts : List Bool) (whole_counts : (v : ℕ) → is_counted_in counts v ≡ true → IsWhole (pt.value v)) where
  -- of a count's terms the first is the only one
  one_term : (t : ℕ × Fraction) (ts : Terms) → is_one_count counts (t ∷ ts) ≡ true → (is_counted_in counts t.0 ≡ true) × (value_at pt.value (t ∷ ts) ≡ t.1 *ℚ pt.value t.0)
  one_term t [] h = (h, solve fraction-ring (v 0 ⊕ k (pos 0)) (v 0) ((t.1 *ℚ pt.value t.0) ∷ []) refl)
  one_term t (u ∷ us) h = absurd (cc)

  module _ (t : ℕ × Fraction) (ts : Terms) (k0 : Fraction) where
    a : Fraction
    a = t.1

    b : Fraction
    b = neg_ℚ k0 /ℚ t.1

    at_most_plain : (o s : Bool) → is_one_count counts (t ∷ ts) ≡ o → cond s (IsPositive t.1) (IsPositive (neg_ℚ t.1))
        → is_at_most (value_at pt.value (t ∷ ts) +ℚ k0) (whole (pos 0)) ≡ plain_true pt (plain_at_most o s t.0 t.1 (t ∷ ts) (neg_ℚ k0 /ℚ t.1))
    at_most_plain true true o p = let one = one_term t ts o in
        ap (λ w. is_at_most (w +ℚ k0) (whole (pos 0))) one.1 ∙ le_pos t.1 (pt.value t.0) k0 p ∙ round_floor (pt.value t.0) (neg_ℚ k0 /ℚ t.1) (whole_counts t.0 one.0)
        ∙ ap (λ w. is_at_most w (whole (floor_of (neg_ℚ k0 /ℚ t.1)))) (sym (value_var pt.value t.0))
    at_most_plain true false o p = let one = one_term t ts o in
        ap (λ w. is_at_most (w +ℚ k0) (whole (pos 0))) one.1 ∙ le_neg t.1 (pt.value t.0) k0 p ∙ round_ceil (pt.value t.0) (neg_ℚ k0 /ℚ t.1) (whole_counts t.0 one.0)
        ∙ ap (λ w. not (is_at_most w (whole (ceil_of (neg_ℚ k0 /ℚ t.1) +ℤ negsuc 0)))) (sym (value_var pt.value t.0))
    at_most_plain false true o p =
        ap (λ w. is_at_most (w +ℚ k0) (whole (pos 0))) (sym (value-quotient pt.value t.1 (positive_apart t.1 p) (t ∷ ts))) ∙ le_pos t.1 (value_of pt.value (linear_of (divided t.1 (t ∷ ts)) (whole (pos 0)))) k0 p
    at_most_plain false false o p =
        ap (λ w. is_at_most (w +ℚ k0) (whole (pos 0))) (sym (value-quotient pt.value t.1 (negative_apart t.1 p) (t ∷ ts))) ∙ le_neg t.1 (value_of pt.value (linear_of (divided t.1 (t ∷ ts)) (whole (pos 0)))) k0 p
        ∙ flip_at_most _ _

    below_plain : (o s : Bool) → is_one_count counts (t ∷ ts) ≡ o → cond s (IsPositive t.1) (IsPositive (neg_ℚ t.1))
        → is_below (value_at pt.value (t ∷ ts) +ℚ k0) (whole (pos 0)) ≡ plain_true pt (plain_below o s t.0 t.1 (t ∷ ts) (neg_ℚ k0 /ℚ t.1))
    below_plain true true o p = let one = one_term t ts o in
        ap (λ w. is_below (w +ℚ k0) (whole (pos 0))) one.1 ∙ lt_pos t.1 (pt.value t.0) k0 p ∙ flip (neg_ℚ k0 /ℚ t.1) (pt.value t.0)
        ∙ ap not (round_ceil (pt.value t.0) (neg_ℚ k0 /ℚ t.1) (whole_counts t.0 one.0)) ∙ not-not _
        ∙ ap (λ w. is_at_most w (whole (ceil_of (neg_ℚ k0 /ℚ t.1) +ℤ negsuc 0))) (sym (value_var pt.value t.0))
    below_plain true false o p = let one = one_term t ts o in
        ap (λ w. is_below (w +ℚ k0) (whole (pos 0))) one.1 ∙ lt_neg t.1 (pt.value t.0) k0 p ∙ flip (pt.value t.0) (neg_ℚ k0 /ℚ t.1)
        ∙ ap not (round_floor (pt.value t.0) (neg_ℚ k0 /ℚ t.1) (whole_counts t.0 one.0))
        ∙ ap (λ w. not (is_at_most w (whole (floor_of (neg_ℚ k0 /ℚ t.1))))) (sym (value_var pt.value t.0))
    below_plain false true o p =
        ap (λ w. is_below (w +ℚ k0) (whole (pos 0))) (sym (value-quotient pt.value t.1 (positive_apart t.1 p) (t ∷ ts))) ∙ lt_pos t.1 (value_of pt.value (linear_of (divided t.1 (t ∷ ts)) (whole (pos 0)))) k0 p
    below_plain false false o p =
        ap (λ w. is_below (w +ℚ k0) (whole (pos 0))) (sym (value-quotient pt.value t.1 (negative_apart t.1 p) (t ∷ ts))) ∙ lt_neg t.1 (value_of pt.value (linear_of (divided t.1 (t ∷ ts)) (whole (pos 0)))) k0 p
        ∙ flip _ _

  constant-true : (c : Bool) → c ≡ plain_true pt (constant_plain c)
  constant-true true = refl
  constant-true false = refl

  no_terms : (k0 : Fraction) → whole (pos 0) +ℚ k0 ≡ k0
  no_terms k0 = solve fraction-ring (k (pos 0) ⊕ v 0) (v 0) (k0 ∷ []) refl

  at_most-terms : (ts : Terms) (k0 : Fraction) → IsNormal ts → is_at_most (value_at pt.value ts +ℚ k0) (whole (pos 0)) ≡ plain_true pt (at_most_terms counts ts k0)
  at_most-terms [] k0 h = ap (λ w. is_at_most w (whole (pos 0))) (no_terms k0) ∙ constant-true _
  at_most-terms (t ∷ ts) k0 h = at_most_plain t ts k0 (is_one_count counts (t ∷ ts)) (is_positive t.1) refl (sign_cases t.1 (normal_parts 0 t ts h).some (is_positive t.1) refl)

  below-terms : (ts : Terms) (k0 : Fraction) → IsNormal ts → is_below (value_at pt.value ts +ℚ k0) (whole (pos 0)) ≡ plain_true pt (below_terms counts ts k0)
  below-terms [] k0 h = ap (λ w. is_below w (whole (pos 0))) (no_terms k0) ∙ constant-true _
  below-terms (t ∷ ts) k0 h = below_plain t ts k0 (is_one_count counts (t ∷ ts)) (is_positive t.1) refl (sign_cases t.1 (normal_parts 0 t ts h).some (is_positive t.1) refl)

  -- a fact is true exactly where its plain literal is
  pub plain-fact : (f : Fact) → fact_at pt f ≡ plain_true pt (plain_fact counts f)
  plain-fact (at_most l) = at_most-terms l.terms l.constant l.normal
  plain-fact (below l) = below-terms l.terms l.constant l.normal
  plain-fact (named n) = refl

  signed-plain : (s : Bool) (q : Plain) → signed s (plain_true pt q) ≡ plain_true pt (signed_plain s q)
  signed-plain true q = refl
  signed-plain false always = refl
  signed-plain false never = refl
  signed-plain false (of true key) = refl
  signed-plain false (of false key) = not-not _

  pub plain-literal : (l : Literal) → true_at pt l ≡ plain_true pt (plain counts l)
  plain-literal yes = refl
  plain-literal no = refl
  plain-literal (lit s f) = ap (signed s) (plain-fact f) ∙ signed-plain s (plain_fact counts f)
