-- The laws of rounding: the floor of x is the one whole number with `floor ≤ x < floor + 1`, and a whole number is at most x
-- exactly where it is at most the floor. At the end, the split that a whole x allows: x ≤ k or x ≥ k + 1.
use Rattle.std.proofs.Common.{◌≡◌, ℕ, ◌+◌, ◌*◌, ◌<◌, ◌≤◌, ◌↔◌, ◌⊎◌, inl, inr, [], ◌∷◌, refl, sym, ap, ap₂, subst, ◌∙◌, arith}
use Rattle.std.proofs.lemmas.Int.{ints}
use Rattle.std.specs.Int.{int_div_euclid}
use lib.IntN.{ℤ, pos, negsuc, neg_ℤ, ◌+ℤ◌, ◌*ℤ◌}
use lib.Signed.{◌≤ℤ◌, ◌<ℤ◌, ≤ℤ_refl}
use borrow.Author.Differences.{up, down, product_is}
use Rattle.algebra.proofs.Solve.{v, k, ◌⊕◌, ◌⊗◌, inv, solve, bound_from, strict_from, le, lt, eq, done}
use Rattle.rational.proofs.Signs.{fraction-order}
use Rattle.algebra.proofs.IntRing.{int-ring}
use Rattle.rational.specs.Fraction.{Fraction, whole, ◌+ℚ◌, ◌*ℚ◌, neg_ℚ, ◌≤ℚ◌, ◌<ℚ◌}
use Rattle.rational.specs.Floor.{floor_of, ceil_of, IsWhole}
use Rattle.rational.proofs.FieldLaws.{same_parts, whole-add, whole-mul, whole-neg}
use Rattle.rational.proofs.OrderLaws.{≤ℚ-cross, <ℚ-cross, ≤ℚ_refl, ≤ℚ_trans, ≤ℚ-<ℚ_trans, <ℚ-≤ℚ_trans, >-from_not, at_most_or_above, <ℚ-not-≥, ≤ℚ-whole, <ℚ-whole}

-- ---- the floor's two bounds
euclid_parts : (a : ℤ) (d : ℕ) → 0 < d → (up (int_div_euclid a (pos d)) * d + down a ≤ down (int_div_euclid a (pos d)) * d + up a)
    × (down (int_div_euclid a (pos d)) * d + up a < up (int_div_euclid a (pos d)) * d + down a + d)
euclid_parts (pos a) d h = omega arith
euclid_parts (negsuc a) d h = omega arith

euclid_below : (a : ℤ) (d : ℕ) → 0 < d → (int_div_euclid a (pos d) *ℤ pos d) ≤ℤ (a *ℤ pos 1)
euclid_below a d h = omega (arith, ints, euclid_parts a d h, product_is (int_div_euclid a (pos d)) (pos d))

euclid_above : (a : ℤ) (d : ℕ) → 0 < d → (a *ℤ pos 1) <ℤ ((int_div_euclid a (pos d) +ℤ pos 1) *ℤ pos d)
euclid_above a d h = let q = int_div_euclid a (pos d) in
    rw (solve int-ring ((v 0 ⊕ k (pos 1)) ⊗ v 1) (v 0 ⊗ v 1 ⊕ v 1) (q ∷ pos d ∷ []) refl) (omega (arith, ints, euclid_parts a d h, product_is q (pos d)))

-- the floor of x is at most x
pub floor_below : (x : Fraction) → whole (floor_of x) ≤ℚ x
unfolding floor_of
floor_below x = (≤ℚ-cross (whole (floor_of x)) x).1 (euclid_below x.num x.den x.positive)

-- x is below floor x + 1
pub floor_above : (x : Fraction) → x <ℚ whole (floor_of x +ℤ pos 1)
unfolding floor_of
floor_above x = (<ℚ-cross x (whole (floor_of x +ℤ pos 1))).1 (euclid_above x.num x.den x.positive)

-- ---- it is the greatest whole number that is at most x
-- k ≤ x exactly where k ≤ floor x
pub floor-iff : (x : Fraction) (z : ℤ) → (whole z ≤ℚ x) ↔ (z ≤ℤ floor_of x)
floor-iff x z = (
  λ h. let c = (<ℚ-whole _ _).0 (≤ℚ-<ℚ_trans _ _ _ h (floor_above x)) in omega (arith, ints),
  λ h. ≤ℚ_trans _ _ _ ((≤ℚ-whole _ _).1 h) (floor_below x),
)

-- x < k exactly where floor x < k
pub floor-iff_below : (x : Fraction) (z : ℤ) → (x <ℚ whole z) ↔ (floor_of x <ℤ z)
floor-iff_below x z = (
  λ h. (<ℚ-whole _ _).0 (≤ℚ-<ℚ_trans _ _ _ (floor_below x) h),
  λ h. <ℚ-≤ℚ_trans _ _ _ (floor_above x) ((≤ℚ-whole _ _).1 (omega (arith, ints))),
)

-- a whole number with the floor's two bounds is the floor
pub floor_is : (x : Fraction) (z : ℤ) → whole z ≤ℚ x → x <ℚ whole (z +ℤ pos 1) → floor_of x ≡ z
floor_is x z h j = let a = (floor-iff x z).0 h in let b = (floor-iff_below x (z +ℤ pos 1)).0 j in omega (arith, ints)

-- the floor of a whole number is itself
pub floor-whole : (z : ℤ) → floor_of (whole z) ≡ z
floor-whole z = floor_is (whole z) z (≤ℚ_refl (whole z)) ((<ℚ-whole _ _).1 (omega (arith, ints)))

-- the floor keeps the order
pub floor_le : (x y : Fraction) → x ≤ℚ y → floor_of x ≤ℤ floor_of y
floor_le x y h = (floor-iff y (floor_of x)).0 (≤ℚ_trans _ _ _ (floor_below x) h)

-- the floor of x + k is floor x + k
pub floor-add_whole : (x : Fraction) (z : ℤ) → floor_of (x +ℚ whole z) ≡ floor_of x +ℤ z
floor-add_whole x z =
    let f = floor_of x in
    let e : whole (f +ℤ z +ℤ pos 1) ≡ whole (f +ℤ pos 1) +ℚ whole z = ap whole (solve int-ring (v 0 ⊕ v 1 ⊕ k (pos 1)) (v 0 ⊕ k (pos 1) ⊕ v 1) (f ∷ z ∷ []) refl) ∙ whole-add (f +ℤ pos 1) z in
    floor_is (x +ℚ whole z) (f +ℤ z)
    (bound_from fraction-order (v 0) (v 1 ⊕ v 2) (whole (f +ℤ z) ∷ x ∷ whole z ∷ whole f ∷ []) (le (k (pos 1)) (v 3) (v 1) tt (floor_below x) (eq (k (pos 1)) (v 0) (v 3 ⊕ v 2) (whole-add f z) done)) refl)
    (strict_from fraction-order (v 1 ⊕ v 2) (v 0) (whole (f +ℤ z +ℤ pos 1) ∷ x ∷ whole z ∷ whole (f +ℤ pos 1) ∷ [])
    (lt (k (pos 1)) (v 1) (v 3) tt (floor_above x) (eq (k (negsuc 0)) (v 0) (v 3 ⊕ v 2) e done)) tt refl)

-- ---- the ceiling
-- x ≤ k exactly where -k ≤ -x
neg_le_whole : (x : Fraction) (z : ℤ) → (x ≤ℚ whole z) ↔ (whole (neg_ℤ z) ≤ℚ neg_ℚ x)
neg_le_whole x z =
    let ρ = x ∷ whole z ∷ whole (neg_ℤ z) ∷ [] in (
      λ h. bound_from fraction-order (v 2) (inv (v 0)) ρ (le (k (pos 1)) (v 0) (v 1) tt h (eq (k (pos 1)) (v 2) (inv (v 1)) (whole-neg z) done)) refl,
      λ h. bound_from fraction-order (v 0) (v 1) ρ (le (k (pos 1)) (v 2) (inv (v 0)) tt h (eq (k (negsuc 0)) (v 2) (inv (v 1)) (whole-neg z) done)) refl,
    )

-- x ≤ k exactly where ceil x ≤ k
pub ceil-iff : (x : Fraction) (z : ℤ) → (x ≤ℚ whole z) ↔ (ceil_of x ≤ℤ z)
unfolding ceil_of
ceil-iff x z = (
  λ h. let c = (floor-iff (neg_ℚ x) (neg_ℤ z)).0 ((neg_le_whole x z).0 h) in omega (arith, ints),
  λ h. (neg_le_whole x z).1 ((floor-iff (neg_ℚ x) (neg_ℤ z)).1 (omega (arith, ints))),
)

-- x is at most its ceiling
pub ceil_above : (x : Fraction) → x ≤ℚ whole (ceil_of x)
ceil_above x = (ceil-iff x (ceil_of x)).1 (≤ℤ_refl (ceil_of x))

-- the number before the ceiling is below x
pub ceil_below : (x : Fraction) → whole (ceil_of x +ℤ negsuc 0) <ℚ x
ceil_below x = >-from_not _ _ (λ h. let c = (ceil-iff x (ceil_of x +ℤ negsuc 0)).0 h in omega (arith, ints))

-- k < x exactly where k < ceil x
pub ceil-iff_above : (x : Fraction) (z : ℤ) → (whole z <ℚ x) ↔ (z <ℤ ceil_of x)
ceil-iff_above x z = (
  λ h. (<ℚ-whole _ _).0 (<ℚ-≤ℚ_trans _ _ _ h (ceil_above x)),
  λ h. ≤ℚ-<ℚ_trans _ _ _ ((≤ℚ-whole _ _).1 (omega (arith, ints))) (ceil_below x),
)

-- the ceiling of a whole number is itself
pub ceil-whole : (z : ℤ) → ceil_of (whole z) ≡ z
unfolding ceil_of
ceil-whole z = ap (λ w. neg_ℤ (floor_of w)) (sym (whole-neg z)) ∙ ap neg_ℤ (floor-whole (neg_ℤ z)) ∙ solve int-ring (inv (inv (v 0))) (v 0) (z ∷ []) refl

-- ---- whole fractions
-- a whole fraction is its numerator
pub IsWhole-num : (x : Fraction) → IsWhole x → x ≡ whole x.num
IsWhole-num x h = same_parts x (whole x.num) refl h

-- a fraction is whole exactly where it is its floor
pub IsWhole-iff : (x : Fraction) → IsWhole x ↔ (whole (floor_of x) ≡ x)
IsWhole-iff x = (
  λ h. let e = IsWhole-num x h in ap (λ w. whole (floor_of w)) e ∙ ap whole (floor-whole x.num) ∙ sym e,
  λ e. let P : Fraction → Type 0 = λ w. IsWhole w in subst P e refl,
)

-- a sum of whole fractions is whole
pub IsWhole-add : (x y : Fraction) → IsWhole x → IsWhole y → IsWhole (x +ℚ y)
IsWhole-add x y h j = let P : Fraction → Type 0 = λ w. IsWhole w in
    subst P (whole-add x.num y.num ∙ ap₂ (λ a b. a +ℚ b) (sym (IsWhole-num x h)) (sym (IsWhole-num y j))) refl

-- a product of whole fractions is whole
pub IsWhole-mul : (x y : Fraction) → IsWhole x → IsWhole y → IsWhole (x *ℚ y)
IsWhole-mul x y h j = let P : Fraction → Type 0 = λ w. IsWhole w in
    subst P (whole-mul x.num y.num ∙ ap₂ (λ a b. a *ℚ b) (sym (IsWhole-num x h)) (sym (IsWhole-num y j))) refl

-- the negative of a whole fraction is whole
pub IsWhole-neg : (x : Fraction) → IsWhole x → IsWhole (neg_ℚ x)
IsWhole-neg x h = let P : Fraction → Type 0 = λ w. IsWhole w in subst P (whole-neg x.num ∙ ap neg_ℚ (sym (IsWhole-num x h))) refl

-- a whole x is at most b exactly where it is at most the floor of b
pub IsWhole-floor : (x b : Fraction) → IsWhole x → (x ≤ℚ b) ↔ (x ≤ℚ whole (floor_of b))
IsWhole-floor x b w = (
  λ h. let e = IsWhole-num x w in subst (λ y. y ≤ℚ whole (floor_of b)) (sym e) ((≤ℚ-whole _ _).1 ((floor-iff b x.num).0 (subst (λ y. y ≤ℚ b) e h))),
  λ h. ≤ℚ_trans _ _ _ h (floor_below b),
)

-- a whole x is at least b exactly where it is at least the ceiling of b
pub IsWhole-ceil : (x b : Fraction) → IsWhole x → (b ≤ℚ x) ↔ (whole (ceil_of b) ≤ℚ x)
IsWhole-ceil x b w = (
  λ h. let e = IsWhole-num x w in subst (λ y. whole (ceil_of b) ≤ℚ y) (sym e) ((≤ℚ-whole _ _).1 ((ceil-iff b x.num).0 (subst (λ y. b ≤ℚ y) e h))),
  λ h. ≤ℚ_trans _ _ _ (ceil_above b) h,
)

-- the split: a whole x isn't at most k exactly where it is at least k + 1
pub IsWhole-split : (x : Fraction) (z : ℤ) → IsWhole x → (¬ (x ≤ℚ whole z)) ↔ (whole (z +ℤ pos 1) ≤ℚ x)
IsWhole-split x z w = (
  λ n. let e = IsWhole-num x w in let c = (<ℚ-whole z x.num).0 (subst (λ y. whole z <ℚ y) e (>-from_not _ _ n)) in
      subst (λ y. whole (z +ℤ pos 1) ≤ℚ y) (sym e) ((≤ℚ-whole _ _).1 (omega (arith, ints))),
  λ h j. let c = (≤ℚ-whole _ _).0 (≤ℚ_trans _ _ _ h j) in omega (arith, ints),
)

-- a whole x is at most k, or at least k + 1
pub whole_either_side : (x : Fraction) (z : ℤ) → IsWhole x → (x ≤ℚ whole z) ⊎ (whole (z +ℤ pos 1) ≤ℚ x)
whole_either_side x z w = by_case (at_most_or_above x (whole z))
  where
    by_case : (x ≤ℚ whole z) ⊎ (whole z <ℚ x) → (x ≤ℚ whole z) ⊎ (whole (z +ℤ pos 1) ≤ℚ x)
    by_case (inl h) = inl h
    by_case (inr h) = inr ((IsWhole-split x z w).0 (<ℚ-not-≥ (whole z) x h))

-- for contracts that cite the laws of rounding
pub ruleset rounding_laws = (floor-iff, ceil-iff, IsWhole-iff)
