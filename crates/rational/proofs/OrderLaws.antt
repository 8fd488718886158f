-- The order of the fractions: it is that of the cross products, total, and kept by + and by * with what isn't negative. Most
-- laws are one line by `bound_from` or `strict_from`.
use Rattle.std.proofs.Common.{◌≡◌, ◌≢◌, ℕ, suc, ◌*◌, ◌⊎◌, inl, inr, ◌↔◌, [], ◌∷◌, refl, sym, subst, arith}
use native.Mathlib.Nat.{zero-lt-suc}
use Rattle.std.proofs.lemmas.Int.{ints}
use lib.IntN.{ℤ, pos, negsuc, neg_ℤ, ◌+ℤ◌, ◌*ℤ◌}
use lib.Signed.{non_neg, lt_z, ◌≤ℤ◌, ◌<ℤ◌}
use lib.Dec.{T_prop, T, lt→ltb}
use borrow.Author.Differences.{not_negative_out}
use Rattle.algebra.proofs.Solve.{v, k, ◌⊕◌, ◌⊖◌, ◌⊗◌, inv, solve, solve_from, eq, bound_from, strict_from, le, lt, done}
use Rattle.algebra.proofs.IntRing.{int-ring}
use Rattle.rational.specs.Fraction.{Fraction, whole, ◌+ℚ◌, ◌*ℚ◌, neg_ℚ, ◌-ℚ◌, inv_ℚ, ◌≤ℚ◌, ◌<ℚ◌, IsNotNegative, IsPositive}
use Rattle.rational.proofs.FieldLaws.{IsQuotient, itself, add_is, neg_is, fraction-ring, zero_num}
use Rattle.rational.proofs.Division.{mul-inv}
use Rattle.rational.proofs.Signs.{not_negative_is, is_not_negative, positive_is, is_positive, weaken_positive, fraction-order}

-- ---- the order is that of the cross products
difference_is : (x y : Fraction) (a c : ℤ) (b d : ℕ) → IsQuotient x a b → IsQuotient y c d → IsQuotient (y -ℚ x) (c *ℤ pos b +ℤ neg_ℤ a *ℤ pos d) (d * b)
difference_is x y a c b d p q = add_is _ _ _ _ _ _ q (neg_is _ _ _ p)

minus_out : (a : ℤ) (d : ℕ) → neg_ℤ a *ℤ pos d ≡ neg_ℤ (a *ℤ pos d)
minus_out a d = solve int-ring (inv (v 0) ⊗ v 1) (inv (v 0 ⊗ v 1)) (a ∷ pos d ∷ []) refl

-- a / b ≤ c / d exactly where a * d ≤ c * b
pub ≤ℚ_is : (x y : Fraction) (a c : ℤ) (b d : ℕ) → IsQuotient x a b → IsQuotient y c d → (x ≤ℚ y) ↔ ((a *ℤ pos d) ≤ℤ (c *ℤ pos b))
≤ℚ_is x y a c b d p q =
    let m = minus_out a d in let i = difference_is x y a c b d p q in
    (λ h. let t = is_not_negative _ _ _ i h.le in omega (arith, ints, m), λ h. record { le = not_negative_is _ _ _ i (omega (arith, ints, m)) })

-- a / b < c / d exactly where a * d < c * b
pub <ℚ_is : (x y : Fraction) (a c : ℤ) (b d : ℕ) → IsQuotient x a b → IsQuotient y c d → (x <ℚ y) ↔ ((a *ℤ pos d) <ℤ (c *ℤ pos b))
<ℚ_is x y a c b d p q =
    let m = minus_out a d in let i = difference_is x y a c b d p q in
    (λ h. let t = is_positive _ _ _ i h.lt in omega (arith, ints, m), λ h. record { lt = positive_is _ _ _ i (omega (arith, ints, m)) })

-- x ≤ y exactly where x.num * y.den ≤ y.num * x.den
pub ≤ℚ-cross : (x y : Fraction) → (x ≤ℚ y) ↔ ((x.num *ℤ pos y.den) ≤ℤ (y.num *ℤ pos x.den))
≤ℚ-cross x y = ≤ℚ_is x y _ _ _ _ (itself x) (itself y)

-- x < y exactly where x.num * y.den < y.num * x.den
pub <ℚ-cross : (x y : Fraction) → (x <ℚ y) ↔ ((x.num *ℤ pos y.den) <ℤ (y.num *ℤ pos x.den))
<ℚ-cross x y = <ℚ_is x y _ _ _ _ (itself x) (itself y)

-- ---- a total order, with its strict part
-- x ≤ x
pub ≤ℚ_refl : (x : Fraction) → x ≤ℚ x
≤ℚ_refl x = bound_from fraction-order (v 0) (v 0) (x ∷ []) done refl

-- equal fractions are in order
pub ≤ℚ-same : (x y : Fraction) → x ≡ y → x ≤ℚ y
≤ℚ-same x y e = bound_from fraction-order (v 0) (v 1) (x ∷ y ∷ []) (eq (k (pos 1)) (v 0) (v 1) e done) refl

-- x ≤ y ≤ z gives x ≤ z
pub ≤ℚ_trans : (x y z : Fraction) → x ≤ℚ y → y ≤ℚ z → x ≤ℚ z
≤ℚ_trans x y z h j = bound_from fraction-order (v 0) (v 2) (x ∷ y ∷ z ∷ []) (le (k (pos 1)) (v 0) (v 1) tt h (le (k (pos 1)) (v 1) (v 2) tt j done)) refl

-- x < y < z gives x < z
pub <ℚ_trans : (x y z : Fraction) → x <ℚ y → y <ℚ z → x <ℚ z
<ℚ_trans x y z h j = strict_from fraction-order (v 0) (v 2) (x ∷ y ∷ z ∷ []) (lt (k (pos 1)) (v 0) (v 1) tt h (lt (k (pos 1)) (v 1) (v 2) tt j done)) tt refl

-- x ≤ y < z gives x < z
pub ≤ℚ-<ℚ_trans : (x y z : Fraction) → x ≤ℚ y → y <ℚ z → x <ℚ z
≤ℚ-<ℚ_trans x y z h j = strict_from fraction-order (v 0) (v 2) (x ∷ y ∷ z ∷ []) (le (k (pos 1)) (v 0) (v 1) tt h (lt (k (pos 1)) (v 1) (v 2) tt j done)) tt refl

-- x < y ≤ z gives x < z
pub <ℚ-≤ℚ_trans : (x y z : Fraction) → x <ℚ y → y ≤ℚ z → x <ℚ z
<ℚ-≤ℚ_trans x y z h j = strict_from fraction-order (v 0) (v 2) (x ∷ y ∷ z ∷ []) (lt (k (pos 1)) (v 0) (v 1) tt h (le (k (pos 1)) (v 1) (v 2) tt j done)) tt refl

-- x < y gives x ≤ y
pub <ℚ-weaken : (x y : Fraction) → x <ℚ y → x ≤ℚ y
<ℚ-weaken x y h = bound_from fraction-order (v 0) (v 1) (x ∷ y ∷ []) (lt (k (pos 1)) (v 0) (v 1) tt h done) refl

-- nothing is below itself
pub <ℚ_irrefl : (x : Fraction) → ¬ (x <ℚ x)
<ℚ_irrefl x h = let c = (<ℚ-cross x x).0 h in omega (arith, ints)

-- x < y and y ≤ x can't both be
pub <ℚ-not-≥ : (x y : Fraction) → x <ℚ y → ¬ (y ≤ℚ x)
<ℚ-not-≥ x y h j = <ℚ_irrefl x (<ℚ-≤ℚ_trans x y x h j)

-- x ≤ y, or y < x
pub at_most_or_above : (x y : Fraction) → (x ≤ℚ y) ⊎ (y <ℚ x)
at_most_or_above x y = by_sign (y -ℚ x).num refl
  where
    by_sign : (n : ℤ) → (y -ℚ x).num ≡ n → (x ≤ℚ y) ⊎ (y <ℚ x)
    by_sign (pos n) e = inl (record { le = subst (λ (z : ℤ). T (non_neg z)) (sym e) tt })
    by_sign (negsuc n) e =
        let p : IsPositive (neg_ℚ (y -ℚ x)) = positive_is _ _ _ (neg_is _ _ _ (itself (y -ℚ x))) (subst (λ (z : ℤ). T (lt_z (pos 0) (neg_ℤ z))) (sym e) (lt→ltb 0 (suc n) (zero-lt-suc n))) in
        inr (record { lt = subst (λ w. IsPositive w) (solve fraction-ring (inv (v 1 ⊖ v 0)) (v 0 ⊖ v 1) (x ∷ y ∷ []) refl) p })

-- x ≤ y, or y ≤ x
pub ≤ℚ_total : (x y : Fraction) → (x ≤ℚ y) ⊎ (y ≤ℚ x)
≤ℚ_total x y = by_case (at_most_or_above x y)
  where
    by_case : (x ≤ℚ y) ⊎ (y <ℚ x) → (x ≤ℚ y) ⊎ (y ≤ℚ x)
    by_case (inl h) = inl h
    by_case (inr h) = inr (<ℚ-weaken y x h)

-- what isn't at most y is above y
pub >-from_not : (x y : Fraction) → ¬ (x ≤ℚ y) → y <ℚ x
>-from_not x y n = by_case (at_most_or_above x y)
  where
    by_case : (x ≤ℚ y) ⊎ (y <ℚ x) → y <ℚ x
    by_case (inl h) = absurd (n h)
    by_case (inr h) = h

-- what isn't below y is at least y
pub ≥-from_not : (x y : Fraction) → ¬ (x <ℚ y) → y ≤ℚ x
≥-from_not x y n = by_case (at_most_or_above y x)
  where
    by_case : (y ≤ℚ x) ⊎ (x <ℚ y) → y ≤ℚ x
    by_case (inl h) = h
    by_case (inr h) = absurd (n h)

-- x < y exactly where not y ≤ x
pub <ℚ-iff_not : (x y : Fraction) → (x <ℚ y) ↔ (¬ (y ≤ℚ x))
<ℚ-iff_not x y = (<ℚ-not-≥ x y, >-from_not y x)

-- x ≤ y exactly where not y < x
pub ≤ℚ-iff_not : (x y : Fraction) → (x ≤ℚ y) ↔ (¬ (y <ℚ x))
≤ℚ-iff_not x y = (λ h j. <ℚ-not-≥ y x j h, ≥-from_not y x)

-- x ≤ y ≤ x gives x ≡ y
pub ≤ℚ_antisym : (x y : Fraction) → x ≤ℚ y → y ≤ℚ x → x ≡ y
≤ℚ_antisym x y h j =
    let w = y -ℚ x in
    let n = is_not_negative _ _ _ (neg_is _ _ _ (itself w)) (subst (λ u. IsNotNegative u) (solve fraction-ring (v 0 ⊖ v 1) (inv (v 1 ⊖ v 0)) (x ∷ y ∷ []) refl) j.le) in
    let e : w ≡ whole (pos 0) = zero_num w (omega (arith, ints, not_negative_out _ h.le, not_negative_out _ n)) in
    solve_from fraction-ring (v 0) (v 1) (x ∷ y ∷ []) (eq (k (negsuc 0)) (v 1 ⊖ v 0) (k (pos 0)) e done) refl

-- x ≤ y and not equal gives x < y
pub <ℚ-from_apart : (x y : Fraction) → x ≤ℚ y → x ≢ y → x <ℚ y
<ℚ-from_apart x y h n = >-from_not y x (λ j. n (≤ℚ_antisym x y h j))

-- x is below y, is y or is above y
pub below_same_or_above : (x y : Fraction) → (x <ℚ y) ⊎ ((x ≡ y) ⊎ (y <ℚ x))
below_same_or_above x y = by_case (at_most_or_above x y) (at_most_or_above y x)
  where
    by_case : (x ≤ℚ y) ⊎ (y <ℚ x) → (y ≤ℚ x) ⊎ (x <ℚ y) → (x <ℚ y) ⊎ ((x ≡ y) ⊎ (y <ℚ x))
    by_case (inl h) (inl j) = inr (inl (≤ℚ_antisym x y h j))
    by_case (inl h) (inr j) = inl j
    by_case (inr h) j = inr (inr h)

-- what is below is something else
pub <ℚ-apart : (x y : Fraction) → x <ℚ y → x ≢ y
<ℚ-apart x y h e = <ℚ-not-≥ x y h (≤ℚ-same y x (sym e))

-- two proofs of an order are one, so a ghost field may hold it
pub ≤ℚ_prop : (x y : Fraction) → IsProp (x ≤ℚ y)
≤ℚ_prop x y = hlevel T_prop

pub <ℚ_prop : (x y : Fraction) → IsProp (x <ℚ y)
<ℚ_prop x y = hlevel T_prop

-- ---- compared with 0
-- x isn't negative exactly where 0 ≤ x
pub not_negative-iff : (x : Fraction) → IsNotNegative x ↔ (whole (pos 0) ≤ℚ x)
not_negative-iff x = let e = solve fraction-ring (v 0 ⊖ k (pos 0)) (v 0) (x ∷ []) refl in
    (λ h. record { le = subst (λ u. IsNotNegative u) (sym e) h }, λ h. subst (λ u. IsNotNegative u) e h.le)

-- x is positive exactly where 0 < x
pub positive-iff : (x : Fraction) → IsPositive x ↔ (whole (pos 0) <ℚ x)
positive-iff x = let e = solve fraction-ring (v 0 ⊖ k (pos 0)) (v 0) (x ∷ []) refl in
    (λ h. record { lt = subst (λ u. IsPositive u) (sym e) h }, λ h. subst (λ u. IsPositive u) e h.lt)

-- ---- with the operations
-- a ≤ b and c ≤ d give a + c ≤ b + d
pub ≤ℚ-add : (a b c d : Fraction) → a ≤ℚ b → c ≤ℚ d → (a +ℚ c) ≤ℚ (b +ℚ d)
≤ℚ-add a b c d h j = bound_from fraction-order (v 0 ⊕ v 2) (v 1 ⊕ v 3) (a ∷ b ∷ c ∷ d ∷ []) (le (k (pos 1)) (v 0) (v 1) tt h (le (k (pos 1)) (v 2) (v 3) tt j done)) refl

-- a < b and c ≤ d give a + c < b + d
pub <ℚ-add : (a b c d : Fraction) → a <ℚ b → c ≤ℚ d → (a +ℚ c) <ℚ (b +ℚ d)
<ℚ-add a b c d h j = strict_from fraction-order (v 0 ⊕ v 2) (v 1 ⊕ v 3) (a ∷ b ∷ c ∷ d ∷ []) (lt (k (pos 1)) (v 0) (v 1) tt h (le (k (pos 1)) (v 2) (v 3) tt j done)) tt refl

-- x ≤ y gives c * x ≤ c * y, where c isn't negative
pub ≤ℚ-mul : (c x y : Fraction) → IsNotNegative c → x ≤ℚ y → (c *ℚ x) ≤ℚ (c *ℚ y)
≤ℚ-mul c x y n h = bound_from fraction-order (v 0 ⊗ v 1) (v 0 ⊗ v 2) (c ∷ x ∷ y ∷ []) (le (v 0) (v 1) (v 2) n h done) refl

-- x < y gives c * x < c * y, where c is positive
pub <ℚ-mul : (c x y : Fraction) → IsPositive c → x <ℚ y → (c *ℚ x) <ℚ (c *ℚ y)
<ℚ-mul c x y n h = strict_from fraction-order (v 0 ⊗ v 1) (v 0 ⊗ v 2) (c ∷ x ∷ y ∷ []) (lt (v 0) (v 1) (v 2) n h done) tt refl

-- c * x ≤ c * y gives x ≤ y, where c is positive
pub ≤ℚ_cancel : (c x y : Fraction) → IsPositive c → (c *ℚ x) ≤ℚ (c *ℚ y) → x ≤ℚ y
≤ℚ_cancel c x y n h = ≥-from_not y x (λ j. <ℚ-not-≥ _ _ (<ℚ-mul c y x n j) h)

-- c * x < c * y gives x < y, where c is positive
pub <ℚ_cancel : (c x y : Fraction) → IsPositive c → (c *ℚ x) <ℚ (c *ℚ y) → x <ℚ y
<ℚ_cancel c x y n h = >-from_not y x (λ j. <ℚ-not-≥ _ _ h (≤ℚ-mul c y x (weaken_positive c n) j))

-- x ≤ y gives -y ≤ -x: the negative turns the order around
pub ≤ℚ-neg : (x y : Fraction) → x ≤ℚ y → neg_ℚ y ≤ℚ neg_ℚ x
≤ℚ-neg x y h = bound_from fraction-order (inv (v 1)) (inv (v 0)) (x ∷ y ∷ []) (le (k (pos 1)) (v 0) (v 1) tt h done) refl

-- x < y gives -y < -x
pub <ℚ-neg : (x y : Fraction) → x <ℚ y → neg_ℚ y <ℚ neg_ℚ x
<ℚ-neg x y h = strict_from fraction-order (inv (v 1)) (inv (v 0)) (x ∷ y ∷ []) (lt (k (pos 1)) (v 0) (v 1) tt h done) tt refl

-- x ≤ y gives c * y ≤ c * x, where c isn't above 0
pub ≤ℚ-mul_negative : (c x y : Fraction) → IsNotNegative (neg_ℚ c) → x ≤ℚ y → (c *ℚ y) ≤ℚ (c *ℚ x)
≤ℚ-mul_negative c x y n h = bound_from fraction-order (v 0 ⊗ v 2) (v 0 ⊗ v 1) (c ∷ x ∷ y ∷ []) (le (inv (v 0)) (v 1) (v 2) n h done) refl

-- x < y gives c * y < c * x, where c is below 0
pub <ℚ-mul_negative : (c x y : Fraction) → IsPositive (neg_ℚ c) → x <ℚ y → (c *ℚ y) <ℚ (c *ℚ x)
<ℚ-mul_negative c x y n h = strict_from fraction-order (v 0 ⊗ v 2) (v 0 ⊗ v 1) (c ∷ x ∷ y ∷ []) (lt (inv (v 0)) (v 1) (v 2) n h done) tt refl

-- what is positive isn't 0
pub positive_apart : (x : Fraction) → IsPositive x → x ≢ whole (pos 0)
positive_apart x h e = <ℚ-apart _ _ ((positive-iff x).0 h) (sym e)

-- the inverse of a positive fraction is positive
pub inv_positive : (x : Fraction) → IsPositive x → IsPositive (inv_ℚ x)
inv_positive x h = (positive-iff (inv_ℚ x)).1 (
    <ℚ_cancel x (whole (pos 0)) (inv_ℚ x) h (strict_from fraction-order (v 0 ⊗ k (pos 0)) (v 0 ⊗ v 1) (x ∷ inv_ℚ x ∷ [])
    (lt (k (pos 1)) (k (pos 0)) (k (pos 1)) tt ((positive-iff (whole (pos 1))).0 tt) (eq (k (negsuc 0)) (v 0 ⊗ v 1) (k (pos 1)) (mul-inv x (positive_apart x h)) done)) tt refl))

-- ---- on whole numbers the order is that of ℤ
-- whole m ≤ whole n exactly where m ≤ n
pub ≤ℚ-whole : (m n : ℤ) → (whole m ≤ℚ whole n) ↔ (m ≤ℤ n)
≤ℚ-whole m n = let c = ≤ℚ-cross (whole m) (whole n) in (λ h. let t = c.0 h in omega (arith, ints), λ h. c.1 (omega (arith, ints)))

-- whole m < whole n exactly where m < n
pub <ℚ-whole : (m n : ℤ) → (whole m <ℚ whole n) ↔ (m <ℤ n)
<ℚ-whole m n = let c = <ℚ-cross (whole m) (whole n) in (λ h. let t = c.0 h in omega (arith, ints), λ h. c.1 (omega (arith, ints)))

-- for contracts that cite the order of cross products
pub ruleset order_laws = (≤ℚ-cross, <ℚ-cross, <ℚ-iff_not)
