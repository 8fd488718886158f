-- The whole numbers next to a fraction are in range, and how a constant compares with 0.
use Rattle.std.proofs.Common.{◌≡◌, ◌<◌, ◌≤◌, ◌*◌, ◌^◌, ℕ, zero, suc, Bool, true, false, not, sym, ap, subst, ◌∙◌, arith}
use Rattle.std.specs.Prelude.{unsigned_abs}
use Rattle.std.proofs.lemmas.Int.{ints}
use lib.IntN.{ℤ, pos, negsuc, neg_ℤ, ◌+ℤ◌, ◌*ℤ◌}
use lib.Signed.{◌≤ℤ◌}
use Rattle.rational.specs.Fraction.{Fraction, whole, neg_ℚ, ◌-ℚ◌, ◌≤ℚ◌, ◌<ℚ◌}
use Rattle.rational.specs.Floor.{floor_of, ceil_of}
use Rattle.rational.proofs.FieldLaws.{whole-neg, whole-sub}
use Rattle.rational.proofs.OrderLaws.{≤ℚ-cross, <ℚ-weaken, ≤ℚ-same}
use Rattle.rational.proofs.FloorLaws.{floor_below, floor-iff}
use Rattle.frac128.specs.Bounds.{IsWithin, IsFrac}
use Rattle.frac128.specs.Order.{IsFloor}
use Rattle.encode_rows.specs.Bounds.{compares}
use Rattle.encode_laws.proofs.RowLaws.{true-at_most, true-below}
use Rattle.encode_laws.proofs.Readings.{not_at_most, not_below}

-- ---- the floor
pub floor_is_found : (x : Fraction) (z : ℤ) → IsFloor x z → z ≡ floor_of x
floor_is_found x z h =
    let a = (floor-iff x z).0 h.below in
    let b = h.greatest (floor_of x) (floor_below x) in
    omega (arith, ints)

more_times : (m d : ℕ) → 0 < d → m ≤ m * d
more_times zero d h = omega arith
more_times (suc m) d h = let ih = more_times m d h in omega arith

low-product : (b d : ℕ) (z : ℤ) → 0 < d → unsigned_abs z ≤ b → (neg_ℤ (pos b) *ℤ pos d) ≤ℤ (z *ℤ pos 1)
low-product zero d (pos n) h l = omega (arith, ints)
low-product zero d (negsuc n) h l = absurd (omega arith)
low-product (suc b) d (pos n) h l = below_zero (suc b * d) (n * 1)
  where
    below_zero : (m n : ℕ) → neg_ℤ (pos m) ≤ℤ pos n
    below_zero m n = omega (arith, ints)
low-product (suc b) d (negsuc n) h l = turned (suc n * 1) (suc b * d) (let m = more_times (suc b) d h in omega arith)
  where
    turned : (m n : ℕ) → m ≤ n → neg_ℤ (pos n) ≤ℤ neg_ℤ (pos m)
    turned m n l = omega (arith, ints)

-- the floor of what is in range isn't below the range
pub floor_in_range : (n : ℕ) (x : Fraction) (z : ℤ) → unsigned_abs x.num < n → IsFloor x z → z ≡ neg_ℤ (pos n) → ⊥
floor_in_range zero x z l h e = absurd (omega arith)
floor_in_range (suc b) x z l h e =
    let low : whole (neg_ℤ (pos b)) ≤ℚ x = (≤ℚ-cross (whole (neg_ℤ (pos b))) x).1 (low-product b x.den x.num x.positive (omega arith)) in
    let g = h.greatest (neg_ℤ (pos b)) low in
    below_itself b z e g
  where
    below_itself : (b : ℕ) (z : ℤ) → z ≡ neg_ℤ (pos (suc b)) → neg_ℤ (pos b) ≤ℤ z → ⊥
    below_itself b z e g = omega (arith, ints)

pub ceiling_is : (b k c : Fraction) → k ≡ whole (floor_of (neg_ℚ b)) → c ≡ neg_ℚ k → c ≡ whole (ceil_of b)
unfolding ceil_of
ceiling_is b k c e f = f ∙ ap neg_ℚ e ∙ sym (whole-neg (floor_of (neg_ℚ b)))

-- ---- a constant
pub less_compares : (strict : Bool) (k z : Fraction) → z ≡ whole (pos 0) → k <ℚ z → true ≡ compares strict k
less_compares true k z e h = sym (true-below k (whole (pos 0)) (subst (λ w. k <ℚ w) e h))
less_compares false k z e h = sym (true-at_most k (whole (pos 0)) (<ℚ-weaken k (whole (pos 0)) (subst (λ w. k <ℚ w) e h)))

pub equal_compares : (strict : Bool) (k z : Fraction) → z ≡ whole (pos 0) → k ≡ z → not strict ≡ compares strict k
equal_compares true k z e h = sym (not_below k (whole (pos 0)) (≤ℚ-same (whole (pos 0)) k (sym (h ∙ e))))
equal_compares false k z e h = sym (true-at_most k (whole (pos 0)) (≤ℚ-same k (whole (pos 0)) (h ∙ e)))

pub greater_compares : (strict : Bool) (k z : Fraction) → z ≡ whole (pos 0) → z <ℚ k → false ≡ compares strict k
greater_compares true k z e h = sym (not_below k (whole (pos 0)) (<ℚ-weaken (whole (pos 0)) k (subst (λ w. w <ℚ k) e h)))
greater_compares false k z e h = sym (not_at_most k (whole (pos 0)) (subst (λ w. w <ℚ k) e h))

pub one_less : (b c k : Fraction) → c ≡ whole (ceil_of b) → k ≡ c -ℚ whole (pos 1) → k ≡ whole (ceil_of b +ℤ negsuc 0)
one_less b c k e f = f ∙ ap (λ w. w -ℚ whole (pos 1)) e ∙ sym (whole-sub (ceil_of b) (pos 1))

pub in_range : (x y : Fraction) → x ≡ y → IsWithin x.num → x.den < 2 ^ 127 → IsFrac y
in_range x y e h g = subst IsFrac e (record { num = h; den = g })
