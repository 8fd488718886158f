-- The order of fractions is that of their cross products, and the Euclidean quotient is the floor.
use Rattle.std.proofs.Common.{◌≡◌, ℕ, suc, ◌+◌, ◌*◌, ◌/◌, ◌<◌, ◌≤◌, [], ◌∷◌, Bool, true, false, cond, refl, sym, ap, ap₂, arith}
use Rattle.std.proofs.lemmas.Int.{ints, by_lt_z}
use borrow.Author.Differences.{up, down, neg_is, product_is}
use native.Mathlib.Nat.{mul-le-mul_right}
use Rattle.std.proofs.Math.Nat.{mul-lt-mul_of_pos_right}
use lib.IntN.{ℤ, pos, negsuc, ◌+ℤ◌, ◌*ℤ◌}
use lib.Signed.{◌<ℤ◌, ◌≤ℤ◌, lt_z}
use Rattle.std.specs.Int.{int_div_euclid}
use Rattle.std.specs.Ordering.{int_cmp}
use Rattle.std.specs.declared.cmp.Ordering.TheVariants.{Less, Equal, Greater}
use Rattle.algebra.proofs.Solve.{v, k, ◌⊗◌, solve}
use Rattle.algebra.proofs.IntRing.{int-ring}
use Rattle.rational.specs.Fraction.{Fraction, whole, ◌<ℚ◌}
use Rattle.rational.proofs.FieldLaws.{same_cross}
use Rattle.rational.proofs.OrderLaws.{≤ℚ-cross, <ℚ-cross}
use Rattle.frac128.specs.Order.{Compares, IsFloor}

abbrev left : Fraction → Fraction → ℤ
left x y = x.num *ℤ pos y.den

less : (x y : Fraction) → left x y <ℤ left y x → x <ℚ y
less x y h = (<ℚ-cross x y).1 h

by_tests : (x y : Fraction) (s t : Bool) → lt_z (left x y) (left y x) ≡ s → lt_z (left y x) (left x y) ≡ t → Compares x y (cond s Less (cond t Greater Equal))
by_tests x y true t e f = less x y (grind (arith, ints))
by_tests x y false true e f = less y x (grind (arith, ints))
by_tests x y false false e f = same_cross x y (grind (arith, ints))

pub Compares-int_cmp : (x y : Fraction) → Compares x y (int_cmp (x.num *ℤ pos y.den) (y.num *ℤ pos x.den))
Compares-int_cmp x y = by_tests x y _ _ refl refl

-- ---- a factor above 0 keeps the order
lt_times : (a c : ℤ) (n : ℕ) → 0 < n → a <ℤ c → (a *ℤ pos n) <ℤ (c *ℤ pos n)
lt_times a c n p h =
    let f : up a + down c < up c + down a = omega (arith, ints) in
    omega (arith, ints, product_is a (pos n), product_is c (pos n), mul-lt-mul_of_pos_right f p)

le_times : (a c : ℤ) (n : ℕ) → a ≤ℤ c → (a *ℤ pos n) ≤ℤ (c *ℤ pos n)
le_times a c n h =
    let f : up a + down c ≤ up c + down a = omega (arith, ints) in
    omega (arith, ints, product_is a (pos n), product_is c (pos n), mul-le-mul_right n f)

cmp_less : (x y : ℤ) → x <ℤ y → int_cmp x y ≡ Less
cmp_less x y h = let e : lt_z x y ≡ true = grind (arith, ints) in ap (λ (b : Bool). cond b Less (cond (lt_z y x) Greater Equal)) e

cmp_greater : (x y : ℤ) → y <ℤ x → int_cmp x y ≡ Greater
cmp_greater x y h =
    let e : lt_z x y ≡ false = grind (arith, ints) in let f : lt_z y x ≡ true = grind (arith, ints) in
    ap₂ (λ (b c : Bool). cond b Less (cond c Greater Equal)) e f

cmp_equal : (x y : ℤ) → x ≡ y → int_cmp x y ≡ Equal
cmp_equal x y h =
    let e : lt_z x y ≡ false = grind (arith, ints) in let f : lt_z y x ≡ false = grind (arith, ints) in
    ap₂ (λ (b c : Bool). cond b Less (cond c Greater Equal)) e f

pub cmp_by : (a c : ℤ) (n : ℕ) → 0 < n → (s t : Bool) → lt_z a c ≡ s → lt_z c a ≡ t → int_cmp (a *ℤ pos n) (c *ℤ pos n) ≡ cond s Less (cond t Greater Equal)
cmp_by a c n p true t e f = cmp_less _ _ (lt_times a c n p (grind (arith, ints)))
cmp_by a c n p false true e f = cmp_greater _ _ (lt_times c a n p (grind (arith, ints)))
cmp_by a c n p false false e f = let g : a ≡ c = grind (arith, ints) in cmp_equal _ _ (ap (λ (z : ℤ). z *ℤ pos n) g)

pub int_cmp-times : (a c : ℤ) (n : ℕ) → 0 < n → int_cmp a c ≡ int_cmp (a *ℤ pos n) (c *ℤ pos n)
int_cmp-times a c n p = sym (cmp_by a c n p _ _ refl refl)

-- ---- the floor
floor_low : (a : ℤ) (b : ℕ) → 0 < b → (int_div_euclid a (pos b) *ℤ pos b) ≤ℤ a
floor_low (pos n) b h = omega (arith, ints)
floor_low (negsuc n) b h = omega (arith, ints, neg_is (pos (suc (n / b) * b)))

floor_high : (a : ℤ) (b : ℕ) → 0 < b → a <ℤ (int_div_euclid a (pos b) *ℤ pos b +ℤ pos b)
floor_high (pos n) b h = omega (arith, ints)
floor_high (negsuc n) b h = omega (arith, ints, neg_is (pos (suc (n / b) * b)))

-- n * b is below (e + 1) * b, so n is at most e
below : (n e : ℤ) (b : ℕ) → (n *ℤ pos b) <ℤ (e *ℤ pos b +ℤ pos b) → n ≤ℤ e
below n e b h = by_lt_z e n (λ g.
    let f : up e + down n + 1 ≤ up n + down e = omega (arith, ints) in
    absurd (omega (arith, ints, product_is n (pos b), product_is e (pos b), mul-le-mul_right b f))) (λ g. g)

times_one : (z : ℤ) → z *ℤ pos 1 ≡ z
times_one z = solve int-ring (v 0 ⊗ k (pos 1)) (v 0) (z ∷ []) refl

pub IsFloor-div_euclid : (x : Fraction) → IsFloor x (int_div_euclid x.num (pos x.den))
IsFloor-div_euclid x =
    let z = int_div_euclid x.num (pos x.den) in
    record {
      below = (≤ℚ-cross (whole z) x).1 (let l = floor_low x.num x.den x.positive in let o = times_one x.num in omega (arith, ints));
      greatest = λ n h. below n z x.den (
          let g = (≤ℚ-cross (whole n) x).0 h in let l = floor_high x.num x.den x.positive in let o = times_one x.num in omega (arith, ints));
    }
