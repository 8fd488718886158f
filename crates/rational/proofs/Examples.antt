-- The definitions on small numbers: they compute, and give what arithmetic gives. Then the three forms of one line.
use Rattle.std.proofs.Common.{◌≡◌, Bool, true, false, cond, nat_eq, List, [], ◌∷◌, inl, inr, refl, arith}
use lib.IntN.{pos, negsuc}
use Rattle.algebra.specs.Gcd.{gcd, gcd_in}
use Rattle.algebra.proofs.Solve.{v, k, ◌⊕◌, ◌⊖◌, ◌⊗◌, solve, solve_from, eq, bound_from, strict_from, le, lt, done}
use Rattle.rational.specs.Fraction.{Fraction, whole, quotient, ◌+ℚ◌, ◌*ℚ◌, neg_ℚ, ◌-ℚ◌, inv_ℚ, ◌/ℚ◌, ◌≤ℚ◌, ◌<ℚ◌, IsNotNegative}
use Rattle.rational.specs.Floor.{floor_of, ceil_of, IsWhole}
use Rattle.rational.specs.Sums.{sum_of, combination}
use Rattle.rational.specs.Linear.{coefficient_of}
use Rattle.rational.specs.Farkas.{Row, IsRefutation}
use Rattle.std.proofs.lemmas.List.Elements.{All-from_recursion}
use Rattle.rational.proofs.FieldLaws.{fraction-ring, same_parts}
use Rattle.rational.proofs.Signs.{fraction-order}
use Rattle.rational.proofs.OrderLaws.{<ℚ_irrefl}

abbrev half : Fraction
half = quotient (pos 1) 2

abbrev minus_half : Fraction
minus_half = quotient (negsuc 0) 2

abbrev minus_third : Fraction
minus_third = quotient (negsuc 0) 3

-- 6/(-4) would be -3/2: -6/4 is, in lowest terms
lowest : ((quotient (negsuc 5) 4).num ≡ negsuc 2) × ((quotient (negsuc 5) 4).den ≡ 2)
unfolding quotient gcd gcd_in
lowest = (refl, refl)

-- 1/6 + 1/10 is 4/15
sum : quotient (pos 1) 6 +ℚ quotient (pos 1) 10 ≡ quotient (pos 4) 15
unfolding quotient gcd gcd_in ◌+ℚ◌
sum = same_parts _ _ refl refl

-- 1/2 - 1/2 is 0
nothing : half -ℚ half ≡ whole (pos 0)
unfolding quotient gcd gcd_in ◌+ℚ◌ neg_ℚ
nothing = same_parts _ _ refl refl

-- 2/3 times 9/4 is 3/2
product : quotient (pos 2) 3 *ℚ quotient (pos 9) 4 ≡ quotient (pos 3) 2
unfolding quotient gcd gcd_in ◌*ℚ◌
product = same_parts _ _ refl refl

-- 1 divided by -2/3 is -3/2
division : whole (pos 1) /ℚ quotient (negsuc 1) 3 ≡ quotient (negsuc 2) 2
unfolding quotient gcd gcd_in ◌*ℚ◌ inv_ℚ
division = same_parts _ _ refl refl

-- -1/2 is below -1/3
below : minus_half <ℚ minus_third
unfolding quotient gcd gcd_in ◌+ℚ◌ neg_ℚ
below = record { lt = tt }

-- and -1/3 isn't at most -1/2
not_at_most : ¬ (minus_third ≤ℚ minus_half)
unfolding quotient gcd gcd_in ◌+ℚ◌ neg_ℚ
not_at_most h = h.le

-- nor is 1/2 below 1/2
not_below : ¬ (half <ℚ half)
unfolding quotient gcd gcd_in ◌+ℚ◌ neg_ℚ
not_below h = h.lt

-- -1/2 lies between -1 and 0, and -2 is whole
rounded : (floor_of minus_half ≡ negsuc 0) × (ceil_of minus_half ≡ pos 0) × (floor_of (whole (negsuc 1)) ≡ negsuc 1) × (ceil_of (whole (negsuc 1)) ≡ negsuc 1)
unfolding quotient gcd gcd_in floor_of ceil_of neg_ℚ
rounded = (refl, refl, refl, refl)

-- 4/2 is whole, and 1/2 isn't
whole_or_not : IsWhole (quotient (pos 4) 2) × (¬ (IsWhole half))
unfolding quotient gcd gcd_in
whole_or_not = (refl, λ h. cc)

-- 1/2 + 1/2 is 1
summed : sum_of (half ∷ half ∷ []) ≡ whole (pos 1)
unfolding quotient gcd gcd_in ◌+ℚ◌
summed = same_parts _ _ refl refl

-- 2 * 1/2 + 3 * -1/3 is 0
weighted : combination ((whole (pos 2), half) ∷ (whole (pos 3), minus_third) ∷ []) ≡ whole (pos 0)
unfolding quotient gcd gcd_in ◌+ℚ◌ ◌*ℚ◌
weighted = same_parts _ _ refl refl

-- 2 * x + 3 * y - x has the coefficient 1 for x
joined : coefficient_of 0 ((0, whole (pos 2)) ∷ (1, whole (pos 3)) ∷ (0, whole (negsuc 0)) ∷ []) ≡ whole (pos 1)
unfolding quotient gcd gcd_in ◌+ℚ◌
joined = same_parts _ _ refl refl

-- x ≤ 1 and -x ≤ -2, once each
abbrev clash : List Row
clash =
    record { terms = (0, whole (pos 1)) ∷ []; bound = whole (pos 1); strict = false; factor = whole (pos 1) }
    ∷ record { terms = (0, whole (negsuc 0)) ∷ []; bound = whole (negsuc 1); strict = false; factor = whole (pos 1) } ∷ []

-- variable 0 has the coefficient c, the others have none
abbrev if_first : Bool → Fraction → Fraction
if_first b c = cond b c (whole (pos 0)) +ℚ whole (pos 0)

-- so each variable is cancelled
cancelled : (b : Bool) → combination ((whole (pos 1), if_first b (whole (pos 1))) ∷ (whole (pos 1), if_first b (whole (negsuc 0))) ∷ []) ≡ whole (pos 0)
unfolding quotient gcd gcd_in ◌+ℚ◌ ◌*ℚ◌
cancelled true = same_parts _ _ refl refl
cancelled false = same_parts _ _ refl refl

-- they add up to 0 ≤ -1
refuted : IsRefutation clash
unfolding quotient gcd gcd_in ◌+ℚ◌ ◌*ℚ◌ neg_ℚ
refuted = record {
  not_negative = All-from_recursion (λ (r : Row). IsNotNegative r.factor) clash (tt, (tt, tt));
  cancels = λ n. cancelled (nat_eq 0 n);
  bound_fails = inl (record { lt = tt });
}

-- x < 1 and -x ≤ -1, once each
abbrev below_one : Row
below_one = record { terms = (0, whole (pos 1)) ∷ []; bound = whole (pos 1); strict = true; factor = whole (pos 1) }

abbrev strict_clash : List Row
strict_clash = below_one ∷ record { terms = (0, whole (negsuc 0)) ∷ []; bound = whole (negsuc 0); strict = false; factor = whole (pos 1) } ∷ []

-- they add up to 0 < 0
strictly_refuted : IsRefutation strict_clash
unfolding quotient gcd gcd_in ◌+ℚ◌ ◌*ℚ◌ neg_ℚ
strictly_refuted = record {
  not_negative = All-from_recursion (λ (r : Row). IsNotNegative r.factor) strict_clash (tt, (tt, tt));
  cancels = λ n. cancelled (nat_eq 0 n);
  bound_fails = inr (same_parts _ _ refl refl, (0, below_one, omega arith, refl, (refl, tt)));
}

-- ---- the three forms of one line
-- an identity: (x + y) * (x - y) is x * x - y * y
identity : (x y : Fraction) → (x +ℚ y) *ℚ (x -ℚ y) ≡ x *ℚ x -ℚ y *ℚ y
identity x y = solve fraction-ring ((v 0 ⊕ v 1) ⊗ (v 0 ⊖ v 1)) (v 0 ⊗ v 0 ⊖ v 1 ⊗ v 1) (x ∷ y ∷ []) refl

-- an equation from two: with x = 2 * y and y = z + 1, x is 2 * z + 2. It is the first and twice the second
equation : (x y z : Fraction) → x ≡ whole (pos 2) *ℚ y → y ≡ z +ℚ whole (pos 1) → x ≡ whole (pos 2) *ℚ z +ℚ whole (pos 2)
equation x y z h j =
    solve_from fraction-ring (v 0) (k (pos 2) ⊗ v 2 ⊕ k (pos 2)) (x ∷ y ∷ z ∷ [])
    (eq (k (pos 1)) (v 0) (k (pos 2) ⊗ v 1) h (eq (k (pos 2)) (v 1) (v 2 ⊕ k (pos 1)) j done)) refl

-- an inequality from two: with x ≤ y and c not negative, c * x + z ≤ c * y + 3 where z ≤ 3. It is c times the first, and the second
inequality : (c x y z : Fraction) → IsNotNegative c → x ≤ℚ y → z ≤ℚ whole (pos 3) → (c *ℚ x +ℚ z) ≤ℚ (c *ℚ y +ℚ whole (pos 3))
inequality c x y z n h j =
    bound_from fraction-order (v 0 ⊗ v 1 ⊕ v 3) (v 0 ⊗ v 2 ⊕ k (pos 3)) (c ∷ x ∷ y ∷ z ∷ [])
    (le (v 0) (v 1) (v 2) n h (le (k (pos 1)) (v 3) (k (pos 3)) tt j done)) refl

-- a strict one: x < y and y ≤ z + 1 give 2 * x < 2 * z + 2. It is twice each
strict : (x y z : Fraction) → x <ℚ y → y ≤ℚ (z +ℚ whole (pos 1)) → (whole (pos 2) *ℚ x) <ℚ (whole (pos 2) *ℚ z +ℚ whole (pos 2))
strict x y z h j =
    strict_from fraction-order (k (pos 2) ⊗ v 0) (k (pos 2) ⊗ v 2 ⊕ k (pos 2)) (x ∷ y ∷ z ∷ [])
    (lt (k (pos 2)) (v 0) (v 1) tt h (le (k (pos 2)) (v 1) (v 2 ⊕ k (pos 1)) tt j done)) tt refl

-- an equation may stand among the inequalities, with any factor: x ≤ y and y = z - 1 give x + 1 ≤ z
with_equation : (x y z : Fraction) → x ≤ℚ y → y ≡ z -ℚ whole (pos 1) → (x +ℚ whole (pos 1)) ≤ℚ z
with_equation x y z h e =
    bound_from fraction-order (v 0 ⊕ k (pos 1)) (v 2) (x ∷ y ∷ z ∷ [])
    (le (k (pos 1)) (v 0) (v 1) tt h (eq (k (pos 1)) (v 1) (v 2 ⊖ k (pos 1)) e done)) refl

-- a contradiction is 0 < 0: x < y and y ≤ x can't both be
contradiction : (x y : Fraction) → x <ℚ y → ¬ (y ≤ℚ x)
contradiction x y h j = <ℚ_irrefl (whole (pos 0)) (strict_from fraction-order (k (pos 0)) (k (pos 0)) (x ∷ y ∷ [])
    (lt (k (pos 1)) (v 0) (v 1) tt h (le (k (pos 1)) (v 1) (v 0) tt j done)) tt refl)
