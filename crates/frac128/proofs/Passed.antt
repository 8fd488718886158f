-- A signed number that code passes on shows as its bits read back: for a number within the bound that is the number.
use Rattle.std.proofs.Common.{◌≡◌, ◌<◌, ◌/◌, ℕ, zero, suc, refl, sym, ap, ap₂, subst, ◌∙◌, arith}
use Rattle.std.proofs.lemmas.Int.{ints, to_z-of_z, fits_signed_from_abs}
use mir.Syntax.{w128}
use mir.Val.{to_z, of_z}
use lib.IntN.{ℤ, pos, negsuc, neg_ℤ, nat_abs, ◌-ℤ◌}
use lib.Signed.{quot_z}
use Rattle.algebra.specs.Gcd.{gcd}
use Rattle.rational.specs.Fraction.{quotient}
use Rattle.rational.proofs.MulLaws.{IsLowest, IsLowest-at, ratio_lowest}
use Rattle.frac128.specs.Bounds.{IsWithin}

abbrev pub passed : ℤ → ℤ
passed z = to_z w128 (of_z w128 z)

-- a result z that equals x
pub read : {z x : ℤ} → IsWithin z → z ≡ x → passed z ≡ x
read {z} h e = to_z-of_z w128 z (fits_signed_from_abs w128 z h) ∙ e

-- a result r that equals z, where z is within the bound and equals x
pub kept : {z r x : ℤ} → IsWithin z × (r ≡ z) → z ≡ x → passed r ≡ x
kept {z} h e = ap passed h.1 ∙ read h.0 e

pub read_within : {z r : ℤ} → IsWithin z × (r ≡ z) → IsWithin (passed r)
read_within {z} h = subst IsWithin (sym (kept h refl)) h.0

-- a numerator and a denominator divided by what they share
pub reduced_num : {A D n a : ℤ} {d : ℕ} → IsWithin n → n ≡ quot_z A (pos (gcd (nat_abs A) (nat_abs D))) → A ≡ a → D ≡ pos d → passed n ≡ quot_z a (pos (gcd (nat_abs a) d))
reduced_num h e p q = read h (e ∙ ap₂ (λ (z w : ℤ). quot_z z (pos (gcd (nat_abs z) (nat_abs w)))) p q)

pub reduced_den : {A D n a : ℤ} {d : ℕ} → IsWithin n → n ≡ pos (nat_abs D / gcd (nat_abs A) (nat_abs D)) → A ≡ a → D ≡ pos d → passed n ≡ pos (d / gcd (nat_abs a) d)
reduced_den h e p q = read h (e ∙ ap₂ (λ (z w : ℤ). pos (nat_abs w / gcd (nat_abs z) (nat_abs w))) p q)

-- the two make a fraction in lowest terms
pub reduced_lowest : {A D n e a : ℤ} {d : ℕ} → IsWithin n × IsWithin e → n ≡ quot_z A (pos (gcd (nat_abs A) (nat_abs D))) → e ≡ pos (nat_abs D / gcd (nat_abs A) (nat_abs D))
    → A ≡ a → D ≡ pos d → 0 < d → IsLowest (passed n) (passed e) (quotient a d)
reduced_lowest {a = a} {d = d} h i j p q k = IsLowest-at (reduced_num h.0 i p q) (reduced_den h.1 j p q) (ratio_lowest a d k)

pub within_at : {r x : ℤ} → r ≡ x → IsWithin r → IsWithin x
within_at e h = subst IsWithin e h

-- a negative, which code takes as a difference from 0
minus_is : (z : ℤ) → pos 0 -ℤ z ≡ neg_ℤ z
minus_is z = omega (arith, ints)

nat_abs-minus : (z : ℤ) → nat_abs (pos 0 -ℤ z) ≡ nat_abs z
nat_abs-minus (pos zero) = refl
nat_abs-minus (pos (suc n)) = ap (λ (z : ℤ). nat_abs z) (minus_is (pos (suc n)))
nat_abs-minus (negsuc n) = ap (λ (z : ℤ). nat_abs z) (minus_is (negsuc n))

pub minus_passed : {r x : ℤ} → IsWithin r → r ≡ x → passed (pos 0 -ℤ passed r) ≡ neg_ℤ x
minus_passed {r} {x} h e =
    let w : IsWithin (pos 0 -ℤ x) = let n = nat_abs-minus x in let k = within_at e h in omega arith in
    ap (λ (z : ℤ). passed (pos 0 -ℤ z)) (read h e) ∙ read w (minus_is x)
