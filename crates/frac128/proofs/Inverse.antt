-- The numbers of an inverse.
use Rattle.std.proofs.Common.{◌≡◌, ℕ, suc, refl, ap, ap₂, ◌∙◌, arith}
use Rattle.std.proofs.lemmas.Int.{ints}
use lib.IntN.{ℤ, pos, negsuc, neg_ℤ, nat_abs}
use lib.Signed.{◌<ℤ◌, ◌≤ℤ◌}
use Rattle.algebra.specs.Gcd.{gcd}
use Rattle.algebra.proofs.GcdLaws.{gcd_comm}
use Rattle.algebra.proofs.Reduce.{nat_abs-neg}
use Rattle.rational.specs.Fraction.{Fraction, quotient, inverse_of, inv_ℚ}

-- n / d is the inverse, in lowest terms
pub record IsInverse (x : Fraction) (n d : ℤ) : Type 0 where
  pub coprime : gcd (nat_abs n) (nat_abs d) ≡ 1
  pub value : quotient n (nat_abs d) ≡ inv_ℚ x

negative : (z : ℤ) (b : ℕ) → gcd (nat_abs z) b ≡ 1 → z <ℤ pos 0 → (gcd (nat_abs (neg_ℤ (pos b))) (nat_abs (neg_ℤ z)) ≡ 1) × (quotient (neg_ℤ (pos b)) (nat_abs (neg_ℤ z)) ≡ inverse_of z b)
negative (pos n) b e h = absurd (omega (arith, ints))
negative (negsuc n) b e h = (ap (λ (m : ℕ). gcd m (suc n)) (nat_abs-neg b) ∙ gcd_comm b (suc n) ∙ e, refl)

positive : (z : ℤ) (b : ℕ) → gcd (nat_abs z) b ≡ 1 → pos 0 ≤ℤ z → (gcd b (nat_abs z) ≡ 1) × (quotient (pos b) (nat_abs z) ≡ inverse_of z b)
positive (pos n) b e h = (gcd_comm b n ∙ e, refl)
positive (negsuc n) b e h = absurd (omega (arith, ints))

pub inverse_negative : (x : Fraction) {n d : ℤ} → x.num <ℤ pos 0 → n ≡ neg_ℤ (pos x.den) → d ≡ neg_ℤ x.num → IsInverse x n d
unfolding inv_ℚ
inverse_negative x h e f =
    let p = negative x.num x.den x.coprime h in
    record { coprime = ap₂ (λ (n d : ℤ). gcd (nat_abs n) (nat_abs d)) e f ∙ p.0; value = ap₂ (λ (n d : ℤ). quotient n (nat_abs d)) e f ∙ p.1 }

pub inverse_positive : (x : Fraction) {n d : ℤ} → pos 0 ≤ℤ x.num → n ≡ pos x.den → d ≡ x.num → IsInverse x n d
unfolding inv_ℚ
inverse_positive x h e f =
    let p = positive x.num x.den x.coprime h in
    record { coprime = ap₂ (λ (n d : ℤ). gcd (nat_abs n) (nat_abs d)) e f ∙ p.0; value = ap₂ (λ (n d : ℤ). quotient n (nat_abs d)) e f ∙ p.1 }
