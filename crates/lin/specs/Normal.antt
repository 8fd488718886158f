-- Normal terms: variables rise strictly and no coefficient is 0, so that two expressions with the same coefficients have
-- the same terms. Like terms are collected by the rules of linear algebra.
use Rattle.std.specs.Prelude.{◌≡◌, ℕ, zero, suc, Bool, true, false, not, ◌&&◌, [], ◌∷◌, nat_eq, nat_lt, nat_le, if◌then◌else◌}
use lib.IntN.{ℤ, pos, negsuc}
use Rattle.rational.specs.Fraction.{Fraction, ◌+ℚ◌}
use Rattle.rational.specs.Linear.{Terms}

-- whether a whole number is 0
abbrev pub is_zero_ℤ : ℤ → Bool
is_zero_ℤ (pos zero) = true
is_zero_ℤ (pos (suc n)) = false
is_zero_ℤ (negsuc n) = false

-- whether a fraction is 0: its numerator is
abbrev pub is_zero : Fraction → Bool
is_zero x = is_zero_ℤ x.num

-- the variables rise strictly from `least` on, and no coefficient is 0
abbrev pub is_normal_from : ℕ → Terms → Bool
is_normal_from least [] = true
is_normal_from least (t ∷ ts) = nat_le least t.0 && (not (is_zero t.1) && is_normal_from (suc t.0) ts)

abbrev pub IsNormal : Terms → Type 0
IsNormal ts = is_normal_from 0 ts ≡ true

-- the term in front of the others, unless its coefficient is 0
abbrev pub put_first : ℕ × Fraction → Terms → Terms
put_first t ts = if is_zero t.1 then ts else (t ∷ ts)

-- one more term: put in its place, or added to the term of its variable
abbrev pub with_term : ℕ × Fraction → Terms → Terms
with_term t [] = put_first t []
with_term t (u ∷ us) =
    if nat_lt t.0 u.0 then put_first t (u ∷ us)
    else (if nat_eq t.0 u.0 then put_first (u.0, t.1 +ℚ u.1) us else (u ∷ with_term t us))

-- like terms collected: each variable once, with the sum of its coefficients
abbrev pub collected : Terms → Terms
collected [] = []
collected (t ∷ ts) = with_term t (collected ts)
