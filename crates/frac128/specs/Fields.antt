-- The fields of a fraction, and what they stand for.
use Rattle.std.specs.Prelude.{◌≡◌, ◌<◌, ◌^◌, refl}
use Rattle.std.proofs.Common.{ap, ◌∙◌, arith}
use Rattle.std.proofs.lemmas.Int.{ints}
use lib.IntN.{ℤ, pos, negsuc, nat_abs}
use lib.Signed.{◌<ℤ◌}
use Rattle.algebra.specs.Gcd.{gcd}
use Rattle.rational.specs.Fraction.{Fraction, quotient}
use Rattle.rational.proofs.FieldLaws.{quotient-lowest}
use Rattle.frac128.specs.declared.fraction.Frac.TheInside.{Inside}

abbrev pub view_of : Inside → Fraction
view_of f = quotient f.num (nat_abs f.den)

pub record IsReduced (f : Inside) : Type 0 where
  pub positive : pos 0 <ℤ f.den
  pub coprime : gcd (nat_abs f.num) (nat_abs f.den) ≡ 1
  pub num_bound : nat_abs f.num < 2 ^ 127
  pub den_bound : nat_abs f.den < 2 ^ 127

abbrev pub fields_of : Fraction → Inside
fields_of x = record { num = x.num; den = pos x.den }

of_positive : (z : ℤ) → pos 0 <ℤ z → (pos (nat_abs z) ≡ z) × (0 < nat_abs z)
of_positive (pos n) h = (refl, omega (arith, ints))
of_positive (negsuc n) h = absurd (omega (arith, ints))

abbrev inside : ℤ → ℤ → Inside
inside n d = record { num = n; den = d }

pub fields_of-view_of : (f : Inside) → IsReduced f → fields_of (view_of f) ≡ f
fields_of-view_of f h =
    let p = of_positive f.den h.positive in
    let e = quotient-lowest f.num (nat_abs f.den) p.1 h.coprime in
    ap fields_of e ∙ ap (λ (d : ℤ). inside f.num d) p.0
