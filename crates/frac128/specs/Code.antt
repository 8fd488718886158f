-- A fraction is stored as its two numbers.
use Rattle.std.specs.Prelude.{ℕ}
use lib.IntN.{ℤ}
use Rattle.std.specs.Coded.{Coded, code_by, coded×, coded_ℤ, coded_ℕ}
use Rattle.rational.specs.Fraction.{Fraction, quotient}
use Rattle.rational.proofs.FieldLaws.{quotient-itself}

abbrev pub fraction_code : Coded Fraction
fraction_code = code_by (ℤ × ℕ) (coded× coded_ℤ coded_ℕ) (λ x. (x.num, x.den)) (λ p. quotient p.0 p.1) quotient-itself
