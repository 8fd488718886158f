-- Increments that are made again and again, and what an expression does meanwhile. The rules are those of linear algebra.
use Rattle.std.specs.Prelude.{ℕ, pos}
use Rattle.rational.specs.Fraction.{Fraction, whole, ◌+ℚ◌, ◌*ℚ◌}
use Rattle.rational.specs.Linear.{Terms, value_at, coefficient_of}

-- the values after the increments were made n times
abbrev pub grown : Terms → ℕ → (ℕ → Fraction) → ℕ → Fraction
grown incs n old f = old f +ℚ whole (pos n) *ℚ coefficient_of f incs

-- what making them once adds to the value of an expression: each amount times the coefficient of its function
abbrev pub change_of : Terms → Terms → Fraction
change_of incs terms = value_at (λ f. coefficient_of f terms) incs
