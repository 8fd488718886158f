-- Ground states, and when a literal or a comparison holds in one (PDDL 2.1, level 2, with atoms and functions as numbers).
use Rattle.std.specs.Prelude.{◌≡◌, ℕ, Bool, pos}
use Rattle.rational.specs.Fraction.{Fraction, whole, ◌≤ℚ◌, ◌<ℚ◌}
use Rattle.lin.specs.Linear.{Linear, value_of}
use Rattle.lin.specs.declared.comparison.Cmp.{Cmp}
use Rattle.lin.specs.declared.comparison.Cmp.TheVariants.{Le, Lt, Eq}

-- a truth for each atom and a fraction for each function
pub record State : Type 0 where
  pub truth : ℕ → Bool
  pub value : ℕ → Fraction

-- an atom, and the truth that is asked for
abbrev pub LiteralHolds : State → ℕ × Bool → Type 0
LiteralHolds s l = s.truth l.0 ≡ l.1

-- a value compares with 0
abbrev pub ComparesToZero : Cmp → Fraction → Type 0
ComparesToZero Le x = x ≤ℚ whole (pos 0)
ComparesToZero Lt x = x <ℚ whole (pos 0)
ComparesToZero Eq x = x ≡ whole (pos 0)

-- an expression, and how its value is to compare with 0
abbrev pub ComparisonHolds : State → Linear × Cmp → Type 0
ComparisonHolds s c = ComparesToZero c.1 (value_of s.value c.0)
