-- Bounds of counts, and when two of them exclude each other: `v <= k`, and not `v <= m` for an m that isn't below k.
use Rattle.std.specs.Prelude.{◌≡◌, ◌≢◌, ◌<◌, ◌⊎◌, ℕ, Bool, true, false, List, Option, Some, slice_get}
use Rattle.std.specs.List.{All, Contains}
use Rattle.rational.specs.Fraction.{Fraction, ◌≤ℚ◌}
use Rattle.formula.specs.declared.atom.Atom.{Atom}
use Rattle.formula.specs.declared.atom.Lit.{Lit}
use Rattle.formula.specs.Atoms.{is_one_count}
use Rattle.formula.specs.Contents.{is_clause}
use Rattle.formula.specs.Reading.{opposite}
use Rattle.theory_law.specs.Splits.{CanSplit, at_most}
use Rattle.theory_law.specs.Seen.{IsAsserted}
use Rattle.theory_law.specs.declared.trace.Coefs.{Coefs}
use Rattle.bound_theory.specs.declared.bound.Bound.{Bound}
use Rattle.bound_theory.specs.declared.clashing.Excluded.{Excluded}

-- the theory takes the atoms of one count
abbrev pub is_taken : List Bool → Atom → Bool
is_taken counts a = is_one_count counts a.lin.terms

-- the Boolean's atom is this bound of a count
pub record IsBound (counts : List Bool) (atoms : List (Option Atom)) (b : ℕ) (bound : Bound) : Type 0 where
  pub at : slice_get atoms b ≡ Some (Some (at_most bound.var bound.most))
  pub splits : CanSplit counts bound.var bound.most

-- a count is at most k, and not at most m, where m isn't below k
pub record Exclude (counts : List Bool) (atoms : List (Option Atom)) (upper lower : Lit) : Type 0 where
  pub var : ℕ
  pub k : Fraction
  pub m : Fraction
  pub upper_is : IsBound counts atoms upper.boolean (record { var = var; most = k })
  pub lower_is : IsBound counts atoms lower.boolean (record { var = var; most = m })
  pub affirmed : upper.pos ≡ true
  pub denied : lower.pos ≡ false
  pub apart : upper.boolean ≢ lower.boolean
  pub order : k ≤ℚ m

-- two asserted literals
pub record ExcludesSome (counts : List Bool) (atoms : List (Option Atom)) (events : List (Option Lit)) (e : Excluded) : Type 0 where
  pub upper : IsAsserted events e.upper
  pub lower : IsAsserted events e.lower
  pub exclude : Exclude counts atoms e.upper e.lower

-- a clause of these two literals, in rising order
pub record IsPair (a b : Lit) (clause : List Lit) : Type 0 where
  pub first : Contains clause a
  pub second : Contains clause b
  pub only : All (λ l. (l ≡ a) ⊎ (l ≡ b)) clause
  pub rising : (n : ℕ) → a.boolean < n → b.boolean < n → is_clause n clause ≡ true

-- the lemmas of this theory: of two bounds that exclude each other one is false
abbrev pub IsBoundLemma : List Bool → List (Option Atom) → List Lit → Coefs → Type 0
IsBoundLemma counts atoms clause why = (upper lower : Lit) × Exclude counts atoms upper lower × Contains clause (opposite upper) × Contains clause (opposite lower)
