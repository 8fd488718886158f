-- Why there is room for the next literal, and for the next mark.
use Rattle.std.specs.Prelude.{ℕ, ◌+◌, ◌<◌, ◌≤◌, ◌==◌, List, [], ◌∷◌, Option, Some, None, if◌then◌else◌}
use Rattle.std.specs.List.{All}
use Rattle.formula.specs.declared.atom.Lit.{Lit}
use Rattle.theory_law.specs.Seen.{marks}

-- how often a literal of the Boolean is asserted
abbrev pub times : ℕ → List (Option Lit) → ℕ
times b [] = 0
times b (None ∷ events) = times b events
times b (Some l ∷ events) = (if l.boolean == b then 1 else 0) + times b events

-- a mark, or a literal of one of so many Booleans
abbrev pub IsBelow : ℕ → Option Lit → Type 0
IsBelow booleans None = Unit {0}
IsBelow booleans (Some l) = l.boolean < booleans

-- each Boolean is asserted once at most, there are no more marks than Booleans, and room for two events a Boolean
pub record HasRoom (booleans capacity : ℕ) (events : List (Option Lit)) : Type 0 where
  pub below : All (IsBelow booleans) events
  pub once : (b : ℕ) → times b events ≤ 1
  pub marked : marks events ≤ booleans
  pub room : booleans + booleans ≤ capacity
