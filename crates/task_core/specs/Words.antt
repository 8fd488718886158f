-- Counted parts, and words of n copies of a pattern (this project, after symbolic patterns: Cardellini, Giunchiglia and
-- Maratea 2024). What a place of the pattern stands for is open: the number of a ground action, or an instance.
use Rattle.std.specs.Prelude.{◌≡◌, ◌⊎◌, ℕ, ◌≤◌, Bool, IsTrue, List, map, length, replicate}
use Rattle.std.specs.List.{AllByRecursion, flat_map}

-- counted parts stand for the list in which each is written out as often as it counts
abbrev pub written_out : {X : Type 0} → List (ℕ × X) → List X
written_out parts = flat_map (λ p. replicate p.0 p.1) parts

-- a piece: each place of the pattern with its count, which is at most 1 unless the place rolls
pub record IsPiece {X : Type 0} (rolls : X → Bool) (pattern : List X) (piece : List (ℕ × X)) : Type 0 where
  pub places : map (λ p. p.1) piece ≡ pattern
  pub counts : AllByRecursion (λ p. IsTrue (rolls p.1) ⊎ (p.0 ≤ 1)) piece

-- a word of n copies: n pieces in a row, written out
pub record IsWord {X : Type 0} (rolls : X → Bool) (pattern : List X) (n : ℕ) (word : List X) : Type 0 where
  pub pieces : List (List (ℕ × X))
  pub copies : length pieces ≡ n
  pub each : AllByRecursion (IsPiece rolls pattern) pieces
  pub spelled : flat_map written_out pieces ≡ word
