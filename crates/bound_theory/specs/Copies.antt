-- A theory's own copy of a formula.
use Rattle.std.specs.Prelude.{◌≡◌}
use Rattle.std.specs.List.{All}
use Rattle.formula.specs.Contents.{Contents}
use Rattle.theory_law.specs.Seen.{IsMine}
use Rattle.bound_theory.specs.Bounds.{is_taken}

-- the same variables and Booleans, each a truth variable or a bound of a count
pub record Copies (f copy : Contents) : Type 0 where
  pub counts : copy.counts ≡ f.counts
  pub atoms : copy.atoms ≡ f.atoms
  pub mine : All (IsMine is_taken f.counts) f.atoms
