use Rattle.std.proofs.Common.{ℕ, ◌≡◌, ◌≤◌}
use Rattle.simplex_check.specs.Known.{known_at}
use Rattle.simplex_check.specs.inside.Moving.{Moves}
use Rattle.simplex_check.proofs.moving.move_values.Given as goal

abbrev pub invariant-loop-i : goal.invariant-loop-i
invariant-loop-i l = Moves l.t l.r l.way l.i l.fn.known l.known × ((k : ℕ) → l.i ≤ k → known_at l.known k ≡ known_at l.fn.known k)
