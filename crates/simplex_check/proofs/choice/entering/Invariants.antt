use Rattle.std.proofs.Common.{ℕ, ◌<◌, ◌≡◌, false}
use Rattle.tableau.specs.Table.{is_basic}
use Rattle.simplex_law.specs.Config.{pair_at, Helps}
use Rattle.simplex_check.specs.Checks.{limits}
use Rattle.simplex_check.proofs.choice.entering.Given as goal

abbrev pub invariant-loop-j : goal.invariant-loop-j
invariant-loop-j l = (j : ℕ) → j < l.j → is_basic l.t j ≡ false → ¬ (Helps (limits l.lower l.upper) l.t (pair_at l.place) l.r l.side j)
