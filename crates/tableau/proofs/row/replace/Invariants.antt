use Rattle.std.proofs.Common.{◌≡◌, ℕ, ◌<◌}
use Rattle.tableau.specs.Table.{at}
use Rattle.tableau.specs.Pivot.{replaced}
use Rattle.tableau.specs.inside.Rows.{BothFit}
use Rattle.tableau.proofs.row.replace.Given as goal

abbrev pub invariant-loop-j : goal.invariant-loop-j
invariant-loop-j l = ((j : ℕ) → j < l.j → BothFit (at l.row) (at l.solved) l.e j) × ((j : ℕ) → j < l.j → at l.into j ≡ replaced (at l.row) (at l.solved) l.e j)
