use Rattle.std.proofs.Common.{◌≡◌, ◌≢◌, ℕ, ◌<◌}
use lib.IntN.{pos}
use Rattle.rational.specs.Fraction.{whole}
use Rattle.tableau.specs.Table.{at}
use Rattle.tableau.specs.Named.{FitsAt}
use Rattle.tableau.specs.Pivot.{share, solved}
use Rattle.tableau.specs.inside.Rows.{sharing}
use Rattle.tableau.proofs.row.solve.Given as goal

abbrev pub invariant-loop-j : goal.invariant-loop-j
invariant-loop-j l = ((j : ℕ) → j < l.j → j ≢ l.e → share (at l.row) l.r j ≢ whole (pos 0) → FitsAt (sharing (at l.row) l.r l.e j)) × ((j : ℕ) → j < l.j → at l.into j ≡ solved (at l.row) l.r l.e j)
