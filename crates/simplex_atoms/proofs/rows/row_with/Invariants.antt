use Rattle.std.proofs.Common.{◌≡◌, ◌+◌, drop}
use Rattle.simplex_atoms.specs.LeftSides.{row_with}
use Rattle.simplex_atoms.proofs.rows.row_with.Given as goal

abbrev pub invariant-loop-i : goal.invariant-loop-i
invariant-loop-i l = row_with l.side.terms l.rows ≡ l.i + row_with l.side.terms (drop l.i l.rows)
