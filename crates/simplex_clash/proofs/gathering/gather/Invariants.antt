use Rattle.std.proofs.Common.{◌≡◌, ◌++◌}
use Rattle.tableau.specs.Table.{cell}
use Rattle.simplex_atoms.specs.Tightest.{number_at}
use Rattle.simplex_clash.specs.Parts.{parts_below}
use Rattle.simplex_clash.proofs.gathering.gather.Given as goal

abbrev pub invariant-loop-j : goal.invariant-loop-j
invariant-loop-j l = l.parts.items ≡ l.initial.parts.items ++ parts_below l.side (cell l.t l.r) (number_at l.lower_by) (number_at l.upper_by) l.j
