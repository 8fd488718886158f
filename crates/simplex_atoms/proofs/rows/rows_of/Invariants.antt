use Rattle.std.proofs.Common.{◌≡◌, drop}
use Rattle.simplex_atoms.specs.LeftSides.{with_atoms, rows_of}
use Rattle.simplex_atoms.proofs.rows.rows_of.Given as goal

abbrev pub invariant-loop-atom : goal.invariant-loop-atom
invariant-loop-atom l = with_atoms l.rows.items (drop l.atom-index l.atoms) ≡ rows_of l.atoms
