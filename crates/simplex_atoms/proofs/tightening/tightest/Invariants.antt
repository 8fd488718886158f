use Rattle.std.proofs.Common.{take}
use Rattle.simplex_atoms.specs.Tightest.{AreTightest}
use Rattle.simplex_atoms.proofs.tightening.tightest.Given as goal

abbrev pub invariant-loop-lit : goal.invariant-loop-lit
invariant-loop-lit l = AreTightest l.sides (take l.lit-index l.lits) l.pos l.n l.bounds.items l.by.items
